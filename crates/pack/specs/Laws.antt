-- A node's words: those that are alike hold one node, or one in another phase; a node comes back from its own; and words of 0
-- hold one that is Off.
use Rattle.std.specs.Prelude.{◌≡◌, refl, ◌≢◌, List, [], ◌∷◌, ℕ, ◌<◌, get_or}
use Rattle.std.proofs.Common.{ap, ◌∙◌, arith}
use Rattle.node.specs.Rules.{generator, off_node, counted}
use Rattle.node.specs.declared.Node.{Node}
use Rattle.state.specs.declared.Phase.{Phase}
use Rattle.pack.specs.Words.{alias_from, link_in, past_in, phase_at, phase_in, host_at, host_bytes, waiting_from, node_words, node_from, StateOf, Rephased}

pub node-same : (v w : ℕ → ℕ) → ((j : ℕ) → j < node_words → v j ≡ w j) → node_from v ≡ node_from w
node-same v w e = λ i. record {
  own = record { id = e 0 (omega arith) i; link = link_in (e 2 (omega arith) i) };
  generator = generator (e 1 (omega arith) i) (past_in (e 2 (omega arith) i));
  alias = alias_from (e 2 (omega arith) i);
  phase = phase_in (e 2 (omega arith) i);
  waiting = waiting_from (e 2 (omega arith) i) (host_at (e 3 (omega arith) i) (e 4 (omega arith) i));
}

-- those that are alike but for the phase, in word 2
pub node-phased : (v w : ℕ → ℕ) (p : Phase) → ((j : ℕ) → j < node_words → j ≢ 2 → v j ≡ w j) → Rephased (w 2) p (v 2) → node_from v ≡ counted (node_from w) p
unfolding counted
node-phased v w p e r = λ i. record {
  own = record { id = e 0 (omega arith) (omega arith) i; link = r.link i };
  generator = generator (e 1 (omega arith) (omega arith) i) (r.past i);
  alias = r.alias i;
  phase = r.phase i;
  waiting = (ap (waiting_from (v 2)) (λ j. host_at (e 3 (omega arith) (omega arith) j) (e 4 (omega arith) (omega arith) j)) ∙ r.waiting (host_at (w 3) (w 4))) i;
}

-- a node's words, those of its state and of the host's order given
abbrev pub words_of : Node → (w h d : ℕ) → List ℕ
words_of n w h d = n.own.id ∷ n.generator.state ∷ w ∷ h ∷ d ∷ []

pub node-back : (n : Node) (w h d : ℕ) → StateOf n w → host_at h (host_bytes n.waiting.host) ≡ n.waiting.host → d ≡ host_bytes n.waiting.host
    → node_from (λ j. get_or (words_of n w h d) j 0) ≡ n
node-back n w h d s eh ed =
    let e : host_at h d ≡ n.waiting.host = ap (host_at h) ed ∙ eh in
    λ i. record {
      own = record { id = n.own.id; link = s.link i };
      generator = generator n.generator.state (s.past i);
      alias = s.alias i;
      phase = s.phase i;
      waiting = (ap (waiting_from w) e ∙ s.waiting) i;
    }

pub node-zero : node_from (λ j. 0) ≡ off_node
unfolding phase_at host_at off_node
node-zero = refl
