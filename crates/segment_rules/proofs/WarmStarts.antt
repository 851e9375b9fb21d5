-- A.9: what is read out and given back at power-on brings the alias that the node had; and command 0A with flag 0 does to every segment
-- what command 01 does. `Same`, `back` and `Returns`, in specs/WarmStarts.antt, are to be believed, with the laws that say
-- them, `flag-0` and `given_back`.
use Rattle.std.specs.Prelude.{◌≡◌, refl, false, cond, [], ℕ, ◌<◌, leb, eqb}
use Rattle.std.proofs.Common.{ap, subst, ◌∙◌, lt-ltb, eq-eqb}
use Rattle.std.proofs.lemmas.Bool.{lt-leb}
use Rattle.headers.proofs.Laws.{passed, was-accepted}
use Rattle.node.specs.Rules as N
use Rattle.node.specs.Rules.{Answer, accepted, refused, refuse, Value, done, wait, is_off, fresh, resulting, on_order, on_warm_on, read_out_of}
use Rattle.node.specs.Sound.{Sound}
use Rattle.headers.specs.Answers.{bit_of}
use Rattle.node.proofs.Warm.{warm-cold, given_back as node-back}
use Rattle.node.specs.declared.Generator.{Generator}
use Rattle.node.specs.declared.Node.{Node}
use Rattle.segment_rules.specs.Rules.{places, place, Segment, segment, Command, power_on, warm_on, some_other, has_id, then_in_use, indexed, read_out_at, answer, plain, stays, begins, place_by, effect, within, step_by, step, Ages, ages_by, passes, age_by}
use Rattle.segment_rules.specs.WarmStarts.{Same, back, Returns}

module _ (S : Segment) (n id x : ℕ) where
  -- at every node
  at-node : (k : ℕ) → on_order wait (S.at k).node (N.warm_on id 0 x) ≡ on_order wait (S.at k).node (N.power_on id)
  at-node k = warm-cold (S.at k).node id x

  answered : answer S (warm_on n id 0 x) ≡ answer S (power_on n id)
  answered = λ z. indexed n (then_in_use (at-node n z).answer (some_other (has_id id) n places S))

  at_place : (k : ℕ) → effect S (warm_on n id 0 x) k ≡ effect S (power_on n id) k
  at_place k = λ z. cond (eqb k n) (begins (at-node k z).node) stays

  -- Commands 01 and 0A with flag 0, whatever the state is.
  pub flag-0 : Same S (warm_on n id 0 x) (power_on n id)
  flag-0 = record {
    told = λ z. record { answer = answered z; besides = plain };
    segment = ap (λ (a : Answer Value). step_by a S (warm_on n id 0 x)) answered ∙ stepped (answer S (power_on n id));
    ages = λ G. ap (λ (a : Answer Value). age_by 0 a S G (warm_on n id 0 x)) answered ∙ aged (answer S (power_on n id)) G;
  }
    where
      stepped : (a : Answer Value) → step_by a S (warm_on n id 0 x) ≡ step_by a S (power_on n id)
      stepped (accepted v) = λ z. segment (within (λ k. place_by (at_place k z) (S.at k)) S.at) S.mark
      stepped (refused number) = refl

      aged : (a : Answer Value) (G : ℕ → Ages) → age_by 0 a S G (warm_on n id 0 x) ≡ age_by 0 a S G (power_on n id)
      aged (accepted v) G = λ z. within (λ k. passes 0 (place_by (at_place k z) (S.at k)).node (ages_by (at_place k z) (S.at k).node (G k))) G
      aged (refused number) G = refl

-- A free index: no other has the Node ID. What is at the index itself does not count.
pub given_back : (S T : Segment) (i j : ℕ) (g : Generator) → Sound (S.at i).node → read_out_at S i ≡ accepted g → j < places
    → some_other (has_id (S.at i).node.own.id) j places T ≡ false → Returns T j (S.at i).node g
unfolding read_out_of
given_back S T i j g h e hj free = subst (Returns T j n) is (record { accepted = said; place = at })
  where
    n : Node
    n = (S.at i).node

    out : read_out_of n ≡ accepted g
    out = (passed (leb places i) 1 (read_out_of n) g e).1

    on : is_off n.phase ≡ false
    on = (was-accepted (is_off n.phase) 2 n.generator g out).0

    is : n.generator ≡ g
    is = (was-accepted (is_off n.phase) 2 n.generator g out).1

    m : Node
    m = (T.at j).node

    begun : Node
    begun = fresh n.own.id n.alias n.generator

    at-node : on_warm_on m n.own.id (bit_of n.generator.past) n.generator.state ≡ resulting (accepted done) m begun
    at-node = node-back m n h on

    c : Command
    c = back j n.own.id n.generator

    said : answer T c ≡ accepted done
    said = λ z. refuse (lt-leb places j hj z) 1 (then_in_use (at-node z).answer (free z))

    at : (step T c).at j ≡ place begun []
    at =
        ap (λ (a : Answer Value). (step_by a T c).at j) said
        ∙ (λ z. cond (lt-ltb j places hj z) (place_by (cond (eq-eqb j j refl z) (begins (at-node z).node) stays) (T.at j)) (T.at j))
