-- A node's generator (A.9): power-on sets it, a restart steps it and so makes the first alias past, and no other event changes its
-- state or whether the first alias is past.
use Rattle.std.specs.Prelude.{◌≡◌, refl, ◌⊎◌, true, ℕ}
use Rattle.std.proofs.Math.Logic.{inl, inr}
use Rattle.node.specs.Rules.{step, generator, restart, moved, counted, waits, linked, power_on, fail, message, enquiry, release, link, warm_on, Event, order, leave, receive, tick, outcome}
use Rattle.node.proofs.Given.{receives-given}
use Rattle.node.specs.NodeId.{coldly, warmly}
use Rattle.node.specs.Ways.{Ways}
use Rattle.node.proofs.Ways.{ticked, leaving, failing, hearing, messaging, enquiring, releasing, linking}
use Rattle.node.specs.declared.Node.{Node}
use Rattle.node.specs.Generators.{StartsBy, starts_by, StepsOrKeeps}

-- A restart steps the generator, and the first alias is past.
pub restart-steps : (n : Node) → (restart n).generator ≡ generator (step n.generator.state) true
unfolding restart
restart-steps n = refl

module _ (n : Node) where
  abbrev Q : Node → Type 0
  Q m = StepsOrKeeps n m

  -- each way does, but for power-on
  ways : Ways n Q
  unfolding waits counted moved linked
  ways = record {
    itself = inr refl;
    by-waits = λ w. inr refl;
    by-counted = λ on p o. inr refl;
    by-moved = λ on p o. inr refl;
    by-restart = λ on. inl refl;
    by-linked = λ l. inr refl;
    by-told = λ l w. inr refl;
  }

  -- Every event is a power-on, or restarts the node, or keeps the generator; refused ones too.
  pub event-generator : (w : ℕ) (e : Event) → StartsBy e ⊎ StepsOrKeeps n (outcome w n e).node
  event-generator w (order (power_on id)) = inl (starts_by coldly)
  event-generator w (order (warm_on id flag x)) = inl (starts_by warmly)
  event-generator w (order fail) = inr (failing n Q ways w)
  event-generator w (order (message f l b)) = inr (messaging n Q ways f l b)
  event-generator w (order (enquiry l b)) = inr (enquiring n Q ways l b)
  event-generator w (order release) = inr (releasing n Q ways)
  event-generator w (order (link s)) = inr (linking n Q ways s)
  event-generator w leave = inr (leaving n Q ways w)
  event-generator w (receive f) = inr (receives-given Q n (inr refl) f (hearing n Q ways f))
  event-generator w tick = inr (ticked n Q ways w)
