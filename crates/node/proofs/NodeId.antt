-- A node's Node ID: power-on gives it, and no other event changes it or whether the node is Off.
use Rattle.std.specs.Prelude.{◌≡◌, ◌⊎◌, ℕ}
use Rattle.std.proofs.Math.Path.{refl, sym}
use Rattle.std.proofs.Common.{◌∙◌}
use Rattle.std.proofs.Math.Logic.{inl, inr}
use Rattle.node.specs.Rules.{fresh, restart, moved, counted, waits, linked, tick_of, received, on_leave, Order, power_on, fail, message, enquiry, release, link, warm_on, on_order}
use Rattle.node.proofs.Given.{power-given, warm-given}
use Rattle.node.specs.Ways.{Ways}
use Rattle.node.proofs.Ways.{ticked, leaving, failing, hearing, messaging, enquiring, releasing, linking}
use Rattle.headers.specs.declared.frame.Frame.{Frame}
use Rattle.node.specs.declared.Node.{Node}
use Rattle.node.specs.NodeId.{Starts, warmly, coldly, SameId}

module _ (n : Node) where
  pub itself : SameId n n
  itself = record { id = refl; off = refl }

  -- each way keeps it, but for power-on
  ways : Ways n (SameId n)
  unfolding waits counted moved restart linked
  ways = record {
    itself = itself;
    by-waits = λ w. record { id = refl; off = refl };
    by-counted = λ on p o. record { id = refl; off = o ∙ sym on };
    by-moved = λ on p o. record { id = refl; off = o ∙ sym on };
    by-restart = λ on. record { id = refl; off = sym on };
    by-linked = λ l. record { id = refl; off = refl };
    by-told = λ l w. record { id = refl; off = refl };
  }

  pub tick-id : (w : ℕ) → SameId n (tick_of w n)
  tick-id = ticked n (SameId n) ways

  pub leave-id : (w : ℕ) → SameId n (on_leave w n).node
  leave-id = leaving n (SameId n) ways

  pub received-id : (f : Frame) → SameId n (received n f)
  received-id = hearing n (SameId n) ways

  -- An order is a power-on that gives the node its Node ID, or changes neither.
  pub order-id : (w : ℕ) (x : Order) → ((id : ℕ) × Starts id x × ((on_order w n x).node.own.id ≡ id)) ⊎ SameId n (on_order w n x).node
  unfolding fresh
  order-id w (power_on id) =
      power-given (λ m. ((i : ℕ) × Starts i (power_on id) × (m.own.id ≡ i)) ⊎ SameId n m) n (inr itself) id
      (λ a e. inl (id, coldly, refl))
  order-id w (warm_on id flag x) =
      warm-given (λ m. ((i : ℕ) × Starts i (warm_on id flag x) × (m.own.id ≡ i)) ⊎ SameId n m) n (inr itself) id flag x
      (λ a e. inl (id, warmly, refl))
      (λ a e l. inl (id, warmly, refl))
  order-id w fail = inr (failing n (SameId n) ways w)
  order-id w (message f l b) = inr (messaging n (SameId n) ways f l b)
  order-id w (enquiry l b) = inr (enquiring n (SameId n) ways l b)
  order-id w release = inr (releasing n (SameId n) ways)
  order-id w (link s) = inr (linking n (SameId n) ways s)
