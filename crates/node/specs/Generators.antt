-- What the theorems of proofs/Generators.antt speak of; these definitions are to be believed.
use Rattle.std.specs.Prelude.{◌≡◌, ◌⊎◌, ℕ}
use Rattle.node.specs.Rules.{restart, Order, Event, order}
use Rattle.node.specs.NodeId.{Starts}
use Rattle.node.specs.declared.Node.{Node}

-- The event is a power-on, of either sort.
pub data StartsBy : Event → Type 0 where
  starts_by : {id : ℕ} {x : Order} → Starts id x → StartsBy (order x)

-- The node m is n restarted, or has the generator of n.
abbrev pub StepsOrKeeps : (n m : Node) → Type 0
StepsOrKeeps n m = (m ≡ restart n) ⊎ (m.generator ≡ n.generator)
