-- What the theorems of proofs/NodeId.antt speak of; these definitions are to be believed.
use Rattle.std.specs.Prelude.{◌≡◌, ℕ}
use Rattle.node.specs.Rules.{is_off, Order, power_on, warm_on}
use Rattle.node.specs.declared.Node.{Node}

-- A power-on with this Node ID, of either sort.
pub data Starts (id : ℕ) : Order → Type 0 where
  coldly : Starts id (power_on id)
  warmly : {flag state : ℕ} → Starts id (warm_on id flag state)

-- The node m has the Node ID of n, and is Off where n is.
pub record SameId (n m : Node) : Type 0 where
  pub id : m.own.id ≡ n.own.id
  pub off : is_off m.phase ≡ is_off n.phase
