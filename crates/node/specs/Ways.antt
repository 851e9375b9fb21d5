-- What the theorems of proofs/Ways.antt speak of; these definitions are to be believed.
use Rattle.std.specs.Prelude.{◌≡◌, false}
use Rattle.node.specs.Rules.{is_off, restart, moved, counted, waits, linked}
use Rattle.node.specs.declared.Node.{Node}
use Rattle.state.specs.declared.Link.{Link}
use Rattle.state.specs.declared.Waiting.{Waiting}
use Rattle.state.specs.declared.Phase.{Phase}

-- Q of the node that was, and of the one after each way; a node that is Off has something else waiting, or another link, at most.
pub record Ways (n : Node) (Q : Node → Type 0) : Type 0 where
  pub itself : Q n
  pub by-waits : (w : Waiting) → Q (waits n w)
  pub by-counted : is_off n.phase ≡ false → (p : Phase) → is_off p ≡ false → Q (counted n p)
  pub by-moved : is_off n.phase ≡ false → (p : Phase) → is_off p ≡ false → Q (moved n p)
  pub by-restart : is_off n.phase ≡ false → Q (restart n)
  pub by-linked : (l : Link) → Q (linked n l)
  pub by-told : (l : Link) (w : Waiting) → Q (waits (linked n l) w)
