-- What the theorems of proofs/NodeIds.antt speak of; these definitions are to be believed.
use Rattle.std.specs.Prelude.{◌≡◌, ◌≢◌, false, ℕ, ◌<◌}
use Rattle.node.specs.Rules.{is_off}
use Rattle.node.specs.declared.Node.{Node}
use Rattle.segment_rules.specs.Rules.{places, Segment}

-- Two nodes that are not Off have two Node IDs.
abbrev pub Apart : (n m : Node) → Type 0
Apart n m = is_off n.phase ≡ false → is_off m.phase ≡ false → n.own.id ≢ m.own.id

abbrev pub AllApart : Segment → Type 0
AllApart S = (p q : ℕ) → p < places → q < places → p ≢ q → Apart (S.at p).node (S.at q).node
