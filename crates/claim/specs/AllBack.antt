-- What the theorems of proofs/AllBack.antt speak of; these definitions are to be believed.
use Rattle.std.specs.Prelude.{List, [], ◌∷◌, ◌++◌, ltb}
use Rattle.std.proofs.Math.Bool.{cond}
use Prim.Native.Nat.{ℕ, zero, suc}
use Rattle.node.specs.Rules.{accepted, done, is_off, fresh}
use Rattle.node.specs.declared.Node.{Node}
use Rattle.segment_rules.specs.Rules.{Place, place, Segment, blank, Command, Told}
use Rattle.segment_rules.specs.WarmStarts.{back}
use Rattle.table.specs.Promise.{plainly}

-- The read-outs of the first m places given back, one after another; a node that is Off has none.
unfoldable pub backs : Segment → (m : ℕ) → List Command
backs S zero = []
backs S (suc m) = let n = (S.at m).node in cond (is_off n.phase) (backs S m) (backs S m ++ back m n.own.id n.generator ∷ [])

-- Each is answered by this,
unfoldable pub all_accepted : Segment → (m : ℕ) → List Told
all_accepted S zero = []
all_accepted S (suc m) = cond (is_off (S.at m).node.phase) (all_accepted S m) (all_accepted S m ++ plainly (accepted done) ∷ [])

-- and what then stands at a place: a node that tests the alias that was there, or one that is Off.
abbrev pub returned : Node → Place
returned n = cond (is_off n.phase) blank (place (fresh n.own.id n.alias n.generator) [])

abbrev pub returned_at : Segment → (m k : ℕ) → Place
returned_at S m k = cond (ltb k m) (returned (S.at k).node) blank
