-- What the theorems of proofs/Warm.antt speak of; these definitions are to be believed.
use Rattle.std.specs.Prelude.{Bool, not, eqb}
use Rattle.std.proofs.Math.Bool.{false}
use Rattle.node.specs.Rules.{Answer, accepted, refused, Value}

-- A refusal that is tested before 15 (A.6): any but 18.
abbrev pub is_before15 : Answer Value → Bool
is_before15 (accepted v) = false
is_before15 (refused number) = not (eqb number 18)
