use Rattle.gridconnect.specs.Digits.{SoFar}
use Rattle.gridconnect.proofs.digits.number.Given as goal

abbrev pub invariant-loop-b : goal.invariant-loop-b
invariant-loop-b l = SoFar l.digits l.n l.b-index
