use Rattle.table.specs.Parts.{Oldest}
use Rattle.table.proofs.Rounds.{Rest}
use Rattle.table.proofs.lateness.oldest.Given as goal

abbrev pub invariant-loop-k : goal.invariant-loop-k
invariant-loop-k l = Rest l.k-iterator × Oldest l.t l.k-iterator.next l.most
