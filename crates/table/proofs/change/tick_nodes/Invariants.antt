use Rattle.table.proofs.Rounds.{Rest}
use Rattle.table.specs.Words.{Held}
use Rattle.table.specs.Parts.{Each, ticked_cell}
use Rattle.table.proofs.change.tick_nodes.Given as goal

abbrev pub invariant-loop-k : goal.invariant-loop-k
invariant-loop-k l = Rest l.k-iterator × (Held l.initial.t → Each (λ j x. ticked_cell x) l.initial.t l.k-iterator.next l.t)
