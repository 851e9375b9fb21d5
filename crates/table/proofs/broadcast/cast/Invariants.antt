use Rattle.segment_rules.specs.Rules.{places}
use Rattle.table.specs.Places.{index_or}
use Rattle.table.specs.Words.{Held}
use Rattle.table.specs.Parts.{Each, broadcast}
use Rattle.table.proofs.Rounds.{Rest}
use Rattle.table.proofs.broadcast.cast.Given as goal

abbrev pub invariant-loop-to : goal.invariant-loop-to
invariant-loop-to l = Rest l.to-iterator × (Held l.initial.t → Each (broadcast (index_or places l.from) l.f) l.initial.t l.to-iterator.next l.t)
