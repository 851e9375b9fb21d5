use Rattle.std.proofs.Common.{take}
use Rattle.text.specs.Rules.{Puts}
use Rattle.text.proofs.buffer.Sheet.put_all.Given as goal

abbrev pub invariant-loop-b : goal.invariant-loop-b
invariant-loop-b l = Puts l.initial.self (take l.b-index l.bytes) l.self
