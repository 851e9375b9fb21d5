use Rattle.std.proofs.Common.{◌+◌, ◌*◌, take}
use Rattle.text.specs.Rules.{hex, sheet, Wrote}
use Rattle.gridconnect.proofs.writer.store_data.Given as goal

abbrev pub invariant-loop-i : goal.invariant-loop-i
invariant-loop-i l = Wrote (sheet l.initial.text 11) (take (2 * l.i) (hex 16 l.bytes)) (sheet l.text (11 + 2 * l.i))
