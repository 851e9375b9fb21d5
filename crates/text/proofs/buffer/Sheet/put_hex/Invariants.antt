use Rattle.std.proofs.Common.{◌*◌, ◌-◌}
use Rattle.text.specs.Rules.{hex, without, Puts}
use Rattle.text.proofs.buffer.Sheet.put_hex.Given as goal

abbrev pub invariant-loop-i : goal.invariant-loop-i
invariant-loop-i l = Puts l.initial.self (hex (2 * (l.bytes - l.i)) (without (2 * l.i) l.n)) l.self
