use Rattle.std.proofs.Common.{◌≡◌, ◌<◌, ◌^◌}
use Rattle.script.specs.Rules.{number}
use Rattle.script.proofs.command.number.Given as goal

abbrev pub invariant-loop-i : goal.invariant-loop-i
invariant-loop-i g l = (l.n ≡ number l.s l.from l.i) × (l.n < 256 ^ l.i)
