use mathlib.Core.Path.{sym, ap, ◌∙◌}
use native.Mathlib.Omega.{arith}
use lib.ListN.{length, drop, length-drop}
use Prim.Native.Nat.{◌-◌}
use lib.Seq.{take_all}
use Rattle.script.specs.Rules.{read_of}
use Rattle.script.proofs.Forms.{reads_end}
use Rattle.script.proofs.command.read_at.Goals as goal

pub returns-then-at-script : goal.returns-then-at-script
returns-then-at-script c = c.read_command.ensures ∙ ap read_of (take_all (length c.args.script.now - c.args.at) (drop c.args.at c.args.script.now) (omega (arith, length-drop c.args.at c.args.script.now)))

pub returns-else-at-script : goal.returns-else-at-script
returns-else-at-script c = sym (reads_end (drop c.args.at c.args.script.now) (omega (arith, length-drop c.args.at c.args.script.now)))
