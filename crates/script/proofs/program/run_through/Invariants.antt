use Rattle.std.proofs.Common.{◌≡◌}
use Rattle.script.specs.Turns.{Standing, left}
use Rattle.script.proofs.Turns.{going_on}
use Rattle.script.proofs.program.run_through.Given as goal

abbrev pub invariant-commands : goal.invariant-commands
invariant-commands l =
    (l.reader.script.now ≡ l.script)
    × (l.sheet.out.ghost_name ≡ l.initial.sheet.out.ghost_name)
    × Standing l.script l.initial.sheet.out.now l.reader.at (going_on l.done l.sheet.at) l.table l.sheet.out.now

-- how many bytes are left
abbrev pub decreases-commands : goal.decreases-commands
decreases-commands l = left l.script l.reader.at (going_on l.done l.sheet.at)
