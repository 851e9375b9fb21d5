use Rattle.std.proofs.Common.{Bool, not, sym, ap}
use Rattle.text.specs.Puts.{alike}
use Rattle.script.specs.Rules.{last_line}
use Rattle.script.proofs.lines.put_last.Goals as goal

pub returns-then-late : goal.returns-then-late
unfolding last_line
returns-then-late c = alike c.put_all.ensures (sym (ap (λ (b : Bool). last_line (not b)) c.if-late.true))

pub returns-else-late : goal.returns-else-late
unfolding last_line
returns-else-late c = alike c.put_all-else-late.ensures (sym (ap (λ (b : Bool). last_line (not b)) c.if-late.false))
