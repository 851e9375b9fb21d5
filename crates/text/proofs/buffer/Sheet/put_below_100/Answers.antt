use Rattle.std.proofs.Common.{sym}
use Rattle.text.specs.Puts.{alike}
use Rattle.text.specs.Decimal.{decimal-small, decimal-two}
use Rattle.text.proofs.buffer.Sheet.put_below_100.Goals as goal

pub returns-then-n-lt10 : goal.returns-then-n-lt10
returns-then-n-lt10 c = alike c.put.ensures (rw c.digit.ensures (sym (decimal-small _ c.if-n-lt10.true)))

pub returns-else-n-lt10 : goal.returns-else-n-lt10
returns-else-n-lt10 c = alike c.put_two.ensures (decimal-two _ c.if-n-lt10.false c.requires)
