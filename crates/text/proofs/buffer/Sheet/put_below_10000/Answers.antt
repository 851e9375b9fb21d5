use Rattle.text.specs.Puts.{then, alike}
use Rattle.text.specs.Decimal.{decimal-hundreds}
use Rattle.text.proofs.buffer.Sheet.put_below_10000.Goals as goal

pub returns-else-n-lt100 : goal.returns-else-n-lt100
returns-else-n-lt100 c = alike (then c.put_below_100-else-n-lt100.ensures c.put_two.ensures) (decimal-hundreds _ c.if-n-lt100.false)
