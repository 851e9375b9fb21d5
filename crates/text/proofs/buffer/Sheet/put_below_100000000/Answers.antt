use Rattle.text.specs.Puts.{then, alike}
use Rattle.text.specs.Decimal.{decimal-myriads}
use Rattle.text.proofs.buffer.Sheet.put_below_100000000.Goals as goal

pub returns-else-n-lt10000 : goal.returns-else-n-lt10000
returns-else-n-lt10000 c = alike (then c.put_below_10000-else-n-lt10000.ensures c.put_four.ensures) (decimal-myriads _ c.if-n-lt10000.false)
