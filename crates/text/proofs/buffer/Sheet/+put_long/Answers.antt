use Rattle.text.specs.Puts.{then, alike}
use Rattle.text.specs.Decimal.{decimal-myriads}
use Rattle.text.proofs.buffer.Sheet.+put_long.Goals as goal

pub returns-else-n-lt10000 : goal.returns-else-n-lt10000
returns-else-n-lt10000 t c = alike (then c.put_long.ensures c.put_four.ensures) (decimal-myriads _ c.if-n-lt10000.false)
