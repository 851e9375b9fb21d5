use Rattle.std.proofs.Common.{rules}
use Rattle.text.specs.Puts.{let_go}
use Rattle.text.proofs.decimal.decimal_at.Goals as goal

pub returns-then-n-lt100000000 : goal.returns-then-n-lt100000000
returns-then-n-lt100000000 c = let_go c.put_below_100000000.ensures (search rules) (search rules)

pub returns : goal.returns
returns c = let_go c.put_long.ensures (search rules) (search rules)
