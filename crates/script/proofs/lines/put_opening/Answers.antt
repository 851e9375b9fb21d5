use Rattle.std.proofs.Common.{ap}
use Rattle.text.specs.Rules.{hex}
use Rattle.text.specs.Puts.{then, alike}
use Rattle.script.proofs.lines.put_opening.Goals as goal

pub returns : goal.returns
returns c = then (then (then c.put_decimal.ensures c.put.ensures) (alike c.put_byte.ensures (ap (hex 2) c.from.ensures))) c.put-2.ensures
