use Rattle.text.specs.Puts.{then}
use Rattle.text.proofs.buffer.Sheet.put_four.Goals as goal

pub returns : goal.returns
returns c = then c.put_two.ensures c.put_two-2.ensures
