use Rattle.std.proofs.Common.{arith}
use Rattle.text.specs.Sheet.{blank}
use Rattle.gridconnect.proofs.Pieces.{data-more, data-all}
use Rattle.gridconnect.proofs.writer.store_data.Goals as goal

pub loop-i-init : goal.loop-i-init
loop-i-init c = blank _

pub loop-i-preserved : goal.loop-i-preserved
loop-i-preserved c = data-more c.args.bytes c.loop-i.i (omega arith) c.loop-i.invariant c.store_byte.ensures

pub returns : goal.returns
returns c = data-all c.args.bytes c.args.count c.loop-i.i (omega arith) c.loop-i.invariant
