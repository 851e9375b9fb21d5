use Rattle.text.specs.Puts.{blank, more_of}
use Rattle.text.proofs.buffer.Sheet.put_all.Goals as goal

pub loop-b-init : goal.loop-b-init
loop-b-init c = blank _

pub loop-b-preserved : goal.loop-b-preserved
loop-b-preserved c = more_of c.args.bytes.now c.loop-b.b-index c.loop-b-test.true c.loop-b.invariant c.put.ensures
