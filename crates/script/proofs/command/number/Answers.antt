use Rattle.std.proofs.Common.{arith}
use Rattle.script.proofs.Forms.{number-next, room-on}
use Rattle.script.proofs.command.number.Goals as goal

pub overflow_mul-n : goal.overflow_mul-n
overflow_mul-n g c =
    let r = room-on c.loop-i.i c.loop-i.n 0 c.loop-i.invariant.1 (omega (arith, c.requires.0)) (omega arith) in
    omega (arith, r)

pub overflow_add-n : goal.overflow_add-n
overflow_add-n g c =
    let r = room-on c.loop-i.i c.loop-i.n c.from.result c.loop-i.invariant.1 (omega (arith, c.requires.0)) (omega arith) in
    omega (arith, r)

pub loop-i-preserved : goal.loop-i-preserved
loop-i-preserved g c = number-next c.args.s.now c.args.from c.loop-i.i c.loop-i.n c.from.result c.loop-i.invariant c.from.ensures (omega arith)
