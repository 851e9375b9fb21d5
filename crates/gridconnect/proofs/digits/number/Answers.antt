use Rattle.std.proofs.Common.{rules, arith}
use Rattle.gridconnect.proofs.DigitLaws.{none_yet, one_more, all_read, are-not, below-60-bits}
use Rattle.gridconnect.proofs.digits.number.Goals as goal

pub loop-b-init : goal.loop-b-init
loop-b-init c = none_yet _

pub returns-then-d-gt15 : goal.returns-then-d-gt15
returns-then-d-gt15 c = are-not c.args.digits.now c.loop-b.b-index c.loop-b-test.true (omega arith)

pub loop-b-preserved : goal.loop-b-preserved
loop-b-preserved c = one_more c.args.digits.now c.loop-b.b-index c.loop-b-test.true c.loop-b.invariant c.value-d.ensures (omega arith)

pub overflow_mul-n : goal.overflow_mul-n
overflow_mul-n c = search (rules, below-60-bits {ds = c.args.digits.now} (omega arith) c.loop-b.invariant)

pub overflow_add-n : goal.overflow_add-n
overflow_add-n c = search (rules, below-60-bits {ds = c.args.digits.now} (omega arith) c.loop-b.invariant)

pub returns : goal.returns
returns c = all_read _ c.loop-b.b-index (omega arith) c.loop-b.invariant
