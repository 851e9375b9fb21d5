use Rattle.std.proofs.Common.{arith}
use Rattle.gridconnect.proofs.Writing.{short, gives}
use Rattle.gridconnect.proofs.writer.write.Goals as goal

pub returns-then-text-length : goal.returns-then-text-length
returns-then-text-length c = short c.args.header c.args.len _ _ (omega arith) (omega arith) c.if-text-length.true

pub returns : goal.returns
returns c = gives c.args.header c.args.len c.args.bytes c.args.text.now (omega arith) (omega arith) c.if-text-length.false c.store_text.ensures
