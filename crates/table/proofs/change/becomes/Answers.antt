use Rattle.table.proofs.Changed.{becomes-at}
use Rattle.table.proofs.change.becomes.Goals as goal

pub returns : goal.returns
returns c = λ h. becomes-at _ _ _ _ c.args.m _ _ _ _ _ c.load_node.ensures c.timed_for-was.ensures c.timed_for-is.ensures c.stamp_at.ensures c.clock.ensures c.stamp_on-s.ensures (c.put.ensures h)
