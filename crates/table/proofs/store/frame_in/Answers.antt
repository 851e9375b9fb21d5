use Rattle.table.proofs.Looked.{frame-slot}
use Rattle.table.proofs.store.frame_in.Goals as goal

pub returns : goal.returns
returns c = frame-slot _ _ _ _ _ _ c.frame_at.ensures c.slot_of-q.ensures
