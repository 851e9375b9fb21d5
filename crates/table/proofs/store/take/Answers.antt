use mathlib.Core.Path.{refl}
use Rattle.table.proofs.Rings.{take_none, take_done}
use Rattle.table.proofs.store.take.Goals as goal

pub returns-then-n-eq0 : goal.returns-then-n-eq0
returns-then-n-eq0 c = λ h e. absurd (take_none _ _ c.if-n-eq0.true e)

pub returns : goal.returns
returns c = λ h e. take_done _ _ _ _ _ _ h c.args.k.inside c.if-n-eq0.false refl refl c.slot_of-q.ensures c.frame_at-f.ensures
