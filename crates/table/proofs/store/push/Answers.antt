use mathlib.Core.Path.{refl}
use Rattle.table.proofs.Rings.{push-room, push-full}
use Rattle.table.proofs.store.push.Goals as goal

pub returns-then-n-lt-INBOX : goal.returns-then-n-lt-INBOX
returns-then-n-lt-INBOX c = λ h. push-room _ _ _ _ _ _ _ _ h c.args.k.inside refl c.if-n-lt-INBOX.true refl c.slot_of-q.ensures c.clock.ensures c.stamped_word.ensures

pub returns-else-n-lt-INBOX : goal.returns-else-n-lt-INBOX
returns-else-n-lt-INBOX c = λ h. push-full _ _ _ h c.args.k.inside c.if-n-lt-INBOX.false
