use Rattle.table.proofs.Stored.{latched}
use Rattle.table.proofs.store.set_late.Goals as goal

pub returns : goal.returns
returns c = λ h. latched _ h
