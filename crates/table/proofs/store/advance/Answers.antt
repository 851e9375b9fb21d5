use Rattle.table.proofs.Stored.{advanced}
use Rattle.table.proofs.store.advance.Goals as goal

pub returns : goal.returns
returns c = λ h. advanced _ h
