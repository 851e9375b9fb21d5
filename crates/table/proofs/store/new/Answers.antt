use Rattle.table.proofs.Stored.{new-words}
use Rattle.table.proofs.store.new.Goals as goal

pub returns : goal.returns
returns c = new-words
