use Rattle.table.specs.Words.{node_at}
use Rattle.table.proofs.store.is_off_at.Goals as goal

pub returns : goal.returns
unfolding node_at
returns c = c.is_off_in.ensures
