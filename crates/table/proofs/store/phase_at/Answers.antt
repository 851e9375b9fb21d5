use Rattle.table.specs.Words.{node_at}
use Rattle.table.proofs.store.phase_at.Goals as goal

pub returns : goal.returns
unfolding node_at
returns c = c.phase_in.ensures
