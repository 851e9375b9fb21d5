use Rattle.table.specs.Words.{node_at}
use Rattle.table.proofs.store.load_node.Goals as goal

pub returns : goal.returns
unfolding node_at
returns c = simp (c.past_in.ensures, c.link_in.ensures, c.waiting_in.ensures, c.phase_in.ensures, c.alias_in.ensures, c.host_at.ensures)
