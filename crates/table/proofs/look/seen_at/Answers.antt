use Rattle.table.proofs.Looked.{seen-words}
use Rattle.table.proofs.look.seen_at.Goals as goal

pub returns : goal.returns
returns c = seen-words _ _ _ _ _ _ _ _ c.load_node-n.ensures c.state_number.ensures c.id_seen.ensures c.alias_seen.ensures c.due.ensures c.count_at.ensures
