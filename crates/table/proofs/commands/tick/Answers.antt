use Rattle.table.proofs.Ticked.{ticked-done}
use Rattle.table.proofs.commands.tick.Goals as goal

pub returns : goal.returns
returns c = λ h. let E = c.tick_nodes.ensures h.held in let A = c.advance.ensures E.held in ticked-done _ _ _ _ h E A (c.judge.ensures A.held)
