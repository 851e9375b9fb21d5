use Rattle.std.proofs.Common.{rules}
use Rattle.script.proofs.Turns.{ended-printed}
use Rattle.script.proofs.program.run.Goals as goal

pub returns : goal.returns
returns c = ended-printed c.run_through.ensures c.is_late.ensures c.put_last.ensures (search rules) (search rules)
