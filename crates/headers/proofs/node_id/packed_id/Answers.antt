use mathlib.Core.Path.{sym}
use Rattle.headers.proofs.Laws.{packed-id}
use Rattle.headers.proofs.node_id.packed_id.Goals as goal

pub returns : goal.returns
returns c = sym (packed-id c.args.id)
