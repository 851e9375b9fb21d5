use mathlib.Core.Path.{sym}
use Rattle.table.proofs.Rings.{length-inbox}
use Rattle.table.proofs.store.count_at.Goals as goal

pub returns : goal.returns
returns c = sym (length-inbox _ _)
