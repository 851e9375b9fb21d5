use mathlib.Core.Path.{◌∙◌}
use Rattle.table.specs.Words.{node_at}
use borrow.Author.Tests.{ne_eqb}
use Rattle.table.proofs.PoweredOn.{other-id, same_id}
use Rattle.table.proofs.store.has_id_at.Goals as goal

pub returns-then-t-k : goal.returns-then-t-k
unfolding node_at
returns-then-t-k c = let q = c.args in same_id q.t.now q.k.index q.id _ c.if-t-k.true c.is_off_at.ensures

pub returns-else-t-k : goal.returns-else-t-k
unfolding node_at
returns-else-t-k c = let q = c.args in ne_eqb _ _ c.if-t-k.false ∙ other-id q.t.now q.k.index q.id c.if-t-k.false
