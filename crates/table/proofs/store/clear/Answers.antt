use Rattle.table.proofs.Rings.{clear-done}
use Rattle.table.proofs.store.clear.Goals as goal

pub returns : goal.returns
returns c = λ h. clear-done _ _ h c.args.k.inside
