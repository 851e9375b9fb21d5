use Rattle.table.proofs.Stored.{marked}
use Rattle.table.proofs.store.set_mark.Goals as goal

pub returns : goal.returns
returns c = λ h. marked _ _ h c.args.k.inside
