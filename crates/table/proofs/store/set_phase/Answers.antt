use Rattle.table.proofs.Stored.{phase-at}
use Rattle.table.proofs.store.set_phase.Goals as goal

pub returns : goal.returns
returns c = λ h. let q = c.args in phase-at q.t.now q.k.index _ q.p c.args.k.inside h c.with_phase.ensures
