use mathlib.Core.Path.{sym, ◌∙◌}
use Rattle.pack.specs.Words.{since}
use Rattle.table.proofs.Rings.{first_some}
use Rattle.table.proofs.lateness.first_age.Goals as goal

pub returns : goal.returns
returns c = c.since.ensures ∙ (λ i. since (c.clock.ensures i) (c.first_stamp.ensures i)) ∙ first_some c.args.t.now c.args.k.index (sym c.is_empty_at.ensures ∙ c.if-is_empty_at.false)
