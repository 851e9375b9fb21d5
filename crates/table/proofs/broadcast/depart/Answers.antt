use mathlib.Core.Path.{refl, sym, ◌∙◌}
use Rattle.table.specs.Parts.{gone}
use Rattle.table.proofs.broadcast.depart.Goals as goal

pub returns : goal.returns
returns c = λ h. let k = c.cast.ensures h in gone refl (sym c.is_full_but.ensures ∙ c.if-is_full_but.false) _ k (c.becomes.ensures k.held)
