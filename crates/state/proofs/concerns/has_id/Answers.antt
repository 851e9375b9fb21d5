use mathlib.Core.Path.{refl}
use borrow.Author.Tests.{eq-eqb, ne_eqb}
use Rattle.state.specs.Rules.{is_own}
use Rattle.state.proofs.concerns.has_id.Goals as goal

pub returns-then-f-eq6 : goal.returns-then-f-eq6
unfolding is_own
returns-then-f-eq6 c = simp (c.id_in.ensures, eq-eqb _ _ c.if-f-eq6.true) refl

pub returns-else-f-eq6 : goal.returns-else-f-eq6
unfolding is_own
returns-else-f-eq6 c = simp (ne_eqb _ _ c.if-f-eq6.false)
