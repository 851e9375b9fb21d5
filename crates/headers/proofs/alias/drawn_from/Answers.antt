use borrow.Author.Tests.{eq-eqb, ne_eqb}
use Rattle.headers.specs.Rules.{mixed}
use Rattle.headers.proofs.alias.drawn_from.Goals as goal

pub returns-then-e-eq0 : goal.returns-then-e-eq0
unfolding mixed
returns-then-e-eq0 c = simp (eq-eqb _ _ c.if-e-eq0.true)

pub returns-else-e-eq0 : goal.returns-else-e-eq0
unfolding mixed
returns-else-e-eq0 c = simp (ne_eqb _ _ c.if-e-eq0.false)
