use mathlib.Core.Path.{◌∙◌, sym, ap}
use borrow.Author.Tests.{eq-eqb, ne_eqb}
use Rattle.headers.specs.Rules.{Parts}
use Rattle.headers.proofs.Laws.{kind-told}
use Rattle.state.specs.Concerns.{concern}
use Rattle.state.proofs.Tested.{same_test}
use Rattle.state.proofs.concerns.concern_of.Goals as goal

pub returns-then-eq : goal.returns-then-eq
unfolding concern
returns-then-eq c = simp (c.is_cid.ensures, same_test _ _ _ _ _ (ap (λ (p : Parts). p.alias) c.parts_of-p.ensures) c.eq.ensures c.if-eq.true, c.kind_of.ensures ∙ kind-told _ _ c.parts_of-p.ensures, eq-eqb _ _ c.if-f-eq0.true)

pub returns-then-is_permitted : goal.returns-then-is_permitted
unfolding concern
returns-then-is_permitted c = simp (c.kind_concern.ensures, sym c.is_permitted.ensures ∙ c.if-is_permitted.true, same_test _ _ _ _ _ (ap (λ (p : Parts). p.alias) c.parts_of-p.ensures) c.eq.ensures c.if-eq.false, c.kind_of-then-is_permitted.ensures ∙ kind-told _ _ c.parts_of-p.ensures, eq-eqb _ _ c.if-f-eq0.true)

pub returns-else-is_permitted : goal.returns-else-is_permitted
unfolding concern
returns-else-is_permitted c = simp (sym c.is_permitted.ensures ∙ c.if-is_permitted.false, same_test _ _ _ _ _ (ap (λ (p : Parts). p.alias) c.parts_of-p.ensures) c.eq.ensures c.if-eq.false, eq-eqb _ _ c.if-f-eq0.true)

pub returns-else-f-eq0 : goal.returns-else-f-eq0
unfolding concern
returns-else-f-eq0 c = simp (ne_eqb _ _ c.if-f-eq0.false)
