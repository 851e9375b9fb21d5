use native.Mathlib.Omega.{arith}
use borrow.Author.Tests.{le-ltb, lt-ltb, eq-eqb, ne_eqb}
use Rattle.headers.specs.Frames.{malformed}
use Rattle.headers.proofs.frame.Frame.is_malformed.Goals as goal

pub returns-then-self-gt2 : goal.returns-then-self-gt2
unfolding malformed
returns-then-self-gt2 c = simp (lt-ltb _ _ c.if-self-gt2.true)

pub returns-then-self-gt8 : goal.returns-then-self-gt8
unfolding malformed
returns-then-self-gt8 c = simp (lt-ltb _ _ c.if-self-gt8.true, le-ltb _ _ c.if-self-gt2.false)

pub returns-then-self-eq2 : goal.returns-then-self-eq2
unfolding malformed
returns-then-self-eq2 c = simp (eq-eqb _ _ c.if-self-eq2.true, ne_eqb c.args.self.kind 1 (omega arith), le-ltb _ _ c.if-self-gt8.false, le-ltb _ _ c.if-self-gt2.false)

pub returns-then-self-eq0 : goal.returns-then-self-eq0
unfolding malformed
returns-then-self-eq0 c = simp (eq-eqb _ _ c.if-self-eq0.true, eq-eqb _ _ c.if-self-eq1.true, ne_eqb _ _ c.if-self-eq2.false, le-ltb _ _ c.if-self-gt8.false, le-ltb _ _ c.if-self-gt2.false)

pub returns-then-self-eq1 : goal.returns-then-self-eq1
unfolding malformed
returns-then-self-eq1 c = simp (ne_eqb _ _ c.if-self-eq0.false, eq-eqb _ _ c.if-self-eq1.true, ne_eqb _ _ c.if-self-eq2.false, le-ltb _ _ c.if-self-gt8.false, le-ltb _ _ c.if-self-gt2.false)

pub returns : goal.returns
unfolding malformed
returns c = simp (ne_eqb _ _ c.if-self-eq1.false, ne_eqb _ _ c.if-self-eq2.false, le-ltb _ _ c.if-self-gt8.false, le-ltb _ _ c.if-self-gt2.false)
