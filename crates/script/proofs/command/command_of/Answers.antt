use native.Mathlib.Omega.{arith}
use Rattle.script.proofs.Forms.{single, at_rest}
use Rattle.script.specs.Rules.{form}
use Rattle.script.proofs.command.command_of.Goals as goal

pub returns-in-1 : goal.returns-in-1
unfolding form
returns-in-1 c = simp (single, c.in-1.is, c.number.ensures.0)

pub returns-in-2 : goal.returns-in-2
unfolding form
returns-in-2 c = simp (single, c.in-2.is)

pub returns-in-3 : goal.returns-in-3
unfolding form
returns-in-3 c = simp (single, c.in-3.is)

pub returns-in-4 : goal.returns-in-4
unfolding form
returns-in-4 c = simp (single, c.in-4.is)

pub returns-in-6 : goal.returns-in-6
unfolding form
returns-in-6 c = simp (single, c.in-6.is, c.number-in-6.ensures.0, c.number-in-6-2.ensures.0)

pub returns-in-7 : goal.returns-in-7
unfolding form
returns-in-7 c = simp (single, c.in-7.is, c.number-in-7.ensures.0, c.number-in-7-2.ensures.0)

pub returns-in-8 : goal.returns-in-8
unfolding form
returns-in-8 c = simp (single, c.in-8.is, c.number-in-8.ensures.0)

pub returns-in-9 : goal.returns-in-9
unfolding form
returns-in-9 c = simp (single, c.in-9.is)

pub returns-in_default : goal.returns-in_default
unfolding form
returns-in_default c =
    let ten = at_rest c.args.s.now (λ e. omega (arith, e)) (λ e. omega (arith, e)) (λ e. omega (arith, e)) (λ e. omega (arith, e)) (λ e. omega (arith, e))
    (λ e. omega (arith, e)) (λ e. omega (arith, e)) (λ e. omega (arith, e)) (λ e. omega (arith, e)) c.requires in
    simp (single, ten, c.number-in_default.ensures.0, c.number-in_default-2.ensures.0)
