use mathlib.Core.Path.{◌∙◌, sym, ap}
use Rattle.std.specs.Prelude.{Option}
use Rattle.state.specs.declared.Concern.{Concern}
use Rattle.node.specs.Rules.{on_receive}
use Rattle.node.specs.Still.{taken_by}
use Rattle.node.proofs.Still.{taken-received}
use Rattle.node.proofs.Node.receives.Goals as goal

pub returns : goal.returns
unfolding on_receive
returns c = let a = c.args in
    let taken = ap (λ (x : Option Concern). taken_by x a.self a.f) c.concern.ensures ∙ taken-received a.self a.f in
    simp (c.takes.ensures, taken, sym c.is_malformed.ensures ∙ c.if-is_malformed.false, sym c.is_off.ensures ∙ c.if-is_off.false)
