use Rattle.std.proofs.Common.{rules, ◌≡◌, refl, sym, ap, subst, ◌∙◌}
use Rattle.headers.specs.Answers.{refusal_as}
use Rattle.state.specs.Answers.{done_as}
use Rattle.node.specs.Rules as N
use Rattle.node.specs.Rules.{Answer, Value, refused, on_power_on, on_warm_on}
use Rattle.node.specs.declared.Node.{Node}
use Rattle.segment_rules.specs.Rules.{orders, warm_on}
use Rattle.table.specs.Promise.{Carries, plainly}
use Rattle.table.proofs.Promised.{no_index}
use Rattle.table.proofs.PoweredOn.{begin-refused, begin-in-use, begin-last, begin-done}
use Rattle.table.proofs.commands.warm_on.Goals as goal

pub returns-in_err-k : goal.returns-in_err-k
returns-in_err-k c = λ h. let q = c.args in
    let e : done_as c.from_residual.result ≡ refused 1 = search rules in
    no_index _ h q.index (orders (N.warm_on q.id q.flag q.state)) _ c.in_err-k.ensures.1 e

pub returns-in_err-power_on : goal.returns-in_err-power_on
returns-in_err-power_on c = rw (← c.in_ok-k.ensures) (λ h. let q = c.args in
    let e : done_as c.from_residual-in_err-power_on.result ≡ refused (refusal_as c.in_err-power_on.field-0.0) = search rules in
    subst (λ (a : Answer Value). Carries (warm_on c.in_ok-k.k.index q.id q.flag q.state) q.table.now (plainly a) q.table.now) (sym e)
    (begin-refused _ h c.in_ok-k.k.index q.id q.flag q.state c.in_ok-k.k.inside _ (c.in_err-power_on.ensures ∙ ap (λ (n : Node). on_power_on n q.id) c.load_node-node.ensures) refl))

pub returns-then-is_in_use_but : goal.returns-then-is_in_use_but
returns-then-is_in_use_but c = rw (← c.in_ok-k.ensures) (λ h. let q = c.args in
    begin-in-use _ h c.in_ok-k.k.index q.id q.flag q.state c.in_ok-k.k.inside _ (c.in_ok-power_on.ensures ∙ ap (λ (n : Node). on_power_on n q.id) c.load_node-node.ensures)
    _ refl refl (sym c.is_in_use_but.ensures ∙ c.if-is_in_use_but.true))

pub returns-in_err-begun : goal.returns-in_err-begun
returns-in_err-begun c = rw (← c.in_ok-k.ensures) (λ h. let q = c.args in
    let e : done_as c.from_residual-in_err-begun.result ≡ refused (refusal_as c.in_err-begun.field-0.0) = search rules in
    subst (λ (a : Answer Value). Carries (warm_on c.in_ok-k.k.index q.id q.flag q.state) q.table.now (plainly a) q.table.now) (sym e)
    (begin-last _ h c.in_ok-k.k.index q.id q.flag q.state c.in_ok-k.k.inside _ (c.in_err-begun.ensures ∙ ap (λ (n : Node). on_warm_on n q.id q.flag q.state) c.load_node-node.ensures)
    (sym c.is_in_use_but.ensures ∙ c.if-is_in_use_but.false) refl))

pub returns : goal.returns
returns c = rw (← c.in_ok-k.ensures) (λ h. let q = c.args in
    begin-done _ h c.in_ok-k.k.index q.id q.flag q.state c.in_ok-k.k.inside _ (c.in_ok-begun.ensures ∙ ap (λ (n : Node). on_warm_on n q.id q.flag q.state) c.load_node-node.ensures)
    (sym c.is_in_use_but.ensures ∙ c.if-is_in_use_but.false) _ refl (c.begins.ensures h.held))
