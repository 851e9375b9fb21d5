use Rattle.std.proofs.Common.{rules, ◌≡◌, sym, ap, ◌∙◌}
use Rattle.headers.specs.Answers.{refusal_as}
use Rattle.state.specs.Answers.{left_as}
use Rattle.node.specs.Rules.{Outcome, refused, wait, on_leave}
use Rattle.node.specs.declared.Node.{Node}
use Rattle.table.proofs.Sent.{send-1, send-refused, send-departed}
use Rattle.table.proofs.commands.send.Goals as goal

pub returns-in_err-k : goal.returns-in_err-k
returns-in_err-k c = λ h.
    let e : left_as c.from_residual.result ≡ refused 1 = search rules in
    send-1 _ h c.args.index _ c.in_err-k.ensures.1 e

pub returns-in_err-sent : goal.returns-in_err-sent
returns-in_err-sent c = rw (← c.in_ok-k.ensures) (λ h.
    let e : left_as c.from_residual-in_err-sent.result ≡ refused (refusal_as c.in_err-sent.field-0.0) = search rules in
    send-refused _ h _ _ _ c.in_ok-k.k.inside
    (e ∙ ap (λ (o : Outcome). o.answer) (c.in_err-sent.ensures ∙ ap (λ (n : Node). on_leave wait n) c.load_node.ensures)) e)

pub returns : goal.returns
returns c = rw (← c.in_ok-k.ensures) (λ h.
    let e = c.in_ok-sent.ensures ∙ ap (λ (n : Node). on_leave wait n) c.load_node.ensures in
    send-departed _ h _ _ _ _ _ c.in_ok-k.k.inside (sym (ap (λ (o : Outcome). o.answer) e)) (sym (ap (λ (o : Outcome). o.node) e)) (c.depart.ensures h.held))
