use Rattle.std.proofs.Common.{rules, ◌≡◌, subst}
use Rattle.state.specs.Answers.{done_as}
use Rattle.node.specs.Rules.{refused, wait, on_order}
use Rattle.node.specs.Answers.{outcome_as}
use Rattle.node.specs.declared.Node.{Node}
use Rattle.segment_rules.specs.Rules.{orders}
use Rattle.table.proofs.Promised.{no_index, order-done}
use Rattle.table.proofs.commands.order.Goals as goal

pub returns-in_err-k : goal.returns-in_err-k
returns-in_err-k g c x h s =
    let e : done_as c.from_residual.result ≡ refused 1 = search rules in
    no_index _ s c.args.index (orders x) _ c.in_err-k.ensures.1 e

pub returns : goal.returns
returns g c x h = rw (← c.in_ok-k.ensures) (λ s.
    order-done _ s c.in_ok-k.k.index x h.keeps c.in_ok-k.k.inside _
    (subst (λ (n : Node). outcome_as n c.given-event.result ≡ on_order wait n x) c.load_node.ensures (h.given _ _ c.given-event.ensures))
    _ _ (c.settle.ensures s.held))
