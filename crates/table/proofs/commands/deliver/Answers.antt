use Rattle.std.proofs.Common.{rules, ◌≡◌, sym, ◌∙◌}
use Rattle.state.specs.Answers.{done_as}
use Rattle.node.specs.Rules.{refused}
use Rattle.segment_rules.specs.Rules.{delivers}
use Rattle.table.proofs.Promised.{no_index}
use Rattle.table.proofs.Delivered.{deliver-2, deliver-6, deliver-ok}
use Rattle.table.proofs.commands.deliver.Goals as goal

pub returns-in_err-k : goal.returns-in_err-k
returns-in_err-k c = λ h.
    let e : done_as c.from_residual.result ≡ refused 1 = search rules in
    no_index _ h c.args.index delivers _ c.in_err-k.ensures.1 e

pub returns-then-is_off_at : goal.returns-then-is_off_at
returns-then-is_off_at c = rw (← c.in_ok-k.ensures) (λ h. deliver-2 _ h _ c.in_ok-k.k.inside (sym c.is_off_at.ensures ∙ c.if-is_off_at.true))

pub returns-then-is_empty_at : goal.returns-then-is_empty_at
returns-then-is_empty_at c = rw (← c.in_ok-k.ensures) (λ h. deliver-6 _ h _ c.in_ok-k.k.inside (sym c.is_off_at.ensures ∙ c.if-is_off_at.false) (sym c.is_empty_at.ensures ∙ c.if-is_empty_at.true))

pub returns : goal.returns
returns c = rw (← c.in_ok-k.ensures) (λ h. let e = sym c.is_empty_at.ensures ∙ c.if-is_empty_at.false in deliver-ok _ h _ c.in_ok-k.k.inside _ _ _ (sym c.is_off_at.ensures ∙ c.if-is_off_at.false) e (c.take-f.ensures h.held e) c.heed.ensures)
