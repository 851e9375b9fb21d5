use Rattle.std.proofs.Common.{rules, ◌≡◌, sym, ◌∙◌}
use Rattle.node.specs.Rules.{refused}
use Rattle.table.specs.Answers.{found_as}
use Rattle.table.proofs.Looked.{in-1, in-6, in_frame}
use Rattle.table.proofs.look.inbox.Goals as goal

pub returns-in_err-k : goal.returns-in_err-k
returns-in_err-k c = let e : found_as c.from_residual.result ≡ refused 1 = search rules in
    e ∙ sym (in-1 _ _ _ c.in_err-k.ensures.1)

pub returns-then-count_at-place : goal.returns-then-count_at-place
returns-then-count_at-place c = rw (← c.in_ok-k.ensures) (sym (in-6 _ _ _ _ c.count_at.ensures c.in_ok-k.k.inside c.if-count_at-place.true))

pub returns : goal.returns
returns c = rw (← c.in_ok-k.ensures) (sym (in_frame _ _ _ _ _ c.count_at.ensures c.in_ok-k.k.inside c.if-count_at-place.false c.frame_in.ensures))
