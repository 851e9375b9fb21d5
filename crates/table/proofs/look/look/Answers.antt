use Rattle.std.proofs.Common.{rules, ◌≡◌, sym, ap, ◌∙◌}
use Rattle.node.specs.Rules.{accepted, refused}
use Rattle.table.specs.Answers.{look_as}
use Rattle.table.proofs.Looked.{look-1, look-seen}
use Rattle.table.proofs.look.look.Goals as goal

pub returns-in_err-k : goal.returns-in_err-k
returns-in_err-k c = let e : look_as c.from_residual.result ≡ refused 1 = search rules in
    e ∙ sym (look-1 _ _ c.in_err-k.ensures.1)

pub returns : goal.returns
returns c = rw (← c.in_ok-k.ensures) (ap accepted c.seen_at.ensures ∙ sym (look-seen _ _ c.in_ok-k.k.inside))
