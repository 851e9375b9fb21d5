use Rattle.std.proofs.Common.{rules, ◌≡◌, refl, sym, ap, subst, ◌∙◌}
use Rattle.segment_rules.specs.Rules.{choose, Choice, nobody}
use Rattle.table.specs.Answers.{choice_as}
use Rattle.table.specs.Places.{named}
use Rattle.table.specs.Promise.{Carries, chosen}
use Rattle.table.proofs.Choosing.{chooses, unmarked}
use Rattle.table.proofs.commands.choose.Goals as goal

pub returns-in_err-k : goal.returns-in_err-k
returns-in_err-k c = λ h. let t = c.args.table.now in
    let e : choice_as c.from_residual.result ≡ nobody = search rules in
    subst (λ (x : Choice). Carries choose t (chosen x) t) (sym e)
    (chooses _ h _ _ _ _ (sym (ap named c.in_err-k.was) ∙ c.first_due.ensures h.held) refl refl (unmarked _ h))

pub returns : goal.returns
returns c = λ h. chooses _ h _ _ _ _ (sym (ap named c.in_ok-k.was) ∙ c.first_due.ensures h.held) refl refl (c.set_mark.ensures h.held)
