use Rattle.std.proofs.Common.{rules, arith, ◌≡◌, ◌∙◌, ap, Some}
use Rattle.std.specs.Prelude.{MatchOption}
use Rattle.segment_rules.specs.Rules.{places, after}
use Rattle.table.specs.Parts.{FirstIn}
use Rattle.table.proofs.Choosing.{first-chosen}
use Rattle.table.proofs.turns.first_due.Goals as goal

pub returns : goal.returns
returns c = λ h.
    let next = c.after-next.result.index in
    let one : FirstIn c.args.t.now next places c.first_in.result = search rules in
    let two : MatchOption c.first_in.result (FirstIn c.args.t.now 0 next c.or_else.result) (λ k. c.or_else.result ≡ Some k) = search rules in
    first-chosen _ next (c.after-next.ensures (omega (arith, h.mark, c.mark.ensures)) ∙ ap after c.mark.ensures) _ _ one two
