use Rattle.table.specs.Parts.{by-slack, over, under}
use native.Mathlib.Omega.{arith}
use mathlib.Core.Path.{◌∙◌, sym}
use Rattle.table.proofs.lateness.judge.Goals as goal

pub returns-then-slack-gt0 : goal.returns-then-slack-gt0
returns-then-slack-gt0 c = λ h. by-slack (sym c.is_late.ensures ∙ c.if-is_late.false) _ c.slack-slack.ensures c.if-slack-gt0.true (c.set_slack.ensures h (omega (arith, c.slack-slack.ensures, h.slack)))

pub returns-then-oldest-gt-LATENESS : goal.returns-then-oldest-gt-LATENESS
returns-then-oldest-gt-LATENESS c = λ h. over (sym c.is_late.ensures ∙ c.if-is_late.false) _ c.oldest-oldest.ensures c.if-oldest-gt-LATENESS.true (c.set_late.ensures h)

pub returns : goal.returns
returns c = λ h. under (sym c.is_late.ensures ∙ c.if-is_late.false) _ c.oldest-oldest.ensures c.if-oldest-gt-LATENESS.false (c.set_slack-2.ensures h (omega arith))
