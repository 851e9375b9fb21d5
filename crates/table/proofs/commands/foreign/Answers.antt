use Rattle.table.proofs.Sent.{foreign-9, foreign-5, foreign-ok}
use mathlib.Core.Path.{sym, ◌∙◌}
use Rattle.table.proofs.commands.foreign.Goals as goal

pub returns-then-is_malformed : goal.returns-then-is_malformed
returns-then-is_malformed c = λ h. foreign-9 _ h _ (sym c.is_malformed.ensures ∙ c.if-is_malformed.true)

pub returns-then-is_full_but : goal.returns-then-is_full_but
returns-then-is_full_but c = λ h. foreign-5 _ h _ (sym c.is_malformed.ensures ∙ c.if-is_malformed.false) (sym c.is_full_but.ensures ∙ c.if-is_full_but.true)

pub returns : goal.returns
returns c = λ h. foreign-ok _ h _ _ _ (sym c.is_malformed.ensures ∙ c.if-is_malformed.false) c.trim.ensures (sym c.is_full_but.ensures ∙ c.if-is_full_but.false) (c.cast.ensures h.held)
