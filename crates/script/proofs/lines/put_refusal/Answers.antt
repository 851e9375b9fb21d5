use Rattle.std.proofs.Common.{ℕ, ap}
use Rattle.text.specs.Rules.{decimal}
use Rattle.script.specs.Rules.{answer_text}
use Rattle.text.specs.Puts.{then, alike}
use Rattle.script.proofs.lines.put_refusal.Goals as goal

pub returns : goal.returns
unfolding answer_text
returns c = then c.put_all.ensures (alike c.put_decimal.ensures (ap (λ (n : ℕ). decimal n) c.from.ensures))
