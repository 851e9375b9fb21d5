use Rattle.std.proofs.Common.{rules}
use Rattle.text.specs.Puts.{alike}
use Rattle.script.specs.Rules.{answer_text}
use Rattle.script.proofs.lines.put_answer.Goals as goal

pub returns-in-Ok-None : goal.returns-in-Ok-None
unfolding answer_text
returns-in-Ok-None c = alike c.put_all.ensures (search rules)
