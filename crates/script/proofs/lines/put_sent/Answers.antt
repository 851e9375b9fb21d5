use Rattle.std.proofs.Common.{ap}
use Rattle.text.specs.Rules.{hex}
use Rattle.script.specs.Rules.{answer_text}
use Rattle.text.specs.Puts.{then, alike}
use Rattle.script.proofs.lines.put_sent.Goals as goal

pub returns : goal.returns
unfolding answer_text
returns c = then (then c.put_all.ensures (alike c.put_hex.ensures (ap (hex 8) c.from.ensures))) c.put_data.ensures
