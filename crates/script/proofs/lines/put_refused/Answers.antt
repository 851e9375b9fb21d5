use Rattle.script.specs.Rules.{line}
use Rattle.text.specs.Puts.{then}
use Rattle.script.proofs.lines.put_refused.Goals as goal

pub returns : goal.returns
unfolding line
returns c = then (then c.put_opening.ensures c.put_refusal.ensures) c.put.ensures
