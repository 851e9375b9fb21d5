use mathlib.Core.Path.{◌∙◌}
use Rattle.node.specs.Rules.{timed_at}
use Rattle.table.specs.Words.{node_at}
use Rattle.table.proofs.store.timed_at.Goals as goal

pub returns : goal.returns
unfolding node_at
returns c = c.timed.ensures ∙ (λ i. timed_at (c.phase_in.ensures i) (c.reply_in.ensures i))
