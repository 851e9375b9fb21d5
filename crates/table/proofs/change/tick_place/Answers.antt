use mathlib.Core.Path.{sym, ◌∙◌}
use Rattle.table.proofs.Changed.{ticked-at, unticked-at}
use Rattle.table.proofs.change.tick_place.Goals as goal

pub returns-then-counts : goal.returns-then-counts
returns-then-counts c = λ h. ticked-at _ _ _ _ _ c.load_node.ensures c.ticked-m.ensures (c.set_phase.ensures h)

pub returns-else-counts : goal.returns-else-counts
returns-else-counts c = λ h. unticked-at _ _ _ h c.args.k.inside c.phase_at.ensures (sym c.counts.ensures ∙ c.if-counts.false)
