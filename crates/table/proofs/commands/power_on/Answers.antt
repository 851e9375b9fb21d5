use Rattle.segment_rules.specs.Rules.{power_on, warm_on}
use Rattle.segment_rules.proofs.WarmStarts.{flag-0}
use Rattle.table.specs.Words.{view}
use Rattle.table.proofs.PoweredOn.{carries_same}
use Rattle.table.proofs.commands.power_on.Goals as goal

pub returns : goal.returns
returns c = λ h. let q = c.args in
    carries_same (warm_on q.index q.id 0 0) (power_on q.index q.id) _ _ _ (flag-0 (view q.table.now) q.index q.id 0) (c.warm_on.ensures h)
