use Rattle.std.proofs.Common.{rules, tests}
use Rattle.segment_rules.specs.Rules.{has_id}
use Rattle.table.proofs.Searched.{any-other}
use Rattle.table.proofs.node_ids.is_in_use_but.Goals as goal

pub returns : goal.returns
returns c = any-other (has_id _) _ _ c.all.result c.any.new.self _ _ c.all.ensures c.any.ensures.ran (λ x q k. search (rules, tests)) (λ x q k. search (rules, tests))
