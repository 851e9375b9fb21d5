use Rattle.std.proofs.Common.{rules, tests}
use Rattle.segment_rules.specs.Rules.{is_full}
use Rattle.table.proofs.Searched.{any-other}
use Rattle.table.proofs.broadcast.is_full_but.Goals as goal

pub returns : goal.returns
returns c = any-other is_full _ _ c.all.result c.any.new.self _ _ c.all.ensures c.any.ensures.ran (λ x q k. search (rules, tests)) (λ x q k. search (rules, tests))
