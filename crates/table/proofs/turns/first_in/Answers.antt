use Rattle.std.proofs.Common.{rules, tests}
use Rattle.table.proofs.Searched.{find-due}
use Rattle.table.proofs.turns.first_in.Goals as goal

pub returns : goal.returns
returns c = find-due _ c.args.some c.find.new.self _ _ c.find.ensures.ran (λ x q k. search (rules, tests)) (λ x q k. search (rules, tests))
