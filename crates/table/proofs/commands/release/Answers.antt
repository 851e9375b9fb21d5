use Rattle.std.proofs.Common.{rules, refl}
use Rattle.node.specs.Rules as N
use Rattle.table.proofs.commands.release.Goals as goal

pub returns : goal.returns
returns c = c.order.ensures N.release (record { keeps = refl; given = λ n r h. search rules })
