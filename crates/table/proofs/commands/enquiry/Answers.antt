use Rattle.std.proofs.Common.{rules, refl}
use Rattle.node.specs.Rules as N
use Rattle.table.proofs.commands.enquiry.Goals as goal

pub returns : goal.returns
returns c = c.order.ensures (N.enquiry c.args.len c.args.bytes) (record { keeps = refl; given = λ n r h. search rules })
