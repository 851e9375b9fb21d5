use Rattle.std.proofs.Common.{arith}
use Rattle.text.specs.Table.{table_of}
use Rattle.gridconnect.specs.Rules.{value}
use Rattle.gridconnect.proofs.DigitLaws.{value-from, value_low, value-high}
use Rattle.gridconnect.proofs.digits.value.Goals as goal

pub returns-in-48-to-102 : goal.returns-in-48-to-102
unfolding table_of value
returns-in-48-to-102 c = value-from c.args.b (omega arith) (omega arith)

pub returns-in_default : goal.returns-in_default
returns-in_default c = value_low _ (omega arith)

pub returns-in_default-2 : goal.returns-in_default-2
returns-in_default-2 c = value-high _ (omega arith)
