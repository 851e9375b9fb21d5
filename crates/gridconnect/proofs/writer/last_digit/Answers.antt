use Rattle.std.proofs.Common.{◌%◌, arith}
use Rattle.text.specs.Rules.{digit}
use Rattle.text.specs.Table.{table_of, table_at}
use Rattle.gridconnect.proofs.writer.last_digit.Goals as goal

pub returns : goal.returns
unfolding table_of digit
returns c = table_at digit 16 (c.args.n % 16) (omega arith)
