use Rattle.text.specs.Hex.{without-shift, without-all}
use Rattle.std.proofs.Common.{sym, arith}
use Rattle.text.proofs.hex.shortened.Goals as goal

pub returns-then-digits-lt16 : goal.returns-then-digits-lt16
returns-then-digits-lt16 c = without-shift _ _

pub returns-else-digits-lt16 : goal.returns-else-digits-lt16
returns-else-digits-lt16 c = sym (without-all _ _ c.if-digits-lt16.false (omega arith))
