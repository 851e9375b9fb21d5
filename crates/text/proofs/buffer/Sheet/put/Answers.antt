use Rattle.std.proofs.Common.{refl}
use Rattle.text.specs.Sheet.{fits, full}
use Rattle.text.proofs.buffer.Sheet.put.Goals as goal

pub returns-then-self : goal.returns-then-self
returns-then-self c = record { same = refl; wrote = fits _ _ _ c.if-self.true }

pub returns-else-self : goal.returns-else-self
returns-else-self c = record { same = refl; wrote = full _ _ _ c.if-self.false }
