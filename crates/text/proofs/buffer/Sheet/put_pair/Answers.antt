use Rattle.std.proofs.Common.{[], ◌∷◌}
use Rattle.text.specs.Puts.{then, alike}
use Rattle.text.proofs.buffer.Sheet.put_pair.Goals as goal

pub returns : goal.returns
returns c = alike (then c.put.ensures c.put-2.ensures) (λ i. c.digit.ensures i ∷ c.digit-2.ensures i ∷ [])
