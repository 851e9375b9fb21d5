use mathlib.Core.List.{[], ◌∷◌}
use mathlib.Core.Path.{◌∙◌}
use native.Mathlib.Omega.{arith}
use Rattle.text.specs.Sheet.{then, alike, placed}
use Rattle.text.specs.Hex.{hex-byte}
use Rattle.gridconnect.proofs.writer.store_byte.Goals as goal

pub returns : goal.returns
returns c = placed (alike (then c.store.ensures c.store-2.ensures) ((λ i. c.last_digit.ensures i ∷ c.last_digit-2.ensures i ∷ []) ∙ hex-byte _)) (omega arith)
