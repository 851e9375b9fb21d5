use mathlib.Core.Path.{refl}
use Rattle.pack.proofs.Packed.{stamped}
use Rattle.pack.proofs.words.stamped_word.Goals as goal

pub returns : goal.returns
returns c = stamped _ _ _ _ c.frame_word.ensures refl
