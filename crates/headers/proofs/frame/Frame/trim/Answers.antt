use mathlib.Core.Path.{refl}
use Rattle.headers.specs.Frames.{trimmed}
use Rattle.headers.proofs.frame.Frame.trim.Goals as goal

pub returns : goal.returns
unfolding trimmed
returns c = simp c.used_bytes.ensures refl
