use Rattle.state.specs.Rules.{error_frame}
use mathlib.Core.Path.{refl}
use Rattle.state.proofs.frames.error_report.Goals as goal

pub returns : goal.returns
unfolding error_frame
returns c = simp (c.id_frame.ensures, c.sent_header.ensures, c.number.ensures.0) refl
