use mathlib.Core.Path.{refl}
use Rattle.state.specs.Rules.{report_frame}
use Rattle.state.proofs.frames.duplicate_report.Goals as goal

pub returns : goal.returns
unfolding report_frame
returns c = simp c.sent_header.ensures refl
