use Rattle.state.specs.Rules.{amr_frame}
use Rattle.state.proofs.frames.amr.Goals as goal

pub returns : goal.returns
unfolding amr_frame
returns c = simp (c.id_frame.ensures, c.sent_header.ensures)
