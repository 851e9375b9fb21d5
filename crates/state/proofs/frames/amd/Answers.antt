use Rattle.state.specs.Rules.{amd_frame}
use Rattle.state.proofs.frames.amd.Goals as goal

pub returns : goal.returns
unfolding amd_frame
returns c = simp (c.id_frame.ensures, c.sent_header.ensures)
