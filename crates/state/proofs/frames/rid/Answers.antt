use Rattle.state.specs.Rules.{rid_frame}
use Rattle.state.proofs.frames.rid.Goals as goal

pub returns : goal.returns
unfolding rid_frame
returns c = simp (c.bare_frame.ensures, c.sent_header.ensures)
