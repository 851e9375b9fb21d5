use Rattle.state.specs.Rules.{cid_frame}
use Rattle.state.proofs.frames.cid.Goals as goal

pub returns : goal.returns
unfolding cid_frame
returns c = simp (c.bare_frame.ensures, c.sent_header.ensures, c.cid_field.ensures)
