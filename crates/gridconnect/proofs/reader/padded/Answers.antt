use Rattle.gridconnect.proofs.DigitLaws.{pad-shift}
use Rattle.gridconnect.proofs.reader.padded.Goals as goal

pub returns-else-digits-eq0 : goal.returns-else-digits-eq0
returns-else-digits-eq0 c = pad-shift c.args.n c.args.digits c.requires.0 c.requires.1
