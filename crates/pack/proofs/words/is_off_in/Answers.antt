use Rattle.pack.proofs.Packed.{off-in}
use Rattle.pack.proofs.words.is_off_in.Goals as goal

pub returns : goal.returns
returns c = off-in c.args.w
