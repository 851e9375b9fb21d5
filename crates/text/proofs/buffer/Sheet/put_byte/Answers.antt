use Rattle.text.specs.Puts.{alike}
use Rattle.text.specs.Hex.{hex-byte}
use Rattle.text.proofs.buffer.Sheet.put_byte.Goals as goal

pub returns : goal.returns
returns c = alike c.put_pair.ensures (hex-byte _)
