use Rattle.text.specs.Sheet.{then, alike}
use Rattle.text.specs.Hex.{hex-word}
use Rattle.gridconnect.proofs.writer.store_header.Goals as goal

pub returns : goal.returns
returns c = alike (then (then (then c.store_byte.ensures c.store_byte-2.ensures) c.store_byte-3.ensures) c.store_byte-4.ensures) (hex-word _)
