use Rattle.std.proofs.Common.{arith}
use Rattle.text.specs.Sheet.{then, alike, placed}
use Rattle.gridconnect.proofs.Pieces.{pieces}
use Rattle.gridconnect.proofs.writer.store_text.Goals as goal

pub returns : goal.returns
returns c = placed (alike (then (then (then (then (then c.store.ensures c.store-2.ensures) c.store_header.ensures) c.store-3.ensures) c.store_data.ensures) c.store-4.ensures) (pieces _ _ _)) (omega arith)
