use Rattle.std.proofs.Common.{refl}
use Rattle.std.specs.Prelude.{Ok}
use Rattle.card_api.proofs.card_tick.Goals as goal

pub returns : goal.returns
returns c = record { answer = Ok tt; code = refl; does = c.tick.ensures }
