-- What the theorems of proofs/Refusals.antt speak of; these definitions are to be believed.
use Rattle.std.specs.Prelude.{◌<◌}
use Rattle.node.specs.Rules.{Answer, accepted, refused, Value}

abbrev pub TwoDigits : Answer Value → Type 0
TwoDigits (accepted v) = Unit {0}
TwoDigits (refused number) = number < 100
