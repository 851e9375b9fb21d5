-- Document 01's checked examples P1 and P3 to P9, Node ID 050101010101, as one statement over the list. P2 is a node's due frame.
use Rattle.std.specs.Prelude.{refl}
use Rattle.headers.specs.Rules.{mixed, kind_in}
use Rattle.headers.specs.Examples.{All, examples}

pub examples-hold : All examples
unfolding mixed kind_in
examples-hold = (refl, (refl, (refl, (refl, (refl, (refl, (refl, (refl, (refl, (refl, (refl, tt)))))))))))
