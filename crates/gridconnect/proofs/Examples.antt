-- Frames and texts by which A.7's rules can be tried, as one statement over the list.
use Rattle.std.specs.Prelude.{refl}
use Rattle.text.specs.Rules.{digit, hex}
use Rattle.gridconnect.specs.Rules.{text_of, value, are_digits, number_from, framed, read}
use Rattle.gridconnect.specs.Examples.{All, examples}

pub examples-hold : All examples
unfolding digit hex text_of value are_digits number_from framed read
examples-hold =
    (refl, (refl, (refl, (refl, (refl, (refl, (refl, (refl, (refl, (refl, (refl, (refl, (refl, (refl, (refl, (refl, (refl, (refl, (refl, (refl, (refl, (refl, (refl, (refl, (refl, (refl, (refl, (refl, (refl, (refl, (refl, (refl, (refl, (refl, (refl, (refl, (refl, (refl, (refl, (refl, (refl, (refl, (refl, (refl, (refl, (refl, ((refl, refl), ((refl, refl), ((refl, refl), (refl, (refl, tt)))))))))))))))))))))))))))))))))))))))))))))))))))
