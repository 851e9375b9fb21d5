-- What the theorems of proofs/Text.antt speak of; these definitions are to be believed.
use Rattle.std.specs.Prelude.{ℕ, List, ◌++◌}
use Rattle.text.specs.Rules.{hex, decimal, space}

-- THE OPENING OF A LINE: count and command byte, a space after each.

abbrev pub opening : (count byte : ℕ) → List ℕ
opening count byte = decimal count ++ space ++ hex 2 byte ++ space
