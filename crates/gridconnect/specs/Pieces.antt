-- What the theorems of proofs/Pieces.antt speak of; these definitions are to be believed.
use Rattle.std.specs.Prelude.{ℕ, ◌*◌, List, [], ◌∷◌, ◌++◌, take}
use Rattle.text.specs.Rules.{hex}
use Rattle.gridconnect.specs.Rules.{colon, letter_x, letter_n}

-- The whole text: all but its end, and that.
abbrev pub front : (header len bytes : ℕ) → List ℕ
front header len bytes = ((((colon ∷ []) ++ (letter_x ∷ [])) ++ hex 8 header) ++ (letter_n ∷ [])) ++ take (2 * len) (hex 16 bytes)
