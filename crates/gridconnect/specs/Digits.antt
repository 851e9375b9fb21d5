-- What the theorems of proofs/DigitLaws.antt speak of; these definitions are to be believed.
use Rattle.std.specs.Prelude.{◌≡◌, ℕ, ◌+◌, ◌^◌, ◌<◌, true, List, take}
use Rattle.text.specs.Table.{table_of}
use Rattle.gridconnect.specs.Rules.{value, are_digits, number}

-- THE VALUES OF BYTES from `0` to `f`, one after another.
abbrev pub from_zero : ℕ → ℕ
from_zero n = value (48 + n)

abbrev pub value_table : List ℕ
value_table = table_of from_zero 55

-- The first i digits have been read: they are digits, they stand for n, and n is as small as they are few.
pub record SoFar (ds : List ℕ) (n i : ℕ) : Type 0 where
  pub are : are_digits (take i ds) ≡ true
  pub is : n ≡ number (take i ds)
  pub below : n < 16 ^ i
