-- What is written of numbers, and what a buffer holds that text is put into. This is the file to believe of the crate.
use Rattle.std.specs.Prelude.{◌≡◌, ℕ, zero, suc, ◌+◌, ◌/◌, ◌%◌, ◌≤◌, min, cond, List, [], ◌∷◌, ◌++◌, ltb, length, set, take, drop}
use Rattle.text.specs.declared.buffer.Sheet as S

-- THE DIGITS, as bytes

-- 0 to 9, then A to F.
unfoldable pub digit : ℕ → ℕ
digit n = cond (ltb n 10) (48 + n) (55 + n)

-- The last k hexadecimal digits of n.
unfoldable pub hex : (k n : ℕ) → List ℕ
hex zero n = []
hex (suc k) n = hex k (n / 16) ++ digit (n % 16) ∷ []

-- n without its last k hexadecimal digits.
unfoldable pub without : (k n : ℕ) → ℕ
without zero n = n
without (suc k) n = without k (n / 16)

-- The decimal digits of n, at most k; n has no more than n + 1.
unfoldable pub decimal_up_to : (k n : ℕ) → List ℕ
decimal_up_to zero n = []
decimal_up_to (suc k) n = cond (ltb n 10) (digit n ∷ []) (decimal_up_to k (n / 10) ++ digit (n % 10) ∷ [])

abbrev pub decimal : ℕ → List ℕ
decimal n = decimal_up_to (suc n) n

-- " " and a line feed.
abbrev pub space : List ℕ
space = 32 ∷ []

abbrev pub feed : List ℕ
feed = 10 ∷ []

-- A SHEET that is written on: a buffer's bytes, and the place of the next one. The buffer may be too short.

pub record Sheet : Type 0 where
  pub text : List ℕ
  pub at : ℕ

abbrev pub sheet : List ℕ → ℕ → Sheet
sheet text at = record { text = text; at = at }

-- One byte, where there is room.
unfoldable pub put1 : Sheet → ℕ → Sheet
put1 s b = cond (ltb s.at (length s.text)) (sheet (set s.text s.at b) (s.at + 1)) s

-- Bytes, one after another.
unfoldable pub write : Sheet → List ℕ → Sheet
write s [] = s
write s (b ∷ bs) = write (put1 s b) bs

-- t is s with xs written on it.
pub record Wrote (s : Sheet) (xs : List ℕ) (t : Sheet) : Type 0 where
  pub is : t ≡ write s xs

-- The code's sheet stays on the buffer that it was made on, and xs are written on it.
abbrev pub sheet_of : S.Sheet → Sheet
sheet_of s = sheet s.out.now s.at

pub record Puts (s : S.Sheet) (xs : List ℕ) (t : S.Sheet) : Type 0 where
  pub same : t.out.ghost_name ≡ s.out.ghost_name
  pub wrote : Wrote (sheet_of s) xs (sheet_of t)

-- A BUFFER that the text is put into from its start on: as much of the text as it has room for, then what was there; and how
-- many of its bytes are text.
pub record Printed (text old new : List ℕ) (n : ℕ) : Type 0 where
  pub bytes : new ≡ take (length old) text ++ drop (length text) old
  pub count : n ≡ min (length old) (length text)

-- One that is long enough has the whole text. The last two follow: a caller that passes the text on is asked for them.
pub record PrintedWhole (text old new : List ℕ) (n : ℕ) : Type 0 where
  pub bytes : new ≡ text ++ drop (length text) old
  pub count : n ≡ length text
  pub fits : n ≤ length new
  pub counted : n ≡ length (take n new)
