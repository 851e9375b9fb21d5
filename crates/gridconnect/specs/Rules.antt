-- Document 02, A.7: extended data frames as GridConnect text. This is the file to believe of the crate.
use Rattle.std.specs.Prelude.{ℕ, ◌+◌, ◌-◌, ◌*◌, ◌/◌, ◌%◌, ◌^◌, Bool, true, cond, not, ◌&&◌, ◌||◌, List, [], ◌∷◌, ◌++◌, map, ltb, leb, eqb, length, get_or, take, drop}
use Rattle.headers.specs.Rules.{Answer, accepted, refused, refuse, between}
use Rattle.text.specs.Rules.{hex}

-- THE TEXT

-- `:`, `X`, `N` and `;`, as bytes.
abbrev pub colon : ℕ
colon = 58

abbrev pub letter_x : ℕ
letter_x = 88

abbrev pub letter_n : ℕ
letter_n = 78

abbrev pub semicolon : ℕ
semicolon = 59

-- `:X`, eight hex digits of header, `N`, two digits for each data byte, `;`. Upper case. The data is one number of eight bytes, the
-- first the highest, of which the length counts some.
unfoldable pub text_of : (header len bytes : ℕ) → List ℕ
text_of header len bytes = colon ∷ letter_x ∷ (hex 8 header ++ letter_n ∷ (take (2 * len) (hex 16 bytes) ++ semicolon ∷ []))

-- A header has 29 bits, all of which are kept, alias 0 included.
abbrev pub too_long : ℕ → Bool
too_long header = leb (2 ^ 29) header

-- THE WRITER gives 9 for a header above 29 bits or a length above 8; 17, tested last, for a buffer that is too short; else the text.
abbrev pub write : (room header len bytes : ℕ) → Answer (List ℕ)
write room header len bytes =
    refuse (too_long header || ltb 8 len) 9
    (refuse (ltb room (length (text_of header len bytes))) 17
    (accepted (text_of header len bytes)))

-- It answers the text's length,
abbrev pub length_of : Answer (List ℕ) → Answer ℕ
length_of (accepted text) = accepted (length text)
length_of (refused number) = refused number

-- and the buffer holds the text then, and beyond it what was there; after a refusal all that was there.
abbrev pub buffer_of : Answer (List ℕ) → (before : List ℕ) → List ℕ
buffer_of (accepted text) before = text ++ drop (length text) before
buffer_of (refused number) before = before

-- THE READER takes hex digits in either case, and all else exactly.

-- The value of a hex digit: 0 to 9, A to F, a to f. 16 stands for no digit.
unfoldable pub value : ℕ → ℕ
value b =
    cond (between 48 57 b) (b - 48)
    (cond (between 65 70 b) (b - 55)
    (cond (between 97 102 b) (b - 87)
    16))

-- Whether all of these are digits.
unfoldable pub are_digits : List ℕ → Bool
are_digits [] = true
are_digits (b ∷ bs) = ltb (value b) 16 && are_digits bs

-- The number that digits stand for, the highest first, after those that stand for m.
unfoldable pub number_from : (m : ℕ) → List ℕ → ℕ
number_from m [] = m
number_from m (b ∷ bs) = number_from (16 * m + value b) bs

abbrev pub number : List ℕ → ℕ
number bs = number_from 0 bs

-- Where the digits stand in a text: those of the header behind `:X`, those of the data between `N` and `;`.
abbrev pub header_in : List ℕ → List ℕ
header_in t = take 8 (drop 2 t)

abbrev pub data_in : List ℕ → List ℕ
data_in t = take (length t - 12) (drop 11 t)

-- All but the digits: 12 bytes, and two more for each of up to 8 data bytes; `:X` in front, `N` between the digits, `;` last.
unfoldable pub framed : List ℕ → Bool
framed t =
    between 12 28 (length t)
    && (eqb (length t % 2) 0
    && (eqb (get_or t 0 0) colon
    && (eqb (get_or t 1 0) letter_x
    && (eqb (get_or t 10 0) letter_n
    && eqb (get_or t (length t - 1) 0) semicolon))))

-- The shape of a text: that, and digits in all other places.
abbrev pub shaped : List ℕ → Bool
shaped t = framed t && (are_digits (header_in t) && are_digits (data_in t))

pub record Frame : Type 0 where
  pub header : ℕ
  pub len : ℕ
  pub bytes : ℕ

-- The frame that a text of this shape stands for. Data bytes that it does not have are 0.
abbrev pub frame_in : List ℕ → Frame
frame_in t =
    record {
      header = number (header_in t);
      len = length (data_in t) / 2;
      bytes = number (data_in t) * 16 ^ (16 - length (data_in t));
    }

-- Text of any other shape, or with a header above 29 bits, is 16.
unfoldable pub read : List ℕ → Answer Frame
read t = refuse (not (shaped t) || too_long (number (header_in t))) 16 (accepted (frame_in t))

-- A text with its letters raised.
abbrev pub raise : ℕ → ℕ
raise b = cond (between 97 122 b) (b - 32) b

abbrev pub raised : List ℕ → List ℕ
raised t = map raise t
