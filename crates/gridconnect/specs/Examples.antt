-- What the theorems of proofs/Examples.antt speak of; these definitions are to be believed.
use Rattle.std.specs.Prelude.{◌≡◌, List, [], ◌∷◌, ℕ, length}
use Rattle.headers.specs.Rules.{Answer, accepted, refused}
use Rattle.gridconnect.specs.Rules.{write, length_of, buffer_of, read, raised}

pub data Example : Type 0 where
  -- in this room this header with so many of these data bytes is written as this text
  writes : (room header len bytes : ℕ) (text : List ℕ) → Example
  -- it is refused by this number
  refuses : (room header len bytes number : ℕ) → Example
  -- this text reads as this header with so many of these data bytes
  reads : (text : List ℕ) (header len bytes : ℕ) → Example
  -- this text is refused by 16
  no_text : (text : List ℕ) → Example
  -- written into this buffer, this header with so many of these data bytes is answered so, and the buffer holds this then
  leaves : (before : List ℕ) (header len bytes : ℕ) (answer : Answer ℕ) (after : List ℕ) → Example
  -- this text with its letters raised
  raises : (text upper : List ℕ) → Example

abbrev pub Holds : Example → Type 0
Holds (writes room header len bytes text) = write room header len bytes ≡ accepted text
Holds (refuses room header len bytes number) = write room header len bytes ≡ refused number
Holds (reads text header len bytes) = read text ≡ accepted (record { header = header; len = len; bytes = bytes })
Holds (no_text text) = read text ≡ refused 16
Holds (leaves before header len bytes answer after) =
    (length_of (write (length before) header len bytes) ≡ answer) × (buffer_of (write (length before) header len bytes) before ≡ after)
Holds (raises text upper) = raised text ≡ upper

abbrev pub All : List Example → Type 0
All [] = Unit
All (e ∷ es) = Holds e × All es

abbrev pub examples : List Example
examples =
    -- `:X17050263N;`, a CID 7 without data, into a buffer of just its length
    writes 12 0x17050263 0 0 (58 ∷ 88 ∷ 49 ∷ 55 ∷ 48 ∷ 53 ∷ 48 ∷ 50 ∷ 54 ∷ 51 ∷ 78 ∷ 59 ∷ [])
    -- `:X1FFFFFFFNABCDEF0123456789;`, the greatest header, eight data bytes and letters in upper case
    ∷ writes 28 0x1FFFFFFF 8 0xABCDEF0123456789 (58 ∷ 88 ∷ 49 ∷ 70 ∷ 70 ∷ 70 ∷ 70 ∷ 70 ∷ 70 ∷ 70 ∷ 78 ∷ 65 ∷ 66 ∷ 67 ∷ 68 ∷ 69 ∷ 70 ∷ 48 ∷ 49 ∷ 50 ∷ 51 ∷ 52 ∷ 53 ∷ 54 ∷ 55 ∷ 56 ∷ 57 ∷ 59 ∷ [])
    -- `:X195B4263N0A0B;`, of eight bytes the two that the length counts, in a buffer that is longer
    ∷ writes 30 0x195B4263 2 0x0A0BFFFFFFFFFFFF (58 ∷ 88 ∷ 49 ∷ 57 ∷ 53 ∷ 66 ∷ 52 ∷ 50 ∷ 54 ∷ 51 ∷ 78 ∷ 48 ∷ 65 ∷ 48 ∷ 66 ∷ 59 ∷ [])
    -- `:X00000000N00;`, bit 28 as 0, alias 0 and every 0 written
    ∷ writes 14 0 1 0 (58 ∷ 88 ∷ 48 ∷ 48 ∷ 48 ∷ 48 ∷ 48 ∷ 48 ∷ 48 ∷ 48 ∷ 78 ∷ 48 ∷ 48 ∷ 59 ∷ [])
    -- a header above 29 bits is 9, a length above 8 too, and each of the two stands before 17
    ∷ refuses 28 0x20000000 0 0 9
    ∷ refuses 28 0x40000000 0 0 9
    ∷ refuses 28 0xFFFFFFFF 0 0 9
    ∷ refuses 64 0x17050263 9 0 9
    ∷ refuses 1000 0x17050263 255 0 9
    ∷ refuses 0 0x20000000 0 0 9
    ∷ refuses 0 0x17050263 9 0 9
    -- one byte too short is 17
    ∷ refuses 11 0x17050263 0 0 17
    ∷ refuses 27 0x17050263 8 0 17
    -- `:X17050263N;`
    ∷ reads (58 ∷ 88 ∷ 49 ∷ 55 ∷ 48 ∷ 53 ∷ 48 ∷ 50 ∷ 54 ∷ 51 ∷ 78 ∷ 59 ∷ []) 0x17050263 0 0
    -- `:X1fffffffNABcdeF0123456789;`, digits in either case, and eight bytes
    ∷ reads (58 ∷ 88 ∷ 49 ∷ 102 ∷ 102 ∷ 102 ∷ 102 ∷ 102 ∷ 102 ∷ 102 ∷ 78 ∷ 65 ∷ 66 ∷ 99 ∷ 100 ∷ 101 ∷ 70 ∷ 48 ∷ 49 ∷ 50 ∷ 51 ∷ 52 ∷ 53 ∷ 54 ∷ 55 ∷ 56 ∷ 57 ∷ 59 ∷ []) 0x1FFFFFFF 8 0xABCDEF0123456789
    -- `:X195B4263N0a0B;`, two bytes, and zeros for those that it does not have
    ∷ reads (58 ∷ 88 ∷ 49 ∷ 57 ∷ 53 ∷ 66 ∷ 52 ∷ 50 ∷ 54 ∷ 51 ∷ 78 ∷ 48 ∷ 97 ∷ 48 ∷ 66 ∷ 59 ∷ []) 0x195B4263 2 0x0A0B000000000000
    -- `:X10700000N;`, alias 0, and `:X00000000N00;`, bit 28 as 0
    ∷ reads (58 ∷ 88 ∷ 49 ∷ 48 ∷ 55 ∷ 48 ∷ 48 ∷ 48 ∷ 48 ∷ 48 ∷ 78 ∷ 59 ∷ []) 0x10700000 0 0
    ∷ reads (58 ∷ 88 ∷ 48 ∷ 48 ∷ 48 ∷ 48 ∷ 48 ∷ 48 ∷ 48 ∷ 48 ∷ 78 ∷ 48 ∷ 48 ∷ 59 ∷ []) 0 1 0
    -- `:x17050263N;` and `:X17050263n;`, in lower case what is no digit
    ∷ no_text (58 ∷ 120 ∷ 49 ∷ 55 ∷ 48 ∷ 53 ∷ 48 ∷ 50 ∷ 54 ∷ 51 ∷ 78 ∷ 59 ∷ [])
    ∷ no_text (58 ∷ 88 ∷ 49 ∷ 55 ∷ 48 ∷ 53 ∷ 48 ∷ 50 ∷ 54 ∷ 51 ∷ 110 ∷ 59 ∷ [])
    -- `;X17050263N;` and `:X17050263N:`, another byte at either end
    ∷ no_text (59 ∷ 88 ∷ 49 ∷ 55 ∷ 48 ∷ 53 ∷ 48 ∷ 50 ∷ 54 ∷ 51 ∷ 78 ∷ 59 ∷ [])
    ∷ no_text (58 ∷ 88 ∷ 49 ∷ 55 ∷ 48 ∷ 53 ∷ 48 ∷ 50 ∷ 54 ∷ 51 ∷ 78 ∷ 58 ∷ [])
    -- a byte in front, a line feed behind
    ∷ no_text (32 ∷ 58 ∷ 88 ∷ 49 ∷ 55 ∷ 48 ∷ 53 ∷ 48 ∷ 50 ∷ 54 ∷ 51 ∷ 78 ∷ 59 ∷ [])
    ∷ no_text (58 ∷ 88 ∷ 49 ∷ 55 ∷ 48 ∷ 53 ∷ 48 ∷ 50 ∷ 54 ∷ 51 ∷ 78 ∷ 59 ∷ 10 ∷ [])
    -- an odd digit, a ninth byte, no `;`, seven and nine digits of header
    ∷ no_text (58 ∷ 88 ∷ 49 ∷ 55 ∷ 48 ∷ 53 ∷ 48 ∷ 50 ∷ 54 ∷ 51 ∷ 78 ∷ 48 ∷ 59 ∷ [])
    ∷ no_text (58 ∷ 88 ∷ 49 ∷ 55 ∷ 48 ∷ 53 ∷ 48 ∷ 50 ∷ 54 ∷ 51 ∷ 78 ∷ 48 ∷ 48 ∷ 48 ∷ 49 ∷ 48 ∷ 50 ∷ 48 ∷ 51 ∷ 48 ∷ 52 ∷ 48 ∷ 53 ∷ 48 ∷ 54 ∷ 48 ∷ 55 ∷ 48 ∷ 56 ∷ 59 ∷ [])
    ∷ no_text (58 ∷ 88 ∷ 49 ∷ 55 ∷ 48 ∷ 53 ∷ 48 ∷ 50 ∷ 54 ∷ 51 ∷ 78 ∷ [])
    ∷ no_text (58 ∷ 88 ∷ 49 ∷ 55 ∷ 48 ∷ 53 ∷ 48 ∷ 50 ∷ 54 ∷ 51 ∷ 78 ∷ 48 ∷ 48 ∷ [])
    ∷ no_text (58 ∷ 88 ∷ 49 ∷ 55 ∷ 48 ∷ 53 ∷ 48 ∷ 50 ∷ 54 ∷ 78 ∷ 59 ∷ [])
    ∷ no_text (58 ∷ 88 ∷ 48 ∷ 49 ∷ 55 ∷ 48 ∷ 53 ∷ 48 ∷ 50 ∷ 54 ∷ 51 ∷ 78 ∷ 59 ∷ [])
    -- `:X0G000000N;` and `:X17050263N0000000G;`, wherever it stands; and a byte above 127
    ∷ no_text (58 ∷ 88 ∷ 48 ∷ 71 ∷ 48 ∷ 48 ∷ 48 ∷ 48 ∷ 48 ∷ 48 ∷ 78 ∷ 59 ∷ [])
    ∷ no_text (58 ∷ 88 ∷ 49 ∷ 55 ∷ 48 ∷ 53 ∷ 48 ∷ 50 ∷ 54 ∷ 51 ∷ 78 ∷ 48 ∷ 48 ∷ 48 ∷ 48 ∷ 48 ∷ 48 ∷ 48 ∷ 71 ∷ 59 ∷ [])
    ∷ no_text (58 ∷ 88 ∷ 49 ∷ 55 ∷ 48 ∷ 53 ∷ 48 ∷ 50 ∷ 54 ∷ 179 ∷ 78 ∷ 59 ∷ [])
    -- `G`, `g`, `/`, `:`, `@`, a back quote and a blank are no digits
    ∷ no_text (58 ∷ 88 ∷ 49 ∷ 55 ∷ 48 ∷ 53 ∷ 48 ∷ 50 ∷ 54 ∷ 71 ∷ 78 ∷ 59 ∷ [])
    ∷ no_text (58 ∷ 88 ∷ 49 ∷ 55 ∷ 48 ∷ 53 ∷ 48 ∷ 50 ∷ 54 ∷ 103 ∷ 78 ∷ 59 ∷ [])
    ∷ no_text (58 ∷ 88 ∷ 49 ∷ 55 ∷ 48 ∷ 53 ∷ 48 ∷ 50 ∷ 54 ∷ 47 ∷ 78 ∷ 59 ∷ [])
    ∷ no_text (58 ∷ 88 ∷ 49 ∷ 55 ∷ 48 ∷ 53 ∷ 48 ∷ 50 ∷ 54 ∷ 58 ∷ 78 ∷ 59 ∷ [])
    ∷ no_text (58 ∷ 88 ∷ 49 ∷ 55 ∷ 48 ∷ 53 ∷ 48 ∷ 50 ∷ 54 ∷ 64 ∷ 78 ∷ 59 ∷ [])
    ∷ no_text (58 ∷ 88 ∷ 49 ∷ 55 ∷ 48 ∷ 53 ∷ 48 ∷ 50 ∷ 54 ∷ 51 ∷ 78 ∷ 48 ∷ 96 ∷ 59 ∷ [])
    ∷ no_text (58 ∷ 88 ∷ 49 ∷ 55 ∷ 48 ∷ 53 ∷ 48 ∷ 50 ∷ 54 ∷ 51 ∷ 78 ∷ 32 ∷ 48 ∷ 59 ∷ [])
    -- headers above 29 bits, a standard frame, a remote frame, and no text at all
    ∷ no_text (58 ∷ 88 ∷ 50 ∷ 48 ∷ 48 ∷ 48 ∷ 48 ∷ 48 ∷ 48 ∷ 48 ∷ 78 ∷ 59 ∷ [])
    ∷ no_text (58 ∷ 88 ∷ 52 ∷ 48 ∷ 48 ∷ 48 ∷ 48 ∷ 48 ∷ 48 ∷ 48 ∷ 78 ∷ 59 ∷ [])
    ∷ no_text (58 ∷ 88 ∷ 70 ∷ 70 ∷ 70 ∷ 70 ∷ 70 ∷ 70 ∷ 70 ∷ 70 ∷ 78 ∷ 59 ∷ [])
    ∷ no_text (58 ∷ 83 ∷ 49 ∷ 55 ∷ 48 ∷ 53 ∷ 48 ∷ 50 ∷ 54 ∷ 51 ∷ 78 ∷ 59 ∷ [])
    ∷ no_text (58 ∷ 88 ∷ 49 ∷ 55 ∷ 48 ∷ 53 ∷ 48 ∷ 50 ∷ 54 ∷ 51 ∷ 82 ∷ 59 ∷ [])
    ∷ no_text ([])
    -- `:X17050263N0A;` in a buffer of 17 bytes, all 7; one byte too short for it, and for a ninth data byte, all 7 stay
    ∷ leaves (7 ∷ 7 ∷ 7 ∷ 7 ∷ 7 ∷ 7 ∷ 7 ∷ 7 ∷ 7 ∷ 7 ∷ 7 ∷ 7 ∷ 7 ∷ 7 ∷ 7 ∷ 7 ∷ 7 ∷ []) 0x17050263 1 0x0A00000000000000 (accepted 14) (58 ∷ 88 ∷ 49 ∷ 55 ∷ 48 ∷ 53 ∷ 48 ∷ 50 ∷ 54 ∷ 51 ∷ 78 ∷ 48 ∷ 65 ∷ 59 ∷ 7 ∷ 7 ∷ 7 ∷ [])
    ∷ leaves (7 ∷ 7 ∷ 7 ∷ 7 ∷ 7 ∷ 7 ∷ 7 ∷ 7 ∷ 7 ∷ 7 ∷ 7 ∷ 7 ∷ 7 ∷ []) 0x17050263 1 0x0A00000000000000 (refused 17) (7 ∷ 7 ∷ 7 ∷ 7 ∷ 7 ∷ 7 ∷ 7 ∷ 7 ∷ 7 ∷ 7 ∷ 7 ∷ 7 ∷ 7 ∷ [])
    ∷ leaves (7 ∷ 7 ∷ 7 ∷ []) 0x17050263 9 0 (refused 9) (7 ∷ 7 ∷ 7 ∷ [])
    -- `:X1fffffffNabAB;`, and what stands on either side of a and z
    ∷ raises (58 ∷ 88 ∷ 49 ∷ 102 ∷ 102 ∷ 102 ∷ 102 ∷ 102 ∷ 102 ∷ 102 ∷ 78 ∷ 97 ∷ 98 ∷ 65 ∷ 66 ∷ 59 ∷ []) (58 ∷ 88 ∷ 49 ∷ 70 ∷ 70 ∷ 70 ∷ 70 ∷ 70 ∷ 70 ∷ 70 ∷ 78 ∷ 65 ∷ 66 ∷ 65 ∷ 66 ∷ 59 ∷ [])
    ∷ raises (96 ∷ 97 ∷ 122 ∷ 123 ∷ []) (96 ∷ 65 ∷ 90 ∷ 123 ∷ [])
    ∷ []
