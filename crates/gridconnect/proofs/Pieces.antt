-- Laws of a text that is written piece by piece: its data byte by byte, the whole of it, and how long it is.
use Rattle.std.specs.Prelude.{◌≡◌, refl, ℕ, ◌+◌, ◌-◌, ◌*◌, ◌/◌, ◌^◌, ◌<◌, ◌≤◌, List, [], ◌∷◌, ◌++◌, length, take}
use Rattle.std.proofs.Common.{subst, append_assoc, arith, length-append, length-take}
use Rattle.text.specs.Rules.{hex, Sheet, sheet, Wrote}
use Rattle.text.specs.Sheet.{then, alike, placed}
use Rattle.text.specs.Hex.{length-hex, next-byte}
use Rattle.gridconnect.specs.Rules.{semicolon, text_of}
use Rattle.gridconnect.specs.Pieces.{front}

-- One data byte more.
pub data-more : (bytes i : ℕ) {s : Sheet} {t u : List ℕ} → i < 8
    → Wrote s (take (2 * i) (hex 16 bytes)) (sheet t (11 + 2 * i))
    → Wrote (sheet t (11 + 2 * i)) (hex 2 (bytes / 2 ^ (56 - 8 * i))) (sheet u (11 + 2 * i + 2))
    → Wrote s (take (2 * (i + 1)) (hex 16 bytes)) (sheet u (11 + 2 * (i + 1)))
data-more bytes i h p q = placed (alike (then p q) (next-byte i bytes h)) (omega arith)

-- All of them.
pub data-all : (bytes count i : ℕ) {s : Sheet} {t : List ℕ} → i ≡ count
    → Wrote s (take (2 * i) (hex 16 bytes)) (sheet t (11 + 2 * i)) → Wrote s (take (2 * count) (hex 16 bytes)) (sheet t (11 + 2 * count))
data-all bytes count i {s} {t} e p = subst (λ (n : ℕ). Wrote s (take (2 * n) (hex 16 bytes)) (sheet t (11 + 2 * n))) e p

pub pieces : (header len bytes : ℕ) → front header len bytes ++ (semicolon ∷ []) ≡ text_of header len bytes
unfolding text_of
pieces header len bytes = rw (append_assoc, append_assoc, append_assoc) refl

pub length-text : (header len bytes : ℕ) → len ≤ 8 → length (text_of header len bytes) ≡ 12 + 2 * len
unfolding text_of
length-text header len bytes h =
    rw (length-append, length-append, length-hex 8 header, length-take (2 * len) (hex 16 bytes), length-hex 16 bytes) (omega arith)
