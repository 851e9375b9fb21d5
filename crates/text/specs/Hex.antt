-- Laws of hexadecimal digits: byte by byte, how many, the first of them, and by shifts.
use Rattle.std.specs.Prelude.{◌≡◌, refl, ℕ, zero, suc, ◌+◌, ◌-◌, ◌*◌, ◌/◌, ◌%◌, ◌^◌, ◌≤◌, ◌<◌, List, [], ◌∷◌, ◌++◌, length, take}
use Rattle.std.proofs.Common.{ap, sym, ◌∙◌, append_assoc, arith, add-zero, add-suc, div-one, length-append, shr-shr, take_all}
use Rattle.std.proofs.Math.Nat.{div-eq_of_lt, pow-le-pow_right}
use Rattle.std.proofs.lemmas.List.{take-append-le}
use Rattle.text.specs.Rules.{digit, hex, without}
use Rattle.text.specs.Table.{table_of}

-- The digits one after another.
abbrev pub digit_table : List ℕ
digit_table = table_of digit 16

pub hex-none : {k : ℕ} (n : ℕ) → k ≡ 0 → hex k n ≡ []
unfolding hex
hex-none n e = rw e

pub without-none : {k : ℕ} (n : ℕ) → k ≡ 0 → without k n ≡ n
unfolding without
without-none n e = rw e

pub without_more : (k n : ℕ) → (k ≡ 0 → ⊥) → without k n ≡ without (k - 1) (n / 16)
unfolding without
without_more zero n h = absurd (h refl)
without_more (suc k) n h = let e : suc k - 1 ≡ k = omega arith in rw e

pub length-hex : (k n : ℕ) → length (hex k n) ≡ k
unfolding hex
length-hex zero n = refl
length-hex (suc k) n = rw (length-append, length-hex k (n / 16)) (omega arith)

pub hex-suc : (k n : ℕ) → hex (suc k) n ≡ hex k (n / 16) ++ (digit (n % 16) ∷ [])
unfolding hex
hex-suc k n = refl

-- The last byte's two digits.
pub hex-byte : (n : ℕ) → digit (n / 16 % 16) ∷ digit (n % 16) ∷ [] ≡ hex 2 n
unfolding hex
hex-byte n = refl

-- Byte by byte, two digits each.
pub hex-bytes : (k n : ℕ) → (k ≡ 0 → ⊥) → hex (2 * (k - 1)) (n / 256) ++ hex 2 n ≡ hex (2 * k) n
hex-bytes zero n h = absurd (h refl)
hex-bytes (suc k) n h =
    let d : 2 * (suc k - 1) ≡ 2 * k = omega arith in
    let e : 2 * suc k ≡ suc (suc (2 * k)) = omega arith in
    let q : n / 256 ≡ n / 16 / 16 = omega arith in
    rw (d, e, q, hex-suc (suc (2 * k)) n, hex-suc (2 * k) (n / 16), append_assoc, sym (hex-byte n))

-- The first digits are those of the number without the last ones.
pub take-hex : (j k n : ℕ) → take j (hex (j + k) n) ≡ hex j (without k n)
unfolding without
take-hex j zero n = rw add-zero (take_all j (hex j n) (omega (arith, length-hex j n)))
take-hex j (suc k) n =
    rw (add-suc j k, hex-suc (j + k) n)
    (take-append-le j (hex (j + k) (n / 16)) _ (omega (arith, length-hex (j + k) (n / 16))) ∙ take-hex j k (n / 16))

-- Those of the first k bytes of eight.
pub first-digits : (k n : ℕ) → k ≤ 8 → take (2 * k) (hex 16 n) ≡ hex (2 * k) (without (16 - 2 * k) n)
first-digits k n h =
    let e : 2 * k + (16 - 2 * k) ≡ 16 = omega arith in
    ap (λ (j : ℕ). take (2 * k) (hex j n)) (sym e) ∙ take-hex (2 * k) (16 - 2 * k) n

-- BY SHIFTS: a header's four bytes one after another, and each of the eight bytes of a frame's data.

pub hex-word : (n : ℕ) → ((hex 2 (n / 0x1000000) ++ hex 2 (n / 0x10000)) ++ hex 2 (n / 0x100)) ++ hex 2 n ≡ hex 8 n
hex-word n =
    let a : n / 0x1000000 ≡ n / 0x10000 / 256 = omega arith in
    let b : n / 0x10000 ≡ n / 0x100 / 256 = omega arith in
    rw (a, hex-bytes 2 (n / 0x10000) (λ z. omega (arith, z)), b, hex-bytes 3 (n / 0x100) (λ z. omega (arith, z))) (hex-bytes 4 n (λ z. omega (arith, z)))

pub without-shift : (k n : ℕ) → n / 2 ^ (4 * k) ≡ without k n
unfolding without
without-shift zero n = div-one n
without-shift (suc k) n =
    let e : 4 * suc k ≡ 4 + 4 * k = omega arith in
    rw e (sym (shr-shr n 4 (4 * k)) ∙ without-shift k (n / 16))

-- A number of sixteen digits has no more.
pub without-all : (k n : ℕ) → 16 ≤ k → n < 2 ^ 64 → without k n ≡ 0
without-all k n h b =
    let p : 2 ^ 64 ≤ 2 ^ (4 * k) = pow-le-pow_right {n = 2} (omega arith) {i = 64} (omega arith) in
    sym (without-shift k n) ∙ div-eq_of_lt (omega arith)

-- The digits byte by byte, the last ones so far being those of the number without its last j bytes.
without-byte : (j n : ℕ) → without (2 * suc j) n ≡ without (2 * j) n / 256
without-byte j n =
    let e : 4 * (2 * suc j) ≡ 4 * (2 * j) + 8 = omega arith in
    sym (without-shift (2 * suc j) n) ∙ rw e (sym (shr-shr n (4 * (2 * j)) 8) ∙ ap (λ (m : ℕ). m / 256) (without-shift (2 * j) n))

pub without-bytes : (j n : ℕ) → n / 2 ^ (8 * j) ≡ without (2 * j) n
without-bytes j n = let e : 8 * j ≡ 4 * (2 * j) = omega arith in rw e (without-shift (2 * j) n)

pub hex-down : (bytes j n : ℕ) → 0 < j → j ≤ bytes
    → hex (2 * (bytes - j)) (without (2 * j) n) ++ hex 2 (without (2 * (j - 1)) n) ≡ hex (2 * (bytes - (j - 1))) (without (2 * (j - 1)) n)
hex-down bytes zero n h g = absurd (omega (arith, h))
hex-down bytes (suc j) n h g =
    let d : suc j - 1 ≡ j = omega arith in
    let e : bytes - suc j ≡ bytes - j - 1 = omega arith in
    rw (d, e, without-byte j n) (hex-bytes (bytes - j) (without (2 * j) n) (λ z. omega (arith, z)))

pub hex-all : (bytes j n : ℕ) → j ≡ 0 → hex (2 * (bytes - j)) (without (2 * j) n) ≡ hex (2 * bytes) n
hex-all bytes j n e =
    let d : bytes - j ≡ bytes = omega arith in
    let f : 2 * j ≡ 0 = omega arith in
    rw (d, without-none n f)

pub first-bytes : (k n : ℕ) → k ≤ 8 → take (2 * k) (hex 16 n) ≡ hex (2 * k) (n / 2 ^ (64 - 8 * k))
first-bytes k n h =
    let f : 4 * (16 - 2 * k) ≡ 64 - 8 * k = omega arith in
    first-digits k n h ∙ ap (hex (2 * k)) (sym (without-shift (16 - 2 * k) n) ∙ ap (λ (j : ℕ). n / 2 ^ j) f)

-- One byte more.
pub next-byte : (i n : ℕ) → i < 8 → take (2 * i) (hex 16 n) ++ hex 2 (n / 2 ^ (56 - 8 * i)) ≡ take (2 * (i + 1)) (hex 16 n)
next-byte i n h =
    let e : 64 - 8 * i ≡ 56 - 8 * i + 8 = omega arith in
    let f : 64 - 8 * (i + 1) ≡ 56 - 8 * i = omega arith in
    let g : i + 1 - 1 ≡ i = omega arith in
    let whole : hex (2 * (i + 1 - 1)) (n / 2 ^ (56 - 8 * i) / 256) ++ hex 2 (n / 2 ^ (56 - 8 * i)) ≡ hex (2 * (i + 1)) (n / 2 ^ (56 - 8 * i)) = hex-bytes (i + 1) (n / 2 ^ (56 - 8 * i)) (λ z. omega (arith, z)) in
    rw (first-bytes i n (omega arith), first-bytes (i + 1) n (omega arith), e, f, sym (shr-shr n (56 - 8 * i) 8)) (rw g at whole)
