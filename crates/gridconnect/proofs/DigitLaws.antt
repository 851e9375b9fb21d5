-- Laws of digits in either case: their values, the number that they stand for one by one, and how great it can be.
use Rattle.std.specs.Prelude.{◌≡◌, refl, ℕ, zero, suc, ◌+◌, ◌-◌, ◌*◌, ◌%◌, ◌^◌, ◌≤◌, ◌<◌, true, false, ◌&&◌, List, [], ◌∷◌, ◌++◌, ltb, length, get_or, take, Option, Some}
use Rattle.std.proofs.Math.Path.{ap}
use Rattle.std.proofs.Common.{sym, subst, ◌∙◌, arith, zero-mul, mul-zero, mul-suc, pow-suc, lt_of_lt_of_le, add-one, lt-ltb, le-ltb, le-leb, pow-add, shl_exact, take-suc, take_all}
use Rattle.std.proofs.Math.Bool.{and-true, and-false, and_assoc}
use Rattle.std.proofs.Math.Nat.{pow-zero, pow-le-pow_right}
use Rattle.std.proofs.lemmas.Bool.{lt-leb}
use Rattle.std.proofs.Math.Seq.{split_at}
use Rattle.text.specs.Table.{table_at}
use Rattle.gridconnect.specs.Rules.{value, are_digits, number_from, number}
use Rattle.gridconnect.specs.Answers.{Stands}
use Rattle.gridconnect.specs.Digits.{from_zero, value_table, SoFar}

pub value-from : (b : ℕ) → 48 ≤ b → b ≤ 102 → get_or value_table (b - 48) 0 ≡ value b
value-from b low high =
    let e : 48 + (b - 48) ≡ b = omega arith in
    table_at from_zero 55 (b - 48) (omega arith) ∙ ap value e

pub value_low : (b : ℕ) → b < 48 → 16 ≡ value b
unfolding value
value_low b h = rw (lt-leb 48 b h, lt-leb 65 b (omega arith), lt-leb 97 b (omega arith)) refl

pub value-high : (b : ℕ) → 102 < b → 16 ≡ value b
unfolding value
value-high b h = rw (le-leb 48 b (omega arith), le-leb 65 b (omega arith), le-leb 97 b (omega arith), lt-leb b 57 (omega arith), lt-leb b 70 (omega arith), lt-leb b 102 h) refl

-- ONE LIST AFTER ANOTHER

pub are-append : (xs ys : List ℕ) → are_digits (xs ++ ys) ≡ are_digits xs && are_digits ys
unfolding are_digits
are-append [] ys = refl
are-append (x ∷ xs) ys = rw (are-append xs ys) (sym (and_assoc (ltb (value x) 16) (are_digits xs) (are_digits ys)))

pub number_append : (m : ℕ) (xs ys : List ℕ) → number_from m (xs ++ ys) ≡ number_from (number_from m xs) ys
unfolding number_from
number_append m [] ys = refl
number_append m (x ∷ xs) ys = number_append (16 * m + value x) xs ys

pub are-one : (d : ℕ) → are_digits (d ∷ []) ≡ ltb (value d) 16
unfolding are_digits
are-one d = and-true (ltb (value d) 16)

pub number-one : (m d : ℕ) → number_from m (d ∷ []) ≡ 16 * m + value d
unfolding number_from
number-one m d = refl

-- DIGIT BY DIGIT

module _ (ds : List ℕ) (i : ℕ) (h : i < length ds) where
  are-more : are_digits (take i ds) ≡ true → value (get_or ds i 0) < 16 → are_digits (take (i + 1) ds) ≡ true
  are-more p q = rw (add-one, take-suc ds i 0 h, are-append, are-one, p, lt-ltb (value (get_or ds i 0)) 16 q) refl

  pub are-not : 16 ≤ value (get_or ds i 0) → are_digits ds ≡ false
  unfolding are_digits
  are-not q = ap are_digits (split_at ds i 0 h) ∙ are-append (take i ds) _ ∙ rw (le-ltb (value (get_or ds i 0)) 16 q) (and-false (are_digits (take i ds)))

  number_more : number (take (i + 1) ds) ≡ 16 * number (take i ds) + value (get_or ds i 0)
  number_more = rw (add-one, take-suc ds i 0 h, number_append, number-one) refl

  below_more : {n d : ℕ} → n < 16 ^ i → d < 16 → 16 * n + d < 16 ^ (i + 1)
  below_more {n} {d} p q = rw (add-one, pow-suc) (omega arith)

pub none_yet : (ds : List ℕ) → SoFar ds 0 0
unfolding are_digits number_from
none_yet ds = record { are = refl; is = refl; below = omega arith }

pub one_more : (ds : List ℕ) (i : ℕ) {n d : ℕ} → i < length ds → SoFar ds n i → d ≡ value (get_or ds i 0) → d < 16 → SoFar ds (16 * n + d) (i + 1)
one_more ds i h p e q =
    record {
      are = are-more ds i h p.are (rw (sym e) q);
      is = rw (p.is, e) (sym (number_more ds i h));
      below = below_more ds i h p.below q;
    }

pub all_read : (ds : List ℕ) (i : ℕ) {n : ℕ} → i ≡ length ds → SoFar ds n i → Stands (Some n) ds
all_read ds i {n} e p = (rw whole at p.are, (p.is ∙ ap number whole, subst (λ (k : ℕ). n < 16 ^ k) e p.below))
  where
    whole : take i ds ≡ ds
    whole = take_all i ds (omega (arith, e))

-- What a match on the answer tells.
pub stands-as : (ds : List ℕ) {r s : Option ℕ} → r ≡ s → Stands r ds → Stands s ds
stands-as ds e p = subst (λ (r : Option ℕ). Stands r ds) e p

-- With fewer than 16 of them, one more fits into 64 bits.
pub below-60-bits : {ds : List ℕ} {n i : ℕ} → i < 16 → SoFar ds n i → n < 2 ^ 60
below-60-bits {n = n} {i = i} h p = lt_of_lt_of_le p.below (pow-le-pow_right (omega arith) {i = i} {j = 15} (omega arith))

-- ZEROS BEHIND THE DIGITS, 16 digits in all

-- Powers of 16 and of 256 are powers of 2.
pub in-bits : (b k : ℕ) → (2 ^ b) ^ k ≡ 2 ^ (b * k)
in-bits b zero = rw (mul-zero, pow-zero) refl
in-bits b (suc k) = rw (pow-suc, in-bits b k, mul-suc) (sym (pow-add 2 (b * k) b))

pub pad-none : (n digits : ℕ) → n < 16 ^ digits → digits ≡ 0 → 0 ≡ n * 16 ^ (16 - digits)
pad-none n digits h e =
    let z : n ≡ 0 = omega (arith, subst (λ (k : ℕ). n < 16 ^ k) e h) in
    rw z (sym (zero-mul _))

pub pad-shift : (n digits : ℕ) → digits ≤ 16 → n < 16 ^ digits → n * 2 ^ (64 - 4 * digits) % 2 ^ 64 ≡ n * 16 ^ (16 - digits)
pad-shift n digits few h =
    let e : 64 - 4 * digits ≡ 4 * (16 - digits) = omega arith in
    shl_exact (4 * digits) (64 - 4 * digits) 64 (rw (in-bits 4 digits) at h) (omega arith) ∙ rw (e, in-bits 4 (16 - digits)) refl
