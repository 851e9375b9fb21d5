-- Laws of decimal digits: two and four at a time, and how many.
use Rattle.std.specs.Prelude.{◌≡◌, refl, ℕ, zero, suc, ◌/◌, ◌%◌, ◌^◌, ◌*◌, ◌≤◌, ◌<◌, List, [], ◌∷◌, ◌++◌, Bool, true, false, cond, ltb, length}
use Rattle.std.proofs.Common.{ap, sym, ◌∙◌, append_assoc, arith, pow-suc, lt-ltb, le-ltb, ltb-false, length-append}
use Rattle.text.specs.Rules.{digit, decimal_up_to, decimal}

-- Any bound that is enough gives the same digits.
same_digits : (j k n : ℕ) → n ≤ j → n ≤ k → decimal_up_to (suc j) n ≡ decimal_up_to (suc k) n
unfolding decimal_up_to
same_digits zero k n hj hk = rw (lt-ltb n 10 (omega arith))
same_digits (suc j) zero n hj hk = rw (lt-ltb n 10 (omega arith))
same_digits (suc j) (suc k) n hj hk =
    ap (λ (l : List ℕ). cond (ltb n 10) (digit n ∷ []) (l ++ (digit (n % 10) ∷ []))) (same_digits j k (n / 10) (omega arith) (omega arith))

pub decimal-small : (n : ℕ) → n < 10 → decimal n ≡ digit n ∷ []
unfolding decimal_up_to
decimal-small n h = rw (lt-ltb n 10 h)

decimal-next : (n : ℕ) → 10 ≤ n → decimal n ≡ decimal_up_to n (n / 10) ++ (digit (n % 10) ∷ [])
unfolding decimal_up_to
decimal-next n h = rw (le-ltb n 10 h)

decimal-more : (n : ℕ) → 10 ≤ n → decimal n ≡ decimal (n / 10) ++ (digit (n % 10) ∷ [])
decimal-more zero h = absurd (omega arith)
decimal-more (suc m) h =
    decimal-next (suc m) h ∙ ap (λ (l : List ℕ). l ++ (digit (suc m % 10) ∷ [])) (same_digits m (suc m / 10) (suc m / 10) (omega arith) (omega arith))

-- The last two digits of n.
abbrev pub last_two : ℕ → List ℕ
last_two n = digit (n / 10 % 10) ∷ digit (n % 10) ∷ []

pub decimal-two : (n : ℕ) → 10 ≤ n → n < 100 → last_two n ≡ decimal n
decimal-two n low high =
    let e : n / 10 % 10 ≡ n / 10 = omega arith in
    rw e (ap (λ (l : List ℕ). l ++ (digit (n % 10) ∷ [])) (sym (decimal-small (n / 10) (omega arith))) ∙ sym (decimal-more n low))

-- Two digits at a time.
pub decimal-hundreds : (n : ℕ) → 100 ≤ n → decimal (n / 100) ++ last_two n ≡ decimal n
decimal-hundreds n h =
    let e : n / 100 ≡ n / 10 / 10 = omega arith in
    rw (e, decimal-more n (omega arith), decimal-more (n / 10) (omega arith), append_assoc)

-- Four digits at a time.
abbrev pub last_four : ℕ → List ℕ
last_four n = last_two (n / 100) ++ last_two n

pub decimal-myriads : (n : ℕ) → 10000 ≤ n → decimal (n / 10000) ++ last_four n ≡ decimal n
decimal-myriads n h =
    let e : n / 10000 ≡ n / 100 / 100 = omega arith in
    sym (append_assoc (decimal (n / 10000)) (last_two (n / 100)) (last_two n))
    ∙ rw e (ap (λ (l : List ℕ). l ++ last_two n) (decimal-hundreds (n / 100) (omega arith)) ∙ decimal-hundreds n (omega arith))

-- HOW MANY

one_more : (l : List ℕ) (m n : ℕ) → ((j : ℕ) → n / 10 < 10 ^ suc j → length l ≤ suc j) → (b : Bool) → ltb n 10 ≡ b → n < 10 ^ suc m
    → length (cond b (digit n ∷ []) (l ++ (digit (n % 10) ∷ []))) ≤ suc m
one_more l m n ih true e h = omega arith
one_more l zero n ih false e h = absurd (omega (arith, ltb-false n 10 e))
one_more l (suc j) n ih false e h =
    let p : n < 10 ^ suc j * 10 = rw pow-suc at h in
    let q : length l ≤ suc j = ih j (omega arith) in
    rw length-append (omega arith)

-- A number below a power of ten has no more digits than that power.
pub digits-short : (k m n : ℕ) → n < 10 ^ suc m → length (decimal_up_to k n) ≤ suc m
unfolding decimal_up_to
digits-short zero m n h = omega arith
digits-short (suc k) m n h = one_more (decimal_up_to k (n / 10)) m n (λ j g. digits-short k j (n / 10) g) (ltb n 10) refl h
