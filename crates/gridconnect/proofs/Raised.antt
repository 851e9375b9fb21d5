-- Laws of letters that are raised: digits in either case become the digits that are written.
use Rattle.std.specs.Prelude.{◌≡◌, refl, ℕ, suc, ◌+◌, ◌*◌, ◌/◌, ◌%◌, ◌<◌, Bool, true, false, cond, not, ◌||◌, List, [], ◌∷◌, ◌++◌, T, ltb, eqb, length}
use Rattle.std.proofs.Common.{ap, sym, ◌∙◌, append-nil, arith, add-zero, add-suc, suc-add, zero-add, lt-ltb, ltb-true, ltb-false, eqb→eq}
use Rattle.std.proofs.Math.Seq.{append_snoc}
use Rattle.headers.proofs.Laws.{both}
use Rattle.text.specs.Rules.{digit, hex}
use Rattle.text.specs.Hex.{hex-suc}
use Rattle.text.specs.Table.{all_below, below}
use Rattle.gridconnect.specs.Rules.{value, are_digits, number_from, number, raise, raised}
use Rattle.gridconnect.proofs.DigitLaws.{value-high}

-- a digit that is raised is the one that is written for its value
abbrev raises : ℕ → Bool
raises b = not (ltb (value b) 16) || eqb (digit (value b)) (raise b)

all-raise : T (all_below raises 103)
unfolding value digit
all-raise = tt

met : (a b : Bool) → a ≡ true → T (not a || b) → T b
met true b e t = t
met false b e t = absurd (let z : ◌≡◌ {A = ℕ} 0 1 = ap (λ (x : Bool). cond x 1 0) e in omega (arith, z))

raise-digit : (b : ℕ) → value b < 16 → digit (value b) ≡ raise b
raise-digit b v = go (ltb b 103) refl
  where
    go : (s : Bool) → ltb b 103 ≡ s → digit (value b) ≡ raise b
    go true e = eqb→eq (digit (value b)) (raise b) (met (ltb (value b) 16) (eqb (digit (value b)) (raise b)) (lt-ltb (value b) 16 v) (below raises 103 b all-raise (ltb-true b 103 e)))
    go false e = absurd (omega (arith, v, value-high b (ltb-false b 103 e)))

digits-cons : (d : ℕ) (ds : List ℕ) → are_digits (d ∷ ds) ≡ true → (value d < 16) × (are_digits ds ≡ true)
unfolding are_digits
digits-cons d ds e = let p = both _ _ e in (ltb-true (value d) 16 p.0, p.1)

one-digit : (j m d : ℕ) → value d < 16 → hex j m ++ (raise d ∷ []) ≡ hex (suc j) (16 * m + value d)
one-digit j m d v =
    let q : (16 * m + value d) / 16 ≡ m = omega arith in
    let r : (16 * m + value d) % 16 ≡ value d = omega arith in
    sym (hex-suc j (16 * m + value d) ∙ rw (q, r, raise-digit d v) refl)

raised-after : (j m : ℕ) (ds : List ℕ) → are_digits ds ≡ true → hex j m ++ raised ds ≡ hex (j + length ds) (number_from m ds)
unfolding number_from
raised-after j m [] e = rw (append-nil, add-zero) refl
raised-after j m (d ∷ ds) e =
    let p = digits-cons d ds e in
    sym (append_snoc (hex j m) (raise d) (raised ds))
    ∙ ap (λ (l : List ℕ). l ++ raised ds) (one-digit j m d p.0)
    ∙ raised-after (suc j) (16 * m + value d) ds p.1
    ∙ ap (λ (k : ℕ). hex k (number_from (16 * m + value d) ds)) (suc-add j (length ds) ∙ sym (add-suc j (length ds)))

pub raised-digits : (ds : List ℕ) → are_digits ds ≡ true → raised ds ≡ hex (length ds) (number ds)
unfolding hex
raised-digits ds e = raised-after 0 0 ds e ∙ ap (λ (k : ℕ). hex k (number ds)) (zero-add (length ds))
