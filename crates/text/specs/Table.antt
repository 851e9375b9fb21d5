-- Laws of a table, which has a function's values one after another; and of a test that is computed for all numbers below a bound.
use Rattle.std.specs.Prelude.{◌≡◌, refl, Bool, true, false, ◌&&◌, List, [], ◌∷◌, ◌++◌, ℕ, zero, suc, ◌<◌, T, ltb, length, get_or}
use Rattle.std.proofs.Common.{ap, subst, ◌∙◌, arith, ltb-true, ltb-false, length-append}
use Rattle.std.proofs.Math.ListN.{get_or-append}
use Rattle.std.proofs.lemmas.List.{get_or_at}

unfoldable pub table_of : (ℕ → ℕ) → (n : ℕ) → List ℕ
table_of f zero = []
table_of f (suc n) = table_of f n ++ f n ∷ []

length-table : (f : ℕ → ℕ) (n : ℕ) → length (table_of f n) ≡ n
unfolding table_of
length-table f zero = refl
length-table f (suc n) = length-append (table_of f n) (f n ∷ []) ∙ rw (length-table f n) (omega arith)

pub table_at : (f : ℕ → ℕ) (n k : ℕ) → k < n → get_or (table_of f n) k 0 ≡ f k
unfolding table_of
table_at f zero k h = absurd (omega (arith, h))
table_at f (suc n) k h = go (table_at f n k) (ltb k n) refl
  where
    go : (k < n → get_or (table_of f n) k 0 ≡ f k) → (b : Bool) → ltb k n ≡ b → get_or (table_of f n ++ f n ∷ []) k 0 ≡ f k
    go earlier true e =
        let l : k < length (table_of f n) = rw (length-table f n) (ltb-true k n e) in
        get_or-append (table_of f n) (f n ∷ []) 0 k l ∙ earlier (ltb-true k n e)
    go earlier false e =
        let q : n ≡ k = omega (arith, h, ltb-false k n e) in
        get_or_at (table_of f n) (f n) [] 0 k (length-table f n ∙ q) ∙ ap f q

abbrev pub all_below : (ℕ → Bool) → (n : ℕ) → Bool
all_below f zero = true
all_below f (suc n) = f n && all_below f n

each : (a b : Bool) → T (a && b) → T a × T b
each true b t = (tt, t)
each false b t = absurd t

pub below : (f : ℕ → Bool) (n k : ℕ) → T (all_below f n) → k < n → T (f k)
below f zero k t h = absurd (omega (arith, h))
below f (suc n) k t h = go (below f n k (each (f n) (all_below f n) t).1) (ltb k n) refl
  where
    go : (k < n → T (f k)) → (b : Bool) → ltb k n ≡ b → T (f k)
    go earlier true e = earlier (ltb-true k n e)
    go earlier false e =
        let q : n ≡ k = omega (arith, h, ltb-false k n e) in
        subst (λ (m : ℕ). T (f m)) q (each (f n) (all_below f n) t).0
