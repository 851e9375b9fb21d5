-- Where a test holds of entries by their places: what is found first, and how many stay where such are removed.
use mathlib.Core.Path.{◌≡◌, refl, sym, ap, ◌∙◌}
use mathlib.Core.Bool.{Bool, true, false, cond}
use mathlib.Core.List.{List, [], ◌∷◌}
use Prim.Native.Nat.{ℕ, zero, suc, ◌+◌, ◌<◌}
use native.Mathlib.Omega.{arith}
use lib.ListN.{length, get_or, take, drop}
use lib.Seq.{length-take-le, take-length, split_at}
use Rattle.alias_map.specs.Rules.{accepted, refused, without, look_up}
use Rattle.alias_map.specs.Laws.{count}
use Rattle.alias_map.proofs.Laws.{without-length, found_at, not_found}
use Rattle.alias_map.specs.declared.entry.Entry.{Entry}

module _ (p : Entry → Bool) (d : Entry) where
  abbrev pub None : List Entry → ℕ → Type 0
  None es n = (k : ℕ) → k < n → p (get_or es k d) ≡ false

  none-counted : (es : List Entry) (i : ℕ) → None es i → count p (take i es) ≡ 0
  unfolding count
  none-counted es zero h = refl
  none-counted [] (suc i) h = refl
  none-counted (e ∷ es) (suc i) h = simp (h 0 (omega arith)) (omega (arith, none-counted es i (λ k l. h (suc k) (omega arith))))

  -- none is found, or the first at place i, where i + 1 entries were compared
  module _ (g : Entry → ℕ) (es : List Entry) where
    pub misses : None es (length es) → look_up g p es ≡ refused 13
    misses h = not_found g p es (ap (count p) (sym (take-length es)) ∙ none-counted es (length es) h)

    pub hits : (i : ℕ) → i < length es → None es i → p (get_or es i d) ≡ true
        → look_up g p es ≡ accepted (record { value = g (get_or es i d); count = i + 1 })
    hits i l b x =
        ap (look_up g p) (split_at es i d l)
        ∙ found_at g p (take i es) (drop (suc i) es) (get_or es i d) (none-counted es i b) x
        ∙ (λ j. accepted (record { value = g (get_or es i d); count = length-take-le i es (omega arith) j + 1 }))

  pub without-none : (es : List Entry) → None es (length es) → without p es ≡ es
  unfolding without
  without-none [] h = refl
  without-none (e ∷ es) h = simp (h 0 (omega arith)) (ap (λ (l : List Entry). e ∷ l) (without-none es (λ k l. h (suc k) (omega arith))))

  pub hit-shorter : (es : List Entry) (i : ℕ) → i < length es → p (get_or es i d) ≡ true → length (without p es) < length es
  unfolding without
  hit-shorter [] i l x = absurd (omega arith)
  hit-shorter (e ∷ es) zero l x = simp x (omega (arith, without-length p es))
  hit-shorter (e ∷ es) (suc i) l x = go (p e) (hit-shorter es i (omega arith) x)
    where
      go : (b : Bool) → length (without p es) < length es → length (cond b (without p es) (e ∷ without p es)) < length (e ∷ es)
      go true r = omega arith
      go false r = omega arith

  pub two-shorter : (es : List Entry) (i j : ℕ) → i < j → j < length es → p (get_or es i d) ≡ true → p (get_or es j d) ≡ true
      → length (without p es) + 1 < length es
  unfolding without
  two-shorter [] i j m l x y = absurd (omega arith)
  two-shorter (e ∷ es) i zero m l x y = absurd (omega arith)
  two-shorter (e ∷ es) zero (suc j) m l x y = simp x (omega (arith, hit-shorter es j (omega arith) y))
  two-shorter (e ∷ es) (suc i) (suc j) m l x y = go (p e) (two-shorter es i j (omega arith) (omega arith) x y)
    where
      go : (b : Bool) → length (without p es) + 1 < length es → length (cond b (without p es) (e ∷ without p es)) + 1 < length (e ∷ es)
      go true r = omega arith
      go false r = omega arith
