-- A search in rows, entry by entry: what holds between two rows and within one, and what was met at its end (A.4).
use mathlib.Core.Path.{◌≡◌, sym, ap, subst, ◌∙◌}
use mathlib.Core.Bool.{Bool, true, false}
use mathlib.Core.List.{List}
use Prim.Native.Nat.{ℕ, ◌+◌, ◌-◌, ◌%◌, ◌<◌, ◌≤◌, min}
use native.Mathlib.Omega.{arith}
use lib.Dec.{ltb}
use borrow.Author.Tests.{ltb-true, ltb-false}
use Rattle.alias_map.specs.Rules.{room}
use Rattle.alias_map.specs.Words.{entry_from, entry_at}
use Rattle.alias_map.specs.Parts.{Before, Found, Met}
use Rattle.alias_map.specs.declared.entry.Entry.{Entry}
use Rattle.alias_map.proofs.Places.{before_more, found_none, found-hit}

-- what the code's test of an entry says of its word
pub tells : (p : Entry → Bool) (w : ℕ) {e : Entry} {b c : Bool} → b ≡ p e → e ≡ entry_from w → b ≡ c → p (entry_from w) ≡ c
tells p w h s q = sym (h ∙ ap p s) ∙ q

module _ (p : Entry → Bool) (t : List ℕ) where
  -- A search in rows of 8, k of n entries compared: between two rows, and j entries behind the start of one.
  abbrev pub AtRow : (n k : ℕ) → Type 0
  AtRow n k = (n ≤ room) × (k % 8 ≡ 0) × Before p t k

  abbrev pub InRow : (n start j k : ℕ) → Type 0
  InRow n start j k = AtRow n start × (start + 8 ≤ room) × (j ≤ 8) × (k ≡ start + j) × Before p t k

  module _ (n start : ℕ) where
    pub starts-row : start < n → AtRow n start → InRow n start 0 start
    starts-row h r = (r, omega (arith, r.0, r.1), omega arith, omega arith, r.2)

    pub goes_on : (j k : ℕ) → j < 8 → p (entry_at t k) ≡ false → InRow n start j k → InRow n start (j + 1) (k + 1)
    goes_on j k h x r = (r.0, r.1, omega arith, omega (arith, r.3), before_more p t k r.4 x)

    pub ends-row : (j k : ℕ) → 8 ≤ j → InRow n start j k → AtRow n k
    ends-row j k h r = (r.0.0, omega (arith, r.0.1, r.2, r.3), r.4)

  pub met-none : (n i : ℕ) → n ≤ i → Before p t i → Met p t n (n + 1)
  met-none n i h b = record { some = omega arith; first = subst (Found p t n) (omega arith) (found_none p t n i h b) }

  pub met-hit : (n i : ℕ) → Before p t i → p (entry_at t i) ≡ true → Met p t n (i + 1)
  met-hit n i b x = record { some = omega arith; first = go (ltb i n) (λ q. ltb-true i n q) (λ q. ltb-false i n q) }
    where
      go : (c : Bool) → (c ≡ true → i < n) → (c ≡ false → n ≤ i) → Found p t n (min (i + 1 - 1) n)
      go true q r = let h = q (λ j. true) in subst (Found p t n) (omega arith) (found-hit p t n i h b x)
      go false q r = let h = r (λ j. false) in subst (Found p t n) (omega arith) (found_none p t n i h b)
