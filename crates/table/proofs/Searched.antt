-- Searches through the places in order: what the first that passes says of those before it.
use mathlib.Core.Path.{◌≡◌, sym, ap, subst, ◌∙◌}
use mathlib.Core.Logic.{◌≢◌}
use mathlib.Core.Bool.{Bool, true, false}
use mathlib.Core.List.{List, ◌∷◌}
use Prim.Native.Nat.{ℕ, suc, ◌+◌, ◌-◌, ◌<◌, ◌≤◌}
use native.Mathlib.Omega.{arith}
use lib.ListN.{length, get_or}
use Rattle.std.specs.Bool.{MatchBool, ⊤}
use Rattle.std.specs.Fn.{Called, CalledAt}
use Rattle.std.specs.Iterator.{YieldsThen}
use Rattle.std.specs.Prelude.{Option, Some, None, MatchOption}
use Rattle.std.specs.List.{range_with_len, FoldsTo, HoldsAt, AllWithin}
use Rattle.std.proofs.lemmas.Iterator.{YieldsList, cases_from_any, first_from_find}
use Rattle.std.proofs.lemmas.Iterator.Consumers.{YieldsList-from_shown}
use Rattle.std.proofs.lemmas.List.FromFn.{length-range_with_len, get_or-range_with_len}
use denote.Param.Members.{Mut}
use denote.Ref.{Bor}
use Rattle.table.specs.declared.place.Place.{Place}
use Rattle.table.specs.declared.place.Places.{Places}
use Rattle.table.specs.Places.{Between, Steps}
use Rattle.table.specs.Parts.{FirstIn}
use Rattle.table.specs.Words.{place_of, cell_at, view}
use Rattle.table.specs.WordLaws.{view-at}
use Rattle.segment_rules.specs.Rules as P
use Rattle.segment_rules.specs.Rules.{places, some_other, has_due}
use Rattle.segment_rules.proofs.Others.{some-other, no_other}

abbrev index_of : Place → ℕ
index_of k = k.index

-- the indexes of the places that are to come
abbrev indexes : Places → List ℕ
indexes s = range_with_len s.next (s.end - s.next)

come : (s : Places) → YieldsList Steps index_of s (indexes s)
come = YieldsList-from_shown Steps index_of indexes none some
  where
    none : (s t : Places) → Steps s None t → length (indexes s) ≡ 0
    none s t h = length-range_with_len s.next (s.end - s.next) ∙ omega arith

    some : (s : Places) (k : Place) (t : Places) → Steps s (Some k) t → indexes s ≡ k.index ∷ indexes t
    some s k t h =
        let e : s.end - s.next ≡ suc (t.end - t.next) = omega arith in
        ap (range_with_len s.next) e ∙ (λ i. sym h.0.1 i ∷ range_with_len (sym h.0.2 i) (t.end - t.next))

module _ (P : ℕ → Type 0) (from to : ℕ) where
  holds : (k : ℕ) → k < length (range_with_len from (to - from)) → HoldsAt P (range_with_len from (to - from)) k → (from + k < to) × P (from + k)
  holds k l h =
      let m : k < to - from = omega (arith, length-range_with_len from (to - from)) in
      (omega arith, subst P (get_or-range_with_len from (to - from) k 0 m) (h 0))

  within : (n : ℕ) → AllWithin P (range_with_len from (to - from)) 0 n → (i : ℕ) → from ≤ i → i < to → i < from + n → P i
  within n h i a b d =
      let m : i - from < to - from = omega arith in
      let e : get_or (range_with_len from (to - from)) (i - from) 0 ≡ i = get_or-range_with_len from (to - from) (i - from) 0 m ∙ omega arith in
      subst P e (h (i - from) 0 (omega arith) (omega arith))

-- AMONG THE OTHER PLACES: `any` over all places

module _ (Q : P.Place → Bool) (t : List ℕ) (from : ℕ) where
  abbrev Yes : ℕ → Type 0
  Yes i = (i ≢ from) × (Q (place_of (cell_at t i)) ≡ true)

  abbrev No : ℕ → Type 0
  No i = i ≢ from → Q (place_of (cell_at t i)) ≡ false

  module _ {F : Type 0} {g : Mut F (Place × Unit {0}) Bool} (s u : Places) (f : F) (r : Bool) (all : Between 0 places s) where
    pub any-other : ((xs : List Place) × (o : Option Place) × (j : F) × YieldsThen Steps s xs o u × FoldsTo (λ p x q. Called g p (x, tt) false q) f xs j
        × MatchOption o (r ≡ false) (λ x. (r ≡ true) × ((h : F) × Called g j (x, tt) true h)))
        → ((x : Place) (q : F) → Called g f (x, tt) true q → Yes x.index)
        → ((x : Place) (q : F) → Called g f (x, tt) false q → (q ≡ f) × No x.index)
        → r ≡ some_other Q from places (view t)
    any-other ran such not-such = go r (cases_from_any u f r Yes No ran (come s) such not-such)
      where
        go : (r : Bool) → MatchBool r ((k : ℕ) × (k < length (indexes s)) × HoldsAt Yes (indexes s) k) (AllWithin No (indexes s) 0 (length (indexes s)))
            → r ≡ some_other Q from places (view t)
        go true (k, l, h) =
            let z = holds Yes s.next s.end k l h in
            sym (some-other Q from (view t) places (s.next + k) (omega arith) z.1.0 (ap Q (view-at t (s.next + k) (omega arith)) ∙ z.1.1))
        go false h = sym (no_other Q from (view t) places (λ i l ne. ap Q (view-at t i l) ∙ within No s.next s.end _ h i (omega arith) (omega arith) (omega (arith, length-range_with_len s.next (s.end - s.next))) ne))

-- THE FIRST WITH A DUE FRAME: `find` over some places

module _ (t : List ℕ) where
  abbrev Due : ℕ → Type 0
  Due i = has_due (place_of (cell_at t i)) ≡ true

  abbrev NotDue : ℕ → Type 0
  NotDue i = has_due (place_of (cell_at t i)) ≡ false

  module _ {F : Type 0} {g : Mut F (Bor Place × Unit {0}) Bool} (s u : Places) (f : F) (r : Option Place) where
    pub find-due : ((xs : List Place) × (j : F) × YieldsThen Steps s xs r u × FoldsTo (λ p x q. CalledAt g p x false q) f xs j
        × MatchOption r ⊤ (λ x. (h : F) × CalledAt g j x true h))
        → ((x : Place) (q : F) → CalledAt g f x true q → Due x.index)
        → ((x : Place) (q : F) → CalledAt g f x false q → (q ≡ f) × NotDue x.index)
        → FirstIn t s.next s.end r
    find-due ran due not-due = go r (first_from_find u f r Due NotDue ran (come s) due not-due)
      where
        go : (r : Option Place) → MatchOption r (AllWithin NotDue (indexes s) 0 (length (indexes s)))
            (λ x. Due x.index × (i : ℕ) × (i < length (indexes s)) × HoldsAt (λ y. y ≡ x.index) (indexes s) i × AllWithin NotDue (indexes s) 0 i)
            → FirstIn t s.next s.end r
        go None h = λ k a b. within NotDue s.next s.end _ h k a b (omega (arith, length-range_with_len s.next (s.end - s.next)))
        go (Some x) (d, i, m, e, h) =
            let (b, q) = holds (λ y. y ≡ x.index) s.next s.end i m e in
            record {
              least = omega arith;
              most = omega arith;
              passed = λ k a' b'. within NotDue s.next s.end _ h k a' (omega arith) (omega arith);
              due = d;
            }
