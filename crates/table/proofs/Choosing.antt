-- A choice (A.8): what it has passed over, and whom it names then; and its promise.
use mathlib.Core.Path.{◌≡◌, refl, sym, ap, ◌∙◌}
use mathlib.Core.Logic.{⊎_elim}
use mathlib.Core.Bool.{Bool, true, false, cond}
use mathlib.Core.List.{List}
use Prim.Native.Nat.{ℕ, zero, suc, ◌+◌, ◌-◌, ◌%◌, ◌<◌, ◌≤◌}
use native.Mathlib.Omega.{arith}
use Rattle.std.specs.Prelude.{Option, Some, None, MatchOption}
use Rattle.node.specs.Rules.{done}
use Rattle.segment_rules.specs.Rules.{places, Segment, choose, Choice, names, nobody, has_due, after, first_due, choice, mark_by, chose}
use Rattle.table.specs.Words.{place_of, cell_at, mark_of, view}
use Rattle.table.specs.WordLaws.{lt-or-le, view-at, view-mark}
use Rattle.table.specs.declared.place.Place as One
use Rattle.table.specs.Places.{named}
use Rattle.table.specs.Parts.{Marked, FirstBetween, NoneDue, FirstIn}
use Rattle.table.specs.Promise.{SoundWords, Carries, chosen}
use Rattle.table.proofs.Promised.{accepts-each}

-- WHOM A CHOICE NAMES

-- so many nodes without a due frame are passed over
skipped : (S : Segment) (i n j : ℕ) → j < places → ((e : ℕ) → e < i → has_due (S.at ((j + e) % places)) ≡ false)
    → first_due S (i + n) j ≡ first_due S n ((j + i) % places)
unfolding first_due
skipped S zero n j h none =
    let m : 0 + n ≡ n = omega arith in
    let e : j ≡ (j + 0) % places = omega arith in
    λ z. first_due S (m z) (e z)
skipped S (suc i) n j h none =
    let m : suc i + n ≡ suc (i + n) = omega arith in
    let here : (j + 0) % places ≡ j = omega arith in
    let shift : (e : ℕ) → (after j + e) % places ≡ (j + suc e) % places = λ e. omega arith in
    ap (λ (k : ℕ). first_due S k j) m
    ∙ ap (λ (b : Bool). cond b (names j) (first_due S (i + n) (after j))) (sym (ap (λ (k : ℕ). has_due (S.at k)) here) ∙ none 0 (omega arith))
    ∙ skipped S i n (after j) (omega arith) (λ e l. ap (λ (k : ℕ). has_due (S.at k)) (shift e) ∙ none (suc e) (omega arith))
    ∙ ap (first_due S n) (shift i)

-- none from one index on, before another, has a due frame
between : {t : List ℕ} (from to : ℕ) → from ≤ to → NoneDue t from to → FirstBetween t from to to
between from to h N = record { least = h; most = omega arith; passed = N; due = λ l. absurd (omega arith) }

module _ (t : List ℕ) (next : ℕ) (e : next ≡ after (mark_of t)) where
  from_next : choice (view t) ≡ first_due (view t) places next
  from_next = ap (first_due (view t) places) (ap after (view-mark t) ∙ sym e)

  inside : next < places
  inside = omega (arith, e)

  -- the one that is so many after the mark, where no other before it has a due frame
  named-at : (i k : ℕ) → i < places → k ≡ (next + i) % places → ((d : ℕ) → d < i → has_due ((view t).at ((next + d) % places)) ≡ false)
      → has_due ((view t).at k) ≡ true → names k ≡ choice (view t)
  unfolding first_due
  named-at i k hi ek none due =
      let n : ℕ = places - suc i in
      let all : places ≡ i + suc n = omega arith in
      sym (from_next
      ∙ ap (λ (m : ℕ). first_due (view t) m next) all
      ∙ skipped (view t) i (suc n) next inside none
      ∙ ap (first_due (view t) (suc n)) (sym ek)
      ∙ ap (λ (b : Bool). cond b (names k) (first_due (view t) n (after k))) due)

  module _ (k : ℕ) (F : FirstBetween t next places k) where
    seen : (q : ℕ) → q < places → has_due ((view t).at q) ≡ has_due (place_of (cell_at t q))
    seen q h = ap has_due (view-at t q h)

    pub found_after : k < places → names k ≡ choice (view t)
    found_after h =
        named-at (k - next) k (omega arith) (omega (arith, F.least))
        (λ d l.
        let q : (next + d) % places ≡ next + d = omega (arith, F.least) in
        ap (λ (i : ℕ). has_due ((view t).at i)) q ∙ seen (next + d) (omega arith) ∙ F.passed (next + d) (omega arith) (omega arith))
        (seen k h ∙ F.due h)

    module _ (j : ℕ) (none : places ≤ k) (G : FirstBetween t 0 next j) where
      -- none of those from next on to 23, and from 0 on before j
      none_yet : (d : ℕ) → d < places - next + j → has_due ((view t).at ((next + d) % places)) ≡ false
      none_yet d l = ⊎_elim
          (λ (s : next + d < places).
          let q : (next + d) % places ≡ next + d = omega arith in
          ap (λ (i : ℕ). has_due ((view t).at i)) q ∙ seen (next + d) s ∙ F.passed (next + d) (omega arith) (omega arith))
          (λ (s : places ≤ next + d).
          let q : (next + d) % places ≡ next + d - places = omega (arith, inside) in
          ap (λ (i : ℕ). has_due ((view t).at i)) q ∙ seen (next + d - places) (omega (arith, inside)) ∙ G.passed (next + d - places) (omega arith) (omega (arith, inside)))
          (lt-or-le (next + d) places)

      pub found-round : j < next → names j ≡ choice (view t)
      found-round h = named-at (places - next + j) j (omega (arith, inside)) (omega (arith, inside, h)) none_yet (seen j (omega (arith, inside)) ∙ G.due h)

      pub found_none : next ≤ j → nobody ≡ choice (view t)
      unfolding first_due
      found_none h =
          let all : places ≡ places + 0 = omega arith in
          sym (from_next ∙ ap (λ (m : ℕ). first_due (view t) m next) all ∙ skipped (view t) places 0 next inside (λ d l. none_yet d (omega (arith, inside, G.most, h))))

  -- those from next on, and where none of them has a due frame, those before it
  pub first-chosen : (o r : Option One.Place) → FirstIn t next places o → MatchOption o (FirstIn t 0 next r) (λ k. r ≡ Some k) → named r ≡ choice (view t)
  first-chosen (Some k) r F e =
      ap named e
      ∙ found_after k.index (record { least = F.least; most = omega (arith, k.inside); passed = F.passed; due = λ h. F.due }) k.inside
  first-chosen None (Some k) N G =
      found-round places (between next places (omega (arith, inside)) N) k.index (omega arith)
      (record { least = omega arith; most = omega (arith, G.most); passed = G.passed; due = λ h. G.due }) (omega (arith, G.most))
  first-chosen None None N M =
      found_none places (between next places (omega (arith, inside)) N) next (omega arith) (between 0 next (omega arith) M) (omega arith)

-- THE PROMISE: the mark is where the choice says

module _ (t : List ℕ) (sound : SoundWords t) where
  pub chooses : (x y : Choice) (m : ℕ) (t' : List ℕ) → x ≡ choice (view t) → x ≡ y → mark_by y (mark_of t) ≡ m → Marked t m t' → Carries choose t (chosen x) t'
  chooses x y m t' e is q w =
      accepts-each choose t (chosen x) done t' sound refl (ap chose e) refl refl w.held w.late w.slack
      (w.mark ∙ sym q ∙ (λ z. mark_by ((sym is ∙ e) z) (sym (view-mark t) z)))
      w.same

  -- nothing has changed
  pub unmarked : Marked t (mark_of t) t
  unmarked = record { held = sound.held; late = refl; slack = refl; clock = refl; mark = refl; same = λ k h. refl }
