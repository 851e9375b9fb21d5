-- What an operation gives, from what its parts promise: the entry that is found, and each way in which a note ends.
use mathlib.Core.Path.{◌≡◌, sym, ap, subst, ◌∙◌}
use mathlib.Core.Bool.{Bool, true, false}
use mathlib.Core.List.{List, [], ◌∷◌, ◌++◌, append-nil}
use Prim.Native.Nat.{ℕ, ◌+◌, ◌-◌, ◌%◌, ◌^◌, ◌<◌, ◌≤◌}
use native.Mathlib.Omega.{arith}
use lib.Dec.{ltb}
use lib.ListN.{length, get_or, set, length-set, length-append}
use lib.Seq.{get_or-append_seam}
use borrow.Author.Tests.{eq-eqb, ltb-true, ltb-false, le-leb, lt-leb}
use Rattle.alias_map.specs.Rules.{Answer, accepted, refused, after, alias_in, id_in, room, has_either, without, add, look_up}
use Rattle.alias_map.specs.Words.{entry_from, entry_at, entries_in, entries_of}
use Rattle.alias_map.specs.Answers.{Gives}
use Rattle.alias_map.specs.Parts.{Counted, Found, Met, Kept, Removed}
use Rattle.alias_map.proofs.Laws.{without-append}
use Rattle.std.specs.Prelude.{Result, Ok, Err}
use Rattle.alias_map.specs.declared.answer.Refusal.{Refusal}
use Rattle.alias_map.specs.declared.answer.Refusal.TheVariants.{Malformed, Full}
use Rattle.alias_map.specs.declared.entry.Entry.{Entry}
use Rattle.alias_map.proofs.Hits.{misses, hits, without-none, hit-shorter, two-shorter}
use Rattle.alias_map.proofs.Places.{entries-length, entry-at, entries-more, entries-put, counted, none_of}

-- nothing changes
pub unchanged : (t : List ℕ) → Gives t (accepted (entries_of t)) (Ok tt) t
unchanged t = record { answer = λ j. accepted (entries_of t); still = λ e j. t }

-- a malformed frame
pub malformed-still : (t : List ℕ) → Gives t (refused 9) (Err Malformed) t
malformed-still t = record { answer = λ j. refused 9; still = λ e j. t }

-- the alias and the Node ID of a frame are within 12 and 48 bits
pub in_frame : (h d a i : ℕ) → a ≡ alias_in h → i ≡ id_in d → d < 2 ^ 64
    → ◌≡◌ {A = Entry} (record { alias = record { 0 = a % 2 ^ 12 }; id = i % 2 ^ 48 }) (record { alias = record { 0 = alias_in h }; id = id_in d })
in_frame h d a i ea ei l =
    let x : a % 2 ^ 12 ≡ alias_in h = omega arith in
    let y : i % 2 ^ 48 ≡ id_in d = omega arith in
    λ j. record { alias = record { 0 = x j }; id = y j }

module _ (t : List ℕ) (n : ℕ) (c : Counted t n) where
  pub entries-are : entries_of t ≡ entries_in n t
  unfolding entries_of
  entries-are = ap (λ (j : ℕ). entries_in j t) (sym c.count)

  inside : n ≤ length t
  inside = omega (arith, c.most, c.long)

  -- LOOKING UP

  module _ (g : Entry → ℕ) (p : Entry → Bool) where
    pub no-entry : Found p t n n → look_up g p (entries_of t) ≡ refused 13
    no-entry f = ap (look_up g p) entries-are ∙ misses p (entry_from 0) g (entries_in n t) (none_of p t n inside f.before)

    pub first-entry : (i : ℕ) → i < n → Found p t n i → look_up g p (entries_of t) ≡ accepted (record { value = g (entry_at t i); count = i + 1 })
    first-entry i h f =
        ap (look_up g p) entries-are
        ∙ hits p (entry_from 0) g (entries_in n t) i (omega (arith, entries-length t n inside))
        (λ j l. let b : j < n = omega arith in ap p (entry-at t n j b) ∙ f.before j l)
        (ap p (entry-at t n i h) ∙ f.hit h)
        ∙ (λ j. accepted (record { value = g (entry-at t n i h j); count = i + 1 }))

  -- the same by how many entries are compared
  module _ (g : Entry → ℕ) (p : Entry → Bool) (k : ℕ) (m : Met p t n k) where
    pub absent : n < k → look_up g p (entries_of t) ≡ refused 13
    absent h = no-entry g p (subst (Found p t n) (omega arith) m.first)

    pub present : k ≤ n → look_up g p (entries_of t) ≡ accepted (record { value = g (entry_at t (k - 1)); count = k })
    present h =
        let at : k - 1 < n = omega (arith, m.some) in
        let last : k - 1 + 1 ≡ k = omega (arith, m.some) in
        first-entry g p (k - 1) at (subst (Found p t n) (omega (arith, at)) m.first)
        ∙ (λ j. accepted (record { value = g (entry_at t (k - 1)); count = last j }))

  -- the entry that is compared last, by its place
  pub present-at : (g : Entry → ℕ) (p : Entry → Bool) (i : ℕ) → Met p t n (i + 1) → i < n
      → look_up g p (entries_of t) ≡ accepted (record { value = g (entry_at t i); count = i + 1 })
  present-at g p i m h =
      let place : i + 1 - 1 ≡ i = omega arith in
      present g p (i + 1) m (omega (arith, h)) ∙ (λ j. accepted (record { value = g (entry_at t (place j)); count = i + 1 }))

  -- REMOVING

  module _ (p : Entry → Bool) (i : ℕ) (f : Found p t n i) where
    at-hit : i < n → p (get_or (entries_in n t) i (entry_from 0)) ≡ true
    at-hit h = ap p (entry-at t n i h) ∙ f.hit h

    in-length : i < n → i < length (entries_in n t)
    in-length h = omega (arith, entries-length t n inside)

    all-before : n ≤ i → (k : ℕ) → k < n → p (entry_at t k) ≡ false
    all-before h k l = f.before k (omega arith)

    without_is : n ≤ i → without p (entries_of t) ≡ entries_of t
    without_is h =
        ap (without p) entries-are
        ∙ without-none p (entry_from 0) (entries_in n t) (none_of p t n inside (all-before h))
        ∙ sym entries-are

    shorter : i < n → length (without p (entries_of t)) < n
    shorter h =
        let e = ap (λ (l : List Entry). length (without p l)) entries-are in
        omega (arith, e, hit-shorter p (entry_from 0) (entries_in n t) i (in-length h) (at-hit h), entries-length t n inside)

    length-is : length (entries_of t) ≡ n
    length-is = ap length entries-are ∙ entries-length t n inside

    pub gives_none : n ≤ i → Gives t (accepted (without p (entries_of t))) (Ok tt) t
    gives_none h = record { answer = ap accepted (sym (without_is h)); still = λ e j. t }

    module _ (k : ℕ) (t' : List ℕ) (r : Removed p t i n k t') where
      kept : Kept p t n k t'
      kept = r.kept c.long f

      rest-are : entries_in k t' ≡ without p (entries_of t)
      rest-are = kept.done ∙ ap (without p) (sym entries-are)

      pub gives-fewer : i < n → Gives t (accepted (without p (entries_of t))) (Ok tt) (set t' room k)
      gives-fewer h = record {
        answer = ap accepted (counted t' k kept.long (omega (arith, c.most, r.most)) ∙ rest-are);
        still = λ e. absurd (omega (arith, shorter h, ap length e, length-is));
      }

-- A NEW ENTRY

own : (n : Entry) → has_either n n ≡ true
own n = simp (eq-eqb n.alias.0 n.alias.0 (λ j. n.alias.0))

module _ (t : List ℕ) (n : ℕ) (c : Counted t n) (w : ℕ) (e : Entry) (of_word : e ≡ entry_from w) (i : ℕ) (f : Found (has_either e) t n i) where
  abbrev p : Entry → Bool
  p = has_either e

  abbrev es : List Entry
  es = entries_of t

  -- what is given of the entry is given of its word
  by_word : {x : Result (Unit {0}) Refusal} {t' : List ℕ} → Gives t (add es e) x t' → Gives t (add es (entry_from w)) x t'
  by_word {x} {t'} g = subst (λ (y : Entry). Gives t (add es y) x t') of_word g

  pub no_room : room ≤ i → Gives t (add es (entry_from w)) (Err Full) t
  unfolding add
  no_room h =
      let l : n ≤ i = omega (arith, c.most) in
      let few : room ≤ length (without p es) = omega (arith, ap length (without_is t n c p i f l), length-is t n c p i f, f.most, c.most) in
      by_word (record { answer = sym (simp (le-leb room (length (without p es)) few)); still = λ q j. t })

  adds : length (without p es) < room → add es e ≡ accepted (without p es ++ e ∷ [])
  unfolding add
  adds h = simp (lt-leb room (length (without p es)) h)

  -- fewer than 64 others remain, unless all are compared in vain
  few : i < room → length (without p es) < room
  few h = go (ltb i n) (λ q. ltb-true i n q) (λ q. ltb-false i n q)
    where
      go : (b : Bool) → (b ≡ true → i < n) → (b ≡ false → n ≤ i) → length (without p es) < room
      go true q r = omega (arith, shorter t n c p i f (q (λ j. true)), c.most)
      go false q r = omega (arith, ap length (without_is t n c p i f (r (λ j. false))), length-is t n c p i f, f.most, r (λ j. false))

  -- the entry is there already, after all others
  pub there-last : i < room → i + 1 ≡ n → entry_at t i ≡ e → Gives t (add es (entry_from w)) (Ok tt) t
  unfolding without
  there-last h last is =
      let ends : es ≡ entries_in i t ++ entry_at t i ∷ [] =
      entries-are t n c ∙ ap (λ (j : ℕ). entries_in j t) (sym last) ∙ entries-more t i (omega (arith, c.long)) in
      let others : without p es ≡ entries_in i t =
      ap (without p) ends
      ∙ without-append p (entries_in i t) (entry_at t i ∷ [])
      ∙ (λ j. without-none p (entry_from 0) (entries_in i t) (none_of p t i (omega (arith, c.long)) f.before) j ++ without p (entry_at t i ∷ []))
      ∙ simp (f.hit (omega arith)) (append-nil (entries_in i t)) in
      by_word (record {
        answer = sym (adds (few h) ∙ ap accepted ((λ j. others j ++ sym is j ∷ []) ∙ sym ends));
        still = λ r j. t;
      })

  -- where the rules change nothing it was there, after all others
  module _ (r : without p es ++ e ∷ [] ≡ es) where
    abbrev k : ℕ
    k = length (without p es)

    long : k + 1 ≡ n
    long = sym (length-append (without p es) (e ∷ [])) ∙ ap length r ∙ length-is t n c p i f

    met : i < n
    met = go (ltb i n) (λ q. ltb-true i n q) (λ q. ltb-false i n q)
      where
        go : (b : Bool) → (b ≡ true → i < n) → (b ≡ false → n ≤ i) → i < n
        go true q s = q (λ j. true)
        go false q s = absurd (omega (arith, ap length (without_is t n c p i f (s (λ j. false))), length-is t n c p i f, long))

    at-end : entry_at t k ≡ e
    at-end =
        sym (entry-at t n k (omega (arith, long)))
        ∙ ap (λ (l : List Entry). get_or l k (entry_from 0)) (sym (entries-are t n c) ∙ sym r)
        ∙ get_or-append_seam (without p es) e [] (entry_from 0)

    fewer : i < k → ⊥
    fewer h =
        let two = two-shorter p (entry_from 0) (entries_in n t) i k h
        (omega (arith, long, entries-length t n (inside t n c)))
        (at-hit t n c p i f met) (ap p (entry-at t n k (omega (arith, long)) ∙ at-end) ∙ own e) in
        omega (arith, two, ap (λ (l : List Entry). length (without p l)) (entries-are t n c), entries-length t n (inside t n c), long)

    last : i ≡ k
    last = go (ltb i k) (λ q. ltb-true i k q) (λ q. ltb-false i k q)
      where
        go : (b : Bool) → (b ≡ true → i < k) → (b ≡ false → k ≤ i) → i ≡ k
        go true q s = absurd (fewer (q (λ j. true)))
        go false q s = let l = s (λ j. false) in omega (arith, l, met, long)

    pub was-last : (i + 1 ≡ n) × (entry_at t i ≡ e)
    was-last = (ap (λ (j : ℕ). j + 1) last ∙ long, ap (entry_at t) last ∙ at-end)

  module _ (k : ℕ) (t' : List ℕ) (r : Removed p t i n k t') (h : i < room) where
    put : entries_of (set (set t' k w) room (k + 1)) ≡ without p es ++ e ∷ []
    put =
        let s = kept t n c p i f k t' r in
        let rest = rest-are t n c p i f k t' r in
        let few-kept : k < room = omega (arith, few h, ap length rest, entries-length t' k (omega (arith, s.long, s.low, c.most))) in
        counted (set t' k w) (k + 1) (length-set t' k w ∙ s.long) (omega arith)
        ∙ entries-put t' k w (omega (arith, s.long))
        ∙ (λ j. rest j ++ sym of_word j ∷ [])

    pub gives-added : (i + 1 ≡ n → entry_at t i ≡ e → ⊥) → Gives t (add es (entry_from w)) (Ok tt) (set (set t' k w) room (k + 1))
    gives-added q = by_word (record {
      answer = ap accepted put ∙ sym (adds (few h));
      still = λ x. let b = was-last (sym (ap (λ (a : Answer (List Entry)). after a es) (adds (few h))) ∙ x) in absurd (q b.0 b.1);
    })
