-- A map's words and its entries: the word of an entry, the search, the pass that removes some, and the count that is stored.
use mathlib.Core.Path.{◌≡◌, sym, ap, subst, ◌∙◌}
use mathlib.Core.Bool.{Bool, true, false}
use mathlib.Core.List.{List, [], ◌∷◌, ◌++◌, map, append-nil}
use Prim.Native.Nat.{ℕ, ◌+◌, ◌*◌, ◌/◌, ◌%◌, ◌^◌, ◌<◌, ◌≤◌, min}
use native.Mathlib.Numerals.{add-one}
use native.Mathlib.Omega.{arith}
use lib.Dec.{eqb}
use lib.ListN.{length, get_or, set, take, drop, length-set, length-map, get_or-map}
use lib.Seq.{length-take-le, take-suc, take-set-le, get_or-set_same, get_or-take, get_or-drop, drop-drop, drop-set-lt, take-suc-set}
use borrow.Author.Tests.{eqb-true, eqb-false}
use Rattle.std.specs.Fn.{Shared}
use Rattle.alias_map.specs.Rules.{room, without}
use Rattle.alias_map.specs.Words.{words, entry_from, entry_at, entries_in, count_of, entries_of}
use Rattle.alias_map.specs.Parts.{Tests, Before, Found, Kept}
use Rattle.alias_map.proofs.Laws.{without-append}
use Rattle.alias_map.specs.declared.entry.Entry.{Entry}
use Rattle.alias_map.proofs.Hits.{None, without-none}

-- THE WORD OF AN ENTRY: alias and Node ID come back

module _ (a i : ℕ) where
  word-id : (a % 2 ^ 12 * 2 ^ 52 + i % 2 ^ 48) % 2 ^ 48 ≡ i % 2 ^ 48
  word-id = omega arith

  word-alias : (a % 2 ^ 12 * 2 ^ 52 + i % 2 ^ 48) / 2 ^ 52 % 2 ^ 12 ≡ a % 2 ^ 12
  word-alias = omega arith

  pub word_back : entry_from (a % 2 ^ 12 * 2 ^ 52 + i % 2 ^ 48) ≡ record { alias = record { 0 = a % 2 ^ 12 }; id = i % 2 ^ 48 }
  unfolding entry_from
  word_back = λ j. record { alias = record { 0 = word-alias j }; id = word-id j }

-- THE FIRST WORDS AS ENTRIES

map_last : (xs : List ℕ) (x : ℕ) → map entry_from (xs ++ x ∷ []) ≡ map entry_from xs ++ entry_from x ∷ []
map_last [] x = λ j. entry_from x ∷ []
map_last (y ∷ xs) x = ap (λ (l : List Entry). entry_from y ∷ l) (map_last xs x)

module _ (t : List ℕ) (n : ℕ) where
  pub entries-length : n ≤ length t → length (entries_in n t) ≡ n
  entries-length h = length-map (take n t) entry_from ∙ length-take-le n t h

  pub entry-at : (k : ℕ) → k < n → get_or (entries_in n t) k (entry_from 0) ≡ entry_at t k
  entry-at k h = get_or-map entry_from (take n t) k 0 ∙ ap entry_from (get_or-take n t k 0 h)

  pub entries-more : n < length t → entries_in (n + 1) t ≡ entries_in n t ++ entry_at t n ∷ []
  entries-more h =
      ap (λ (j : ℕ). entries_in j t) (add-one n)
      ∙ ap (map entry_from) (take-suc t n 0 h)
      ∙ map_last (take n t) (get_or t n 0)

  pub entries-put : (w : ℕ) → n < length t → entries_in (n + 1) (set t n w) ≡ entries_in n t ++ entry_from w ∷ []
  entries-put w h =
      ap (λ (j : ℕ). entries_in j (set t n w)) (add-one n)
      ∙ ap (map entry_from) (take-suc-set t n w h)
      ∙ map_last (take n t) w

-- the count is stored
pub counted : (t : List ℕ) (k : ℕ) → length t ≡ words → k ≤ room → entries_of (set t room k) ≡ entries_in k t
unfolding entries_of
counted t k long h =
    let e : count_of (set t room k) ≡ k = ap (min room) (get_or-set_same t room k 0 (omega arith)) ∙ omega arith in
    ap (λ (j : ℕ). entries_in j (set t room k)) e ∙ ap (map entry_from) (take-set-le k t room k h)

-- THE SEARCH

-- what the closure answers of a word's entry is what the test says of it
pub told : {F : Type 0} (g : Shared F (Entry × Unit {0}) Bool) (f : F) (p : Entry → Bool) (w : ℕ) {e : Entry} {b c : Bool}
    → Tests g f p → e ≡ entry_from w → g.post f (e, tt) b → b ≡ c → p (entry_from w) ≡ c
told g f p w {e} {b} h s x q = sym (h w b (subst (λ (y : Entry). g.post f (y, tt) b) s x)) ∙ q

module _ (p : Entry → Bool) (t : List ℕ) where
  pub before_more : (i : ℕ) → Before p t i → p (entry_at t i) ≡ false → Before p t (i + 1)
  before_more i b x k h = go (eqb k i) (λ q. eqb-true k i q) (λ q. eqb-false k i q)
    where
      go : (c : Bool) → (c ≡ true → k ≡ i) → (c ≡ false → k ≡ i → ⊥) → p (entry_at t k) ≡ false
      go true q r = subst (λ (m : ℕ). p (entry_at t m) ≡ false) (sym (q (λ j. true))) x
      go false q r = let ne = r (λ j. false) in b k (omega arith)

  pub found_none : (n i : ℕ) → n ≤ i → Before p t i → Found p t n n
  found_none n i h b = record { most = omega arith; before = λ k l. b k (omega arith); hit = λ l. absurd (omega arith) }

  pub found-hit : (n i : ℕ) → i < n → Before p t i → p (entry_at t i) ≡ true → Found p t n i
  found-hit n i h b x = record { most = omega arith; before = b; hit = λ l. x }

  -- none of the first entries
  pub none_of : (i : ℕ) → i ≤ length t → Before p t i → None p (entry_from 0) (entries_in i t) (length (entries_in i t))
  none_of i h b k l =
      let m : k < i = omega (arith, entries-length t i h) in
      ap p (entry-at t i k m) ∙ b k m

-- THE PASS

module _ (p : Entry → Bool) (t₀ : List ℕ) (long : length t₀ ≡ words) where
  pub kept-none : (n i : ℕ) → n ≤ room → Found p t₀ n i → Kept p t₀ i i t₀
  kept-none n i h f =
      let l : i ≤ length t₀ = omega (arith, f.most) in
      record {
        long = long;
        low = omega arith;
        done = sym (without-none p (entry_from 0) (entries_in i t₀) (none_of p t₀ i l f.before));
        left = λ j. drop i t₀;
      }

  module _ (i k : ℕ) (t : List ℕ) (h : i < room) (s : Kept p t₀ i k t) where
    same : get_or t₀ i 0 ≡ get_or t i 0
    same =
        sym (get_or-drop i t₀ 0 0 ∙ ap (λ (j : ℕ). get_or t₀ j 0) (omega arith))
        ∙ ap (λ (l : List ℕ). get_or l 0 0) (sym s.left)
        ∙ get_or-drop i t 0 0 ∙ ap (λ (j : ℕ). get_or t j 0) (omega arith)

    -- one entry more is looked at
    more : without p (entries_in (i + 1) t₀) ≡ entries_in k t ++ without p (entry_at t i ∷ [])
    more =
        ap (without p) (entries-more t₀ i (omega arith))
        ∙ without-append p (entries_in i t₀) (entry_at t₀ i ∷ [])
        ∙ (λ j. sym s.done j ++ without p (entry_from (same j) ∷ []))

    rest : drop (i + 1) t ≡ drop (i + 1) t₀
    rest = sym (drop-drop 1 i t) ∙ ap (drop 1) s.left ∙ drop-drop 1 i t₀

    pub goes : p (entry_at t i) ≡ true → Kept p t₀ (i + 1) k t
    unfolding without
    goes e = record {
      long = s.long;
      low = omega (arith, s.low);
      done = sym (more ∙ simp e (append-nil (entries_in k t)));
      left = rest;
    }

    pub stays : p (entry_at t i) ≡ false → Kept p t₀ (i + 1) (k + 1) (set t k (get_or t i 0))
    unfolding without
    stays e = record {
      long = length-set t k (get_or t i 0) ∙ s.long;
      low = omega (arith, s.low);
      done = entries-put t k (get_or t i 0) (omega (arith, s.low, s.long)) ∙ sym (more ∙ simp e);
      left = drop-set-lt (i + 1) t k (get_or t i 0) (omega (arith, s.low)) ∙ rest;
    }
