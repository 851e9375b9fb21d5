-- What the parts of an operation promise: the count, the search, the removal.
use Rattle.std.specs.Prelude.{◌≡◌, Bool, true, false, List, ℕ, ◌-◌, ◌<◌, ◌≤◌, min, length, drop}
use Rattle.std.specs.Fn.{Shared}
use Rattle.alias_map.specs.Rules.{room, without}
use Rattle.alias_map.specs.Words.{words, entry_from, entry_at, entries_in, count_of}
use Rattle.alias_map.specs.declared.entry.Entry.{Entry}

-- There are n entries, and the map has its words.
pub record Counted (t : List ℕ) (n : ℕ) : Type 0 where
  pub count : n ≡ count_of t
  pub most : n ≤ room
  pub long : length t ≡ words

-- The closure answers this test of every entry that a word holds.
abbrev pub Tests : {F : Type 0} → Shared F (Entry × Unit {0}) Bool → F → (Entry → Bool) → Type 0
Tests g f p = (w : ℕ) (b : Bool) → g.post f (entry_from w, tt) b → b ≡ p (entry_from w)

-- The test holds of none of the first i entries.
abbrev pub Before : (Entry → Bool) → List ℕ → ℕ → Type 0
Before p t i = (k : ℕ) → k < i → p (entry_at t k) ≡ false

-- Of n entries the first of which the test holds is at place i; n where there is none.
pub record Found (p : Entry → Bool) (t : List ℕ) (n i : ℕ) : Type 0 where
  pub most : i ≤ n
  pub before : Before p t i
  pub hit : i < n → p (entry_at t i) ≡ true

-- Of n entries c are compared until the test holds of one, the last of these; more than n where it holds of none.
pub record Met (p : Entry → Bool) (t : List ℕ) (n c : ℕ) : Type 0 where
  pub some : 0 < c
  pub first : Found p t n (min (c - 1) n)

-- Of the first i entries those that stay stand in the first k places; the words from place i on are as they were.
pub record Kept (p : Entry → Bool) (t : List ℕ) (i k : ℕ) (t' : List ℕ) : Type 0 where
  pub long : length t' ≡ words
  pub low : k ≤ i
  pub done : entries_in k t' ≡ without p (entries_in i t)
  pub left : drop i t' ≡ drop i t

-- Of n entries k stay, where the first of which the test holds is at place i.
pub record Removed (p : Entry → Bool) (t : List ℕ) (i n k : ℕ) (t' : List ℕ) : Type 0 where
  pub most : k ≤ n
  pub kept : length t ≡ words → Found p t n i → Kept p t n k t'
