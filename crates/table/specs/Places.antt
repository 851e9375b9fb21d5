-- Places by their indexes.
use Rattle.std.specs.Prelude.{◌≡◌, ℕ, ◌+◌, ◌<◌, ◌≤◌, Option, Some, None, MatchOption, Result, MatchResult}
use Rattle.headers.specs.declared.refusal.Refusal.{Refusal}
use Rattle.headers.specs.declared.refusal.Refusal.TheVariants.{BadIndex}
use Rattle.segment_rules.specs.Rules.{places, Choice, names, nobody}
use Rattle.table.specs.declared.place.Place.{Place}
use Rattle.table.specs.declared.place.Places.{Places}

-- The index of a place, or n where there is none.
abbrev pub index_or : ℕ → Option Place → ℕ
index_or n None = n
index_or n (Some k) = k.index

-- Whom it names, if it is a place.
abbrev pub named : Option Place → Choice
named None = nobody
named (Some k) = names k.index

-- The place with this index, or BadIndex for one above 23.
abbrev pub PlaceAt : ℕ → Result Place Refusal → Type 0
PlaceAt i r = MatchResult r (λ k. k.index ≡ i) (λ e. (e ≡ BadIndex) × (places ≤ i))

-- Those from one index on, before another, are to come.
abbrev pub Between : ℕ → ℕ → Places → Type 0
Between from to s = (s.next ≡ from) × (s.end ≡ to)

-- The first of those that are to come, and the rest of them then.
abbrev pub Steps : Places → Option Place → Places → Type 0
Steps s r t = MatchOption r (s.end ≤ s.next) (λ k. (s.next < s.end) × (k.index ≡ s.next) × (t.next ≡ s.next + 1)) × (t.end ≡ s.end)
