-- The words of a map, seen as its entries. The layout is that of src/layout.rt.
use Rattle.std.specs.Prelude.{ℕ, ◌+◌, ◌/◌, ◌%◌, ◌^◌, min, List, map, get_or, take}
use Rattle.alias_map.specs.Rules.{room}
use Rattle.alias_map.specs.declared.entry.Entry.{Entry}

abbrev pub words : ℕ
words = room + 1

-- The entry that a word holds, whatever the word: the highest 12 bits are the alias, the lowest 48 the Node ID.
unfoldable pub entry_from : ℕ → Entry
entry_from w = record { alias = record { 0 = w / 2 ^ 52 % 2 ^ 12 }; id = w % 2 ^ 48 }

abbrev pub entry_at : List ℕ → ℕ → Entry
entry_at t k = entry_from (get_or t k 0)

-- The entries in the first n words, the oldest first.
abbrev pub entries_in : ℕ → List ℕ → List Entry
entries_in n t = map entry_from (take n t)

-- How many there are, which the last word says; more than 64 are 64.
abbrev pub count_of : List ℕ → ℕ
count_of t = min room (get_or t room 0)

unfoldable pub entries_of : List ℕ → List Entry
entries_of t = entries_in (count_of t) t
