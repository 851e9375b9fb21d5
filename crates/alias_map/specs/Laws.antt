-- What the theorems of proofs/Laws.antt speak of; these definitions are to be believed.
use Rattle.std.specs.Prelude.{◌≡◌, Bool, cond, ℕ, ◌+◌}
use Rattle.std.proofs.Math.Bool.{true}
use mathlib.Core.List.{List, [], ◌∷◌}
use Rattle.alias_map.specs.Rules.{Answer, accepted, refused, Finding}
use Rattle.alias_map.specs.declared.entry.Entry.{Entry}

-- a test that follows from another
abbrev pub Implies : (q p : Entry → Bool) → Type 0
Implies q p = (e : Entry) → q e ≡ true → p e ≡ true

-- how many entries there are of which a test holds
unfoldable pub count : (Entry → Bool) → List Entry → ℕ
count q [] = 0
count q (e ∷ es) = cond (q e) 1 0 + count q es

-- what is left of an answer without the count
abbrev pub value_of : Answer Finding → Answer ℕ
value_of (accepted f) = accepted f.value
value_of (refused number) = refused number
