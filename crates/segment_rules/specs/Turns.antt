-- What the theorems of proofs/Turns.antt speak of; these definitions are to be believed.
use Rattle.std.specs.Prelude.{◌≡◌, Bool, true, false, not, cond, ◌&&◌, ◌||◌, List, [], ◌∷◌, ℕ, zero, suc, ◌+◌, ◌<◌, ◌≤◌, eqb, replicate}
use Rattle.segment_rules.specs.Rules.{places, Segment, start, Command, one, send, tick, foreign, choose, read_out, power_on, names, nobody, has_due, Besides, plain, chose, gave, Told, step, run, answers}

-- How many choices a list has.
abbrev pub is_choice : Command → Bool
is_choice (one n x) = false
is_choice (send n) = false
is_choice tick = false
is_choice (foreign f) = false
is_choice choose = true
is_choice (read_out n) = false

unfoldable pub choices : List Command → ℕ
choices [] = 0
choices (c ∷ cs) = cond (is_choice c) (suc (choices cs)) (choices cs)

-- The node at place k has a due frame at each choice of a list.
unfoldable pub due_at_each : (k : ℕ) → Segment → List Command → Bool
due_at_each k S [] = true
due_at_each k S (c ∷ cs) = (not (is_choice c) || has_due (S.at k)) && due_at_each k (step S c) cs

-- One of these answers names place k.
abbrev pub is_named : (k : ℕ) → Besides → Bool
is_named k plain = false
is_named k (chose (names j)) = eqb j k
is_named k (chose nobody) = false
is_named k (gave g) = false

unfoldable pub named_in : (k : ℕ) → List Told → Bool
named_in k [] = false
named_in k (x ∷ xs) = is_named k x.besides || named_in k xs

-- A node that has a due frame at each choice of a list with n choices or more is named by one of them: whatever list stands before, and
-- whatever commands stand between.
abbrev pub Within : (n : ℕ) → Type 0
Within n = (before cs : List Command) (k : ℕ) → k < places → n ≤ choices cs → due_at_each k (run start before) cs ≡ true
    → named_in k (answers (run start before) cs) ≡ true

-- 23 ARE NOT ENOUGH, by computation: all 24 nodes are on, and each has its first frame due at all 23 choices. They name nodes 0 to 22.

abbrev pub on_from : (n index : ℕ) → List Command
on_from zero i = []
on_from (suc n) i = power_on i (0x050101010101 + i) ∷ on_from n (suc i)

abbrev pub all_on : List Command
all_on = on_from places 0

pub record PassedOver (n : ℕ) (before cs : List Command) (k : ℕ) : Type 0 where
  pub inside : k < places
  pub many : choices cs ≡ n
  pub due : due_at_each k (run start before) cs ≡ true
  pub passed : named_in k (answers (run start before) cs) ≡ false

-- At each choice, and not at each command: between these two choices node 0 has sent its four CIDs, and has no due frame.
abbrev pub one_on : List Command
one_on = power_on 0 0x050101010101 ∷ []

abbrev pub four_cids : List Command
four_cids = choose ∷ replicate 4 (send 0)
