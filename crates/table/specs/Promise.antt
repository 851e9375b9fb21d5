-- What every command promises of the words that it is lent.
use Rattle.std.specs.Prelude.{◌≡◌, false, ◌||◌, List, [], ◌∷◌, map, ℕ, ◌-◌, ◌%◌, ◌<◌, ◌≤◌}
use Rattle.node.specs.Rules.{Answer, accepted, refused, Value, done}
use Rattle.node.specs.declared.Generator.{Generator}
use Rattle.segment_rules.specs.Rules.{places, limit, Command, Choice, plain, chose, whether, given, Told, told, step, Ages, ages, age_step, ticks, old}
use Rattle.segment_rules.specs.Limits.{InLimit}
use Rattle.pack.specs.Words.{round}
use Rattle.table.specs.Words.{Item, node_at, inbox, ages_of, cell_at, late_of, slack_of, view, view_ages, Held}

-- Ages modulo the round of the clock.
abbrev pub around : Ages → Ages
around g = ages (map (λ x. x % round) g.inbox) (λ a. g.waiting a % round)

abbrev pub all_around : (ℕ → Ages) → ℕ → Ages
all_around G k = around (G k)

-- No frame in an inbox is older than the one before it.
abbrev pub Under : ℕ → List Item → Type 0
Under g [] = Unit {0}
Under g (x ∷ xs) = (x.age ≤ g) × Under g xs

abbrev pub OldestFirst : List Item → Type 0
OldestFirst [] = Unit {0}
OldestFirst (x ∷ xs) = Under x.age xs × OldestFirst xs

-- Until an age has exceeded the limit, none exceeds this.
abbrev pub bound : List ℕ → ℕ
bound t = limit - slack_of t

-- What holds of the words all Off, and of those that any command left: counts in range; and until an age has exceeded the
-- limit, none exceeds the bound, and no frame in an inbox is older than the one before it.
pub record SoundWords (t : List ℕ) : Type 0 where
  pub held : Held t
  pub limits : late_of t ≡ false → (k : ℕ) → k < places → InLimit (bound t) (bound t) (node_at t k) (ages_of (cell_at t k))
  pub ordered : late_of t ≡ false → (k : ℕ) → k < places → OldestFirst (inbox t k)

-- The command c on the words t answered x and left t'. Ages are kept modulo the clock's round; late is said when an age
-- exceeds the limit, and then for good; a refusal leaves every word as it was.
pub record Carries (c : Command) (t : List ℕ) (x : Told) (t' : List ℕ) : Type 0 where
  pub answered : x ≡ told (view t) c
  pub table : view t' ≡ step (view t) c
  pub ages : view_ages t' ≡ all_around (age_step ticks (view t) (view_ages t) c)
  pub late : late_of t' ≡ (late_of t || old limit limit places (view t') (view_ages t'))
  pub sound : SoundWords t'
  pub unmoved : (number : ℕ) → x.answer ≡ refused number → t' ≡ t

-- What each command ensures: on words that are not sound only a safe end is owed.
abbrev pub Tells : Command → List ℕ → Told → List ℕ → Type 0
Tells c t x t' = SoundWords t → Carries c t x t'

-- What is told by a command that answers nothing besides, and by a choice, which is never refused (A.8).
abbrev pub plainly : Answer Value → Told
plainly a = record { answer = a; besides = plain }

abbrev pub chosen : Choice → Told
chosen x = record { answer = accepted done; besides = chose x }

-- by a read-out (A.9)
abbrev pub read : Answer Generator → Told
read a = record { answer = whether a; besides = given a }

abbrev pub Does : Command → List ℕ → Answer Value → List ℕ → Type 0
Does c t a t' = Tells c t (plainly a) t'
