-- What the theorems of proofs/Sound.antt speak of; these definitions are to be believed.
use Rattle.std.specs.Prelude.{List, [], ◌∷◌, ℕ, ◌^◌, ◌<◌, ◌≤◌, length, Result}
use Rattle.headers.specs.declared.frame.Frame.{Frame}
use Rattle.alias_map.specs.declared.answer.Refusal.{Refusal}
use Rattle.alias_map.specs.Rules.{Answer, accepted, refused, room, has_alias, has_id, note}
use Rattle.alias_map.specs.Words.{entries_of}
use Rattle.alias_map.specs.Answers.{Gives}
use Rattle.alias_map.specs.Laws.{count}
use Rattle.alias_map.specs.declared.entry.Entry.{Entry}

-- neither alias nor Node ID is 0, and they have 12 and 48 bits
pub record Named (e : Entry) : Type 0 where
  pub alias : (0 < e.alias.0) × (e.alias.0 < 2 ^ 12)
  pub id : (0 < e.id) × (e.id < 2 ^ 48)

abbrev pub AllNamed : List Entry → Type 0
AllNamed [] = Unit {0}
AllNamed (e ∷ es) = Named e × AllNamed es

-- At most 64, no alias twice, no Node ID twice, none 0 or too wide.
pub record Sound (es : List Entry) : Type 0 where
  pub few : length es ≤ room
  pub aliases : (a : ℕ) → count (has_alias a) es ≤ 1
  pub ids : (i : ℕ) → count (has_id i) es ≤ 1
  pub named : AllNamed es

-- THE ANSWERS

-- what is accepted is sound
abbrev pub Keeps : Answer (List Entry) → Type 0
Keeps (accepted es) = Sound es
Keeps (refused number) = Unit {0}

-- WHAT `note` PROMISES

pub record Notes (before : List ℕ) (f : Frame) (x : Result (Unit {0}) Refusal) (then : List ℕ) : Type 0 where
  pub gives : Gives before (note (entries_of before) f) x then
  pub sound : Sound (entries_of before) → Sound (entries_of then)
