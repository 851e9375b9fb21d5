-- What the theorems of proofs/Lists.antt speak of; these definitions are to be believed.
use Rattle.std.specs.Prelude.{◌≡◌, ℕ, List, [], ◌∷◌, map, Result}
use Rattle.headers.specs.declared.alias.Alias.{Alias}
use Rattle.headers.specs.declared.frame.Frame.{Frame}
use Rattle.alias_map.specs.declared.answer.Refusal.{Refusal}
use Rattle.alias_map.specs.Rules.{Answer, entry_in, note, after, Finding, id_of, alias_of}
use Rattle.alias_map.specs.Words.{entries_of}
use Rattle.alias_map.specs.Answers.{answer_as, id_as, alias_as}
use Rattle.alias_map.specs.Sound.{Sound, Notes}
use Rattle.alias_map.specs.Order.{Within}
use Rattle.alias_map.specs.declared.entry.Entry.{Entry}
use Rattle.alias_map.specs.declared.answer.Hit.{Hit}

-- What can be done with a map, and what it answers: a note gives the entries that there are then, a look-up its finding.
pub data Call : Type 0 where
  noting : Frame → Call
  by_alias : ℕ → Call
  by_id : ℕ → Call

pub data Answered : Type 0 where
  noted : Answer (List Entry) → Answered
  looked_up : Answer Finding → Answered

-- One call by the rules: its answer, and the entries after it. A look-up changes nothing.
abbrev pub answer : List Entry → Call → Answered
answer es (noting f) = noted (note es f)
answer es (by_alias a) = looked_up (id_of es a)
answer es (by_id i) = looked_up (alias_of es i)

abbrev pub next : List Entry → Call → List Entry
next es (noting f) = after (note es f) es
next es (by_alias a) = es
next es (by_id i) = es

-- The rules over a list: the entries after these calls,
unfoldable pub run : List Entry → List Call → List Entry
run es [] = es
run es (c ∷ cs) = run (next es c) cs

-- the answers to them,
unfoldable pub answers : List Entry → List Call → List Answered
answers es [] = []
answers es (c ∷ cs) = answer es c ∷ answers (next es c) cs

-- and the frames that were noted.
unfoldable pub frames : List Call → List Frame
frames [] = []
frames (noting f ∷ cs) = f ∷ frames cs
frames (by_alias a ∷ cs) = frames cs
frames (by_id i ∷ cs) = frames cs

-- The operations over a list: these calls, made one after another, answered so and led from these words to those. `Notes` is what
-- `note` ensures; the two equations are what `id_of` and `alias_of` ensure, which are lent the words and leave them.
pub data Carried : List ℕ → List Call → List Answered → List ℕ → Type 0 where
  begun : {t : List ℕ} → Carried t [] [] t
  then-note : {t t₁ t₂ : List ℕ} {f : Frame} {x : Result (Unit {0}) Refusal} {cs : List Call} {xs : List Answered}
      → Notes t f x t₁ → Carried t₁ cs xs t₂
      → Carried t (noting f ∷ cs) (noted (answer_as x (entries_of t₁)) ∷ xs) t₂
  then-by-alias : {t t₁ : List ℕ} {a : ℕ} {cs : List Call} {xs : List Answered} (x : Result (Hit ℕ) Refusal)
      → id_as x ≡ id_of (entries_of t) a → Carried t cs xs t₁
      → Carried t (by_alias a ∷ cs) (looked_up (id_as x) ∷ xs) t₁
  then-by-id : {t t₁ : List ℕ} {i : ℕ} {cs : List Call} {xs : List Answered} (x : Result (Hit Alias) Refusal)
      → alias_as x ≡ alias_of (entries_of t) i → Carried t cs xs t₁
      → Carried t (by_id i ∷ cs) (looked_up (alias_as x) ∷ xs) t₁

-- THE CLAIM: the answers and the entries are what the rules give from the calls alone; the entries are sound, so that no two have
-- one alias or one Node ID; and they stand in the order in which their frames were noted.
pub record Claim (cs : List Call) (xs : List Answered) (t : List ℕ) : Type 0 where
  pub answers : xs ≡ answers [] cs
  pub entries : entries_of t ≡ run [] cs
  pub sound : Sound (entries_of t)
  pub order : Within (entries_of t) (map entry_in (frames cs))
