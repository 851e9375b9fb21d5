-- The map for C: a note's answer as a number, and what the operation promises of it: what the note that it calls promises; the
-- words of a look-up's answer.
use Rattle.std.specs.Prelude.{◌≡◌, List, [], ◌∷◌, ℕ, Result}
use Rattle.headers.specs.declared.frame.Frame.{Frame}
use Rattle.alias_map.specs.declared.answer.Refusal.{Refusal}
use Rattle.alias_map.specs.Rules.{Finding}
use Rattle.alias_map.specs.Answers.{answer_as}
use Rattle.alias_map.specs.Sound.{Notes}
use Rattle.card_api.specs.Out.{code_of}

-- The number of a note's answer, whatever entries it leaves.
abbrev pub note_code : Result (Unit {0}) Refusal → ℕ
note_code a = code_of (answer_as a [])

-- The note has an answer, r is its number, and the words are as the note promises.
pub record CodedNote (f : Frame) (t : List ℕ) (r : ℕ) (t' : List ℕ) : Type 0 where
  pub answer : Result (Unit {0}) Refusal
  pub code : r ≡ note_code answer
  pub does : Notes t f answer t'

-- What a look-up found, and how many entries it compared.
abbrev pub found_words : Finding → List ℕ
found_words f = f.value ∷ f.count ∷ []
