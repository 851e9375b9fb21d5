-- An answer as a number for C, and what each operation promises of it: what the command that it calls promises.
use Rattle.std.specs.Prelude.{◌≡◌, Bool, true, false, List, [], ◌∷◌, ℕ, ⊤, Result, Ok, Err}
use Rattle.headers.specs.declared.frame.Frame.{Frame}
use Rattle.headers.specs.declared.refusal.Refusal.{Refusal}
use Rattle.state.specs.Answers.{done_as, left_as}
use Rattle.card_api.specs.Out.{code_of}
use Rattle.segment_rules.specs.Rules.{places, Command, choose, Choice, names, nobody}
use Rattle.table.specs.Promise.{chosen, Does, Tells}

abbrev pub late_code : Bool → ℕ
late_code true = 1
late_code false = 0

-- The command has an answer, r is its number, and the words are as the command promises.
pub record Coded (c : Command) (t : List ℕ) (r : ℕ) (t' : List ℕ) : Type 0 where
  pub answer : Result ⊤ Refusal
  pub code : r ≡ code_of (done_as answer)
  pub does : Does c t (done_as answer) t'

-- The same of a choice (A.8): always 0, and the word is the index, 24 for none.
abbrev pub choice_word : Choice → ℕ
choice_word (names index) = index
choice_word nobody = places

pub record CodedChoice (t : List ℕ) (r : ℕ) (t' ws : List ℕ) : Type 0 where
  pub choice : Choice
  pub code : r ≡ 0
  pub does : Tells choose t (chosen choice) t'
  pub word : ws ≡ choice_word choice ∷ []

-- Three words for the frame that left: its header, its length and its data; as they were where none did.
abbrev pub SentWords : Result Frame Refusal → List ℕ → List ℕ → Type 0
SentWords (Ok f) ws ws' = ws' ≡ f.header ∷ f.len ∷ f.bytes ∷ []
SentWords (Err r) ws ws' = ws' ≡ ws

pub record CodedSend (c : Command) (t : List ℕ) (r : ℕ) (t' ws ws' : List ℕ) : Type 0 where
  pub answer : Result Frame Refusal
  pub code : r ≡ code_of (left_as answer)
  pub does : Does c t (left_as answer) t'
  pub frame : SentWords answer ws ws'
