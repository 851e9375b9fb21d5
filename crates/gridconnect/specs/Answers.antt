-- The papers' number and values for each case of the code's answers.
use Rattle.std.specs.Prelude.{◌≡◌, ℕ, ◌^◌, ◌<◌, true, false, List, length, Option, Some, None, Result}
use Rattle.headers.specs.Rules.{Answer}
use Rattle.headers.specs.Answers.{answered}
use Rattle.gridconnect.specs.Rules.{write, length_of, buffer_of, are_digits, number, Frame}
use Rattle.gridconnect.specs.declared.answer.Frame as F
use Rattle.gridconnect.specs.declared.answer.Refusal.{Refusal}
use Rattle.gridconnect.specs.declared.answer.Refusal.TheVariants.{Malformed, NotGridConnect, ShortBuffer}

abbrev pub refusal_as : Refusal → ℕ
refusal_as Malformed = 9
refusal_as NotGridConnect = 16
refusal_as ShortBuffer = 17

abbrev pub written_as : Result ℕ Refusal → Answer ℕ
written_as r = answered refusal_as (λ n. n) r

abbrev pub read_as : Result F.Frame Refusal → Answer Frame
read_as r = answered refusal_as (λ f. record { header = f.header; len = f.len; bytes = f.bytes }) r

-- What it means that digits stand for a number, or are none.
abbrev pub Stands : Option ℕ → List ℕ → Type 0
Stands (Some n) digits = (are_digits digits ≡ true) × ((n ≡ number digits) × (n < 16 ^ length digits))
Stands None digits = are_digits digits ≡ false

-- What the writer promises: its answer, and what the buffer holds then.
pub record Writes (header len bytes : ℕ) (r : Result ℕ Refusal) (before after : List ℕ) : Type 0 where
  pub answer : written_as r ≡ length_of (write (length before) header len bytes)
  pub buffer : after ≡ buffer_of (write (length before) header len bytes) before
