-- The code's values in document 01's terms: the number and values for each case of the results, and what a note gives.
use Rattle.std.specs.Prelude.{◌≡◌, ℕ, List, Result}
use Rattle.headers.specs.Answers.{answered}
use Rattle.headers.specs.declared.alias.Alias.{Alias}
use Rattle.alias_map.specs.Rules.{Answer, after, Finding}
use Rattle.alias_map.specs.Words.{entries_of}
use Rattle.alias_map.specs.declared.entry.Entry.{Entry}
use Rattle.alias_map.specs.declared.answer.Hit.{Hit}
use Rattle.alias_map.specs.declared.answer.Refusal.{Refusal}
use Rattle.alias_map.specs.declared.answer.Refusal.TheVariants.{Malformed, Full, Absent}

abbrev pub refusal_as : Refusal → ℕ
refusal_as Malformed = 9
refusal_as Full = 12
refusal_as Absent = 13

-- Accepted, with the entries that there are then.
abbrev pub answer_as : Result (Unit {0}) Refusal → List Entry → Answer (List Entry)
answer_as x es = answered refusal_as (λ u. es) x

-- A note that is answered so, by these rules, leads from these words to those. Where the rules change no entry, as after a
-- refusal, no word changes.
pub record Gives (before : List ℕ) (a : Answer (List Entry)) (x : Result (Unit {0}) Refusal) (then : List ℕ) : Type 0 where
  pub answer : answer_as x (entries_of then) ≡ a
  pub still : after a (entries_of before) ≡ entries_of before → then ≡ before

abbrev pub id_as : Result (Hit ℕ) Refusal → Answer Finding
id_as x = answered refusal_as (λ h. record { value = h.value; count = h.compared }) x

abbrev pub alias_as : Result (Hit Alias) Refusal → Answer Finding
alias_as x = answered refusal_as (λ h. record { value = h.value.0; count = h.compared }) x
