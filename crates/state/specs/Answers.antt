-- The papers' numbers and values for each case of the code's results and enums.
use Rattle.std.specs.Prelude.{ℕ, ⊤, Bool, true, false, Option, Some, None, Result}
use Rattle.headers.specs.Answers.{answer_by}
use Rattle.headers.specs.declared.frame.Frame.{Frame}
use Rattle.headers.specs.declared.refusal.Refusal.{Refusal}
use Rattle.state.specs.Rules.{Answer, accepted, refused, Due, nothing, next, Value, done, left}
use Rattle.state.specs.declared.Error.{Error}
use Rattle.state.specs.declared.Error.TheVariants.{Report0, Report1, Report2, Report3}

abbrev pub due_as : Option Frame → Due
due_as None = nothing
due_as (Some f) = next f

-- The number of an error report.
abbrev pub report_as : Error → ℕ
report_as Report0 = 0
report_as Report1 = 1
report_as Report2 = 2
report_as Report3 = 3

-- What an event answers that says nothing, a send, and either of them: accepted, a send with the frame that left, or refused.
abbrev pub done_as : Result ⊤ Refusal → Answer Value
done_as r = answer_by (λ _. done) r

abbrev pub left_as : Result Frame Refusal → Answer Value
left_as r = answer_by left r

abbrev pub value_as : Option Frame → Value
value_as None = done
value_as (Some f) = left f

abbrev pub answer_as : Result (Option Frame) Refusal → Answer Value
answer_as r = answer_by value_as r

abbrev pub is_refused : Answer Value → Bool
is_refused (accepted v) = false
is_refused (refused number) = true
