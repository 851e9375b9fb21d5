-- What looking and a choice answer, in the papers' terms: the values for each case of the results.
use Rattle.std.specs.Prelude.{ℕ, Option, Some, None, Result}
use Rattle.headers.specs.Answers.{answer_by}
use Rattle.headers.specs.declared.refusal.Refusal.{Refusal}
use Rattle.headers.specs.declared.frame.Frame.{Frame}
use Rattle.node.specs.Rules.{Answer}
use Rattle.state.specs.Answers.{due_as}
use Rattle.segment_rules.specs.Rules.{Choice, names, nobody}
use Rattle.segment_rules.specs.Looks.{Seen}
use Rattle.table.specs.declared.look.Seen as S

abbrev pub seen_as : S.Seen → Seen
seen_as s = record {
  state = s.state;
  id = s.id;
  alias = s.alias.0;
  due = due_as s.due;
  count = s.count;
}

abbrev pub look_as : Result S.Seen Refusal → Answer Seen
look_as r = answer_by seen_as r

abbrev pub found_as : Result Frame Refusal → Answer Frame
found_as r = answer_by (λ f. f) r

-- A.8: the index, or none.
abbrev pub choice_as : Option ℕ → Choice
choice_as (Some index) = names index
choice_as None = nobody
