use Rattle.std.proofs.Common.{ℕ, [], ◌∷◌, ◌≡◌, ◌∙◌, refl, ap}
use Rattle.std.specs.Prelude.{Option, Some, None, unwrap_or}
use Rattle.segment_rules.specs.Rules.{places}
use Rattle.table.specs.Answers.{choice_as}
use Rattle.card_api.specs.Answers.{choice_word}
use Rattle.card_api.proofs.card_choose.Goals as goal

-- the index, or 24 for none
word : (r : Option ℕ) → unwrap_or r places ≡ choice_word (choice_as r)
word (Some k) = refl
word None = refl

pub returns : goal.returns
returns c = record {
  choice = choice_as c.choose.result;
  code = refl;
  does = c.choose.ensures;
  word = ap (λ (k : ℕ). k ∷ []) (c.unwrap_or-index.ensures ∙ word c.choose.result);
}
