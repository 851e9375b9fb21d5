use Rattle.std.proofs.Common.{ℕ, ◌+◌, ◌*◌, ◌%◌, ◌^◌, ap, ◌∙◌}
use Rattle.alias_map.specs.Words.{entry_from}
use Rattle.alias_map.proofs.Places.{word_back}
use Rattle.alias_map.proofs.entry.word_of.Goals as goal

pub returns : goal.returns
returns c = ap (λ (x : ℕ). entry_from (x % 2 ^ 12 * 2 ^ 52 + c.args.id % 2 ^ 48)) c.from.ensures ∙ word_back _ _
