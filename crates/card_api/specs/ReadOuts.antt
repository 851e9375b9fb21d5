-- What a read-out writes for C (A.9), and what it promises: what the command that it calls promises.
use Rattle.std.specs.Prelude.{List, [], ◌∷◌, ℕ}
use Rattle.headers.specs.Answers.{bit_of}
use Rattle.node.specs.Rules.{Answer}
use Rattle.node.specs.declared.Generator.{Generator}
use Rattle.segment_rules.specs.Rules.{read_out}
use Rattle.table.specs.Promise.{read, Tells}
use Rattle.card_api.specs.Out.{Out}

-- The generator's state, and 1 where the first alias is past.
abbrev pub generator_words : Generator → List ℕ
generator_words g = g.state ∷ bit_of g.past ∷ []

-- The command has an answer, which is put out so, and the words of the table are as they were.
pub record CodedReadOut (index : ℕ) (t : List ℕ) (r : ℕ) (before after : List ℕ) : Type 0 where
  pub answer : Answer Generator
  pub out : Out generator_words answer r before after
  pub does : Tells (read_out index) t (read answer) t
