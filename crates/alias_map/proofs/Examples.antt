-- A worked example of the map's rules: notes and look-ups one after another, each with what it answers.
use Rattle.std.specs.Prelude.{◌≡◌, refl, [], map}
use Rattle.headers.specs.Frames.{malformed}
use Rattle.headers.specs.Rules.{kind_in}
use Rattle.alias_map.specs.Rules.{without, add, define, note_kind, note, first, compared, id_of, alias_of}
use Rattle.alias_map.specs.Lists.{answers}
use Rattle.alias_map.specs.Examples.{example}

pub example-holds : answers [] (map (λ l. l.call) example) ≡ map (λ l. l.answered) example
unfolding answers note note_kind define add without first compared id_of alias_of malformed kind_in
example-holds = refl
