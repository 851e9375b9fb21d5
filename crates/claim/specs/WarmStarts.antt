-- What the theorems of proofs/WarmStarts.antt speak of; these definitions are to be believed.
use Rattle.std.specs.Prelude.{◌≡◌, ◌≢◌, false, List, ℕ, ◌<◌}
use Rattle.node.specs.Rules.{is_off}
use Rattle.segment_rules.specs.Rules.{places}
use Rattle.table.specs.Words.{node_at}

-- No place but j has a node that is not Off and has this Node ID.
abbrev pub FreeFor : (id j : ℕ) → List ℕ → Type 0
FreeFor id j u = (k : ℕ) → k < places → k ≢ j → is_off (node_at u k).phase ≡ false → (node_at u k).own.id ≢ id
