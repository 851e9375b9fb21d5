-- What the theorems of proofs/Bit28.antt speak of; these definitions are to be believed.
use Rattle.std.specs.Prelude.{◌≡◌, List, map, ℕ, ◌<◌}
use Rattle.segment_rules.specs.Rules.{places, Told}
use Rattle.segment_rules.specs.ListsBut28.{InboxesBut28}
use Rattle.table.specs.Words.{frame_of, node_at, inbox, late_of, mark_of}

-- What two lists have in common that are the same but for bit 28 of foreign frames.
pub record CarriedBut28 (xs ys : List Told) (t u : List ℕ) : Type 0 where
  pub answered : xs ≡ ys
  pub nodes : (k : ℕ) → k < places → node_at t k ≡ node_at u k
  pub inboxes : (k : ℕ) → k < places → InboxesBut28 (map frame_of (inbox t k)) (map frame_of (inbox u k))
  pub mark : mark_of t ≡ mark_of u
  pub late : late_of t ≡ late_of u
