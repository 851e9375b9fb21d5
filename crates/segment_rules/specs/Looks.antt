-- What is seen of a node: all that demand 3 compares after a list, read out. Looking changes nothing and is no command of a list.
use Rattle.std.specs.Prelude.{ℕ, zero, suc, Bool, true, false, cond, ◌||◌, List, [], ◌∷◌, leb, length}
use Rattle.node.specs.Rules.{Answer, accepted, refused, refuse, is_off, uses, wait, Due, due_of}
use Rattle.headers.specs.declared.frame.Frame.{Frame}
use Rattle.state.specs.declared.Phase.{Phase}
use Rattle.state.specs.declared.Phase.TheVariants.{Off, Testing, Reserved, Permitted, Leaving, Resting, Silent}
use Rattle.segment_rules.specs.Rules.{places, Place, Segment}

-- The states by numbers, in document 01's order.
abbrev pub state_number : Phase → ℕ
state_number Off = 0
state_number (Testing sent ticks) = 1
state_number Reserved = 2
state_number Permitted = 3
state_number (Leaving why) = 4
state_number Resting = 5
state_number Silent = 6

abbrev pub is_testing : Phase → Bool
is_testing Off = false
is_testing (Testing sent ticks) = true
is_testing Reserved = false
is_testing Permitted = false
is_testing (Leaving why) = false
is_testing Resting = false
is_testing Silent = false

-- The Node ID, 0 where the node is Off.
abbrev pub id_seen : Phase → ℕ → ℕ
id_seen p id = cond (is_off p) 0 id

-- The alias in test or in use, 0 where neither.
abbrev pub alias_seen : Phase → ℕ → ℕ
alias_seen p a = cond (is_testing p || uses p) a 0

-- State, Node ID, alias, the due frame or none, and how many frames the inbox has.
pub record Seen : Type 0 where
  pub state : ℕ
  pub id : ℕ
  pub alias : ℕ
  pub due : Due
  pub count : ℕ

unfoldable pub seen : Place → Seen
seen p = record {
  state = state_number p.node.phase;
  id = id_seen p.node.phase p.node.own.id;
  alias = alias_seen p.node.phase p.node.alias.0;
  due = due_of wait p.node;
  count = length p.inbox;
}

-- LOOK at the node at an index: index above 23 is refusal 1.
unfoldable pub looks : Segment → (index : ℕ) → Answer Seen
looks S n = refuse (leb places n) 1 (accepted (seen (S.at n)))

-- A frame of an inbox by its place, 0 for the oldest; 6 where there is none.
unfoldable pub frame_in : List Frame → (place : ℕ) → Answer Frame
frame_in [] j = refused 6
frame_in (f ∷ fs) zero = accepted f
frame_in (f ∷ fs) (suc j) = frame_in fs j

-- INBOX of the node at an index: 1, then 6.
unfoldable pub looks_in : Segment → (index place : ℕ) → Answer Frame
looks_in S n j = refuse (leb places n) 1 (frame_in (S.at n).inbox j)
