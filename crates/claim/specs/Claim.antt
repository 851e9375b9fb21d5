-- Demand 3, one claim about every list of commands: what it says. proofs/Claim.antt proves it, carried from all nodes Off through any list.
use Rattle.std.specs.Prelude.{◌≡◌, ◌≢◌, ℕ, ◌+◌, ◌*◌, ◌<◌, ◌≤◌}
use Rattle.std.proofs.Math.Bool.{true, false, not}
use mathlib.Core.List.{List, [], ◌∷◌, ◌++◌, map}
use Rattle.node.specs.Rules.{wait, uses, is_off, next, due_of}
use Rattle.headers.specs.declared.frame.Frame.{Frame}
use Rattle.segment_rules.specs.Rules.{places, limit, start, Command, Told, run, answers, ticks, aged, no_ages, is_kept}
use Rattle.table.specs.Words.{frame_of, node_at, inbox, late_of, mark_of, view, view_ages, Fresh}
use Rattle.table.specs.Promise.{all_around, SoundWords, Tells}

-- A LIST, carried out by the code: the commands cs, one after another on one table from all nodes Off, answered xs and left
-- the words t. `Fresh` is what `new` ensures, `Tells` what each command ensures.
pub data Carried : List Command → List Told → List ℕ → Type 0 where
  begun : {t : List ℕ} → Fresh t → Carried [] [] t
  then : {cs : List Command} {xs : List Told} {t : List ℕ} {c : Command} {x : Told} {t' : List ℕ}
      → Carried cs xs t → Tells c t x t' → Carried (cs ++ c ∷ []) (xs ++ x ∷ []) t'

-- A.3: let i be the most ticks an inbox frame may stand and o the most that a reply RID or AMR may wait. Allowed is every i and o
-- with 2 × i + o at most 200 and i + 2 × o at most 200.
abbrev pub most_sum : ℕ
most_sum = 200

abbrev pub Allowed : (i o : ℕ) → Type 0
Allowed i o = (2 * i + o ≤ most_sum) × (i + 2 * o ≤ most_sum)

-- Aliases are single, in the words of a table.
pub record SingleAliases (t : List ℕ) : Type 0 where
  -- no two nodes use one alias
  pub one-user : (p q : ℕ) → p < places → q < places → p ≢ q
      → uses (node_at t p).phase ≡ true → uses (node_at t q).phase ≡ true → (node_at t p).alias.0 ≢ (node_at t q).alias.0
  -- and no two have due frames with identical headers and different data
  pub one-meaning : (p q : ℕ) → p < places → q < places → p ≢ q → (f g : Frame)
      → due_of wait (node_at t p) ≡ next f → due_of wait (node_at t q) ≡ next g → f.header ≡ g.header → (f.len ≡ g.len) × (f.bytes ≡ g.bytes)

-- THE CLAIM. What the rules give is `run start cs`, from the list's commands alone.
pub record Claim (cs : List Command) (xs : List Told) (t : List ℕ) : Type 0 where
  -- every answer: accepted, for a send with the frame that left, or the refusal's number; a choice's index or none (A.8); and what was
  -- read out (A.9)
  pub answered : xs ≡ answers start cs
  -- each node, and so its state, its alias in Testing, every alias it uses, its due frame or that it has none, and its generator and
  -- whether its first alias is past (A.9)
  pub nodes : (k : ℕ) → k < places → node_at t k ≡ ((run start cs).at k).node
  -- each inbox in order, frames with their kinds
  pub inboxes : (k : ℕ) → k < places → map frame_of (inbox t k) ≡ ((run start cs).at k).inbox
  -- the mark (A.8)
  pub mark : mark_of t ≡ (run start cs).mark
  -- late exactly when some age in the list exceeded the limit
  pub late : late_of t ≡ not (is_kept limit limit cs)
  -- A.3: aliases stay single for every such i and o, where in the list no inbox frame's age exceeds i and no reply RID's or AMR's
  -- exceeds o
  pub single : (i o : ℕ) → Allowed i o → is_kept i o cs ≡ true → SingleAliases t
  -- A.6: no two nodes that are not Off have one Node ID, be the list kept or late
  pub one-holder : (p q : ℕ) → p < places → q < places → p ≢ q
      → is_off (node_at t p).phase ≡ false → is_off (node_at t q).phase ≡ false → (node_at t p).own.id ≢ (node_at t q).own.id

-- WHAT IS CARRIED THROUGH THE LIST: the answers, the segment, the ages modulo the round, and late

pub record Followed (cs : List Command) (xs : List Told) (t : List ℕ) : Type 0 where
  pub answered : xs ≡ answers start cs
  pub table : view t ≡ run start cs
  pub ages : view_ages t ≡ all_around (aged ticks start no_ages cs)
  pub late : late_of t ≡ not (is_kept limit limit cs)
  pub sound : SoundWords t
