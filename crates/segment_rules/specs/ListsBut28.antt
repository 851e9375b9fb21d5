-- What the theorems of proofs/ListsBut28.antt speak of; these definitions are to be believed.
use Rattle.std.specs.Prelude.{◌≡◌, List, [], ◌∷◌}
use Prim.Native.Nat.{ℕ}
use Rattle.headers.specs.Bit28.{But28}
use Rattle.headers.specs.declared.frame.Frame.{Frame}
use Rattle.segment_rules.specs.Rules.{Place, Segment, start, Command, Effect, gets, foreign, run, answers, is_kept}

-- Two commands that are the same but for bit 28 of a foreign frame; and lists of such.
pub data CommandsBut28 : Command → Command → Type 0 where
  same : (c : Command) → CommandsBut28 c c
  turned : {f g : Frame} → But28 f g → CommandsBut28 (foreign f) (foreign g)

pub data ListsBut28 : List Command → List Command → Type 0 where
  none : ListsBut28 [] []
  more : {c d : Command} {cs ds : List Command} → CommandsBut28 c d → ListsBut28 cs ds → ListsBut28 (c ∷ cs) (d ∷ ds)

-- Two inboxes whose frames differ in bit 28 alone, each and its like; and two places with the same node and such inboxes.
pub data InboxesBut28 : List Frame → List Frame → Type 0 where
  none : InboxesBut28 [] []
  more : {f g : Frame} {fs gs : List Frame} → But28 f g → InboxesBut28 fs gs → InboxesBut28 (f ∷ fs) (g ∷ gs)

pub record PlacesBut28 (p q : Place) : Type 0 where
  pub node : p.node ≡ q.node
  pub inbox : InboxesBut28 p.inbox q.inbox

pub record SegmentsBut28 (S T : Segment) : Type 0 where
  pub at : (k : ℕ) → PlacesBut28 (S.at k) (T.at k)
  pub mark : S.mark ≡ T.mark

-- What a command does at a place, and its like.
pub data EffectsBut28 : Effect → Effect → Type 0 where
  same : (e : Effect) → EffectsBut28 e e
  turned : {f g : Frame} → But28 f g → EffectsBut28 (gets f) (gets g)

-- What two such lists have in common, from all nodes Off.
pub record RunsBut28 (cs ds : List Command) : Type 0 where
  pub answers : answers start cs ≡ answers start ds
  pub segments : SegmentsBut28 (run start cs) (run start ds)
  pub kept : (i o : ℕ) → is_kept i o cs ≡ is_kept i o ds
