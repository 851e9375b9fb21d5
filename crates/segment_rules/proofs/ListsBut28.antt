-- A.5 over lists: whatever bit 28 foreign equipment sends, every answer, every node and the mark are the same, the inboxes are too
-- but for that bit, and one list is kept where the other is. What two lists of commands and two segments are that differ in no more,
-- and what is claimed of them (`RunsBut28`), is in specs/ListsBut28.antt; these are to be believed.
use Rattle.std.specs.Prelude.{◌≡◌, Bool, true, false, not, ◌&&◌, ◌||◌, List, [], ◌∷◌, ◌++◌, ltb, leb, eqb, length}
use Rattle.std.proofs.Math.Path.{refl}
use Rattle.std.proofs.Common.{ap, subst, ◌∙◌}
use Rattle.std.proofs.Math.Bool.{cond}
use Prim.Native.Nat.{ℕ, zero, suc}
use Rattle.headers.specs.Bit28.{But28}
use Rattle.headers.proofs.Bit28.{itself, malformed-but-28, trimmed-but-28}
use Rattle.headers.specs.declared.frame.Frame.{Frame}
use Rattle.node.specs.Rules as N
use Rattle.node.specs.Rules.{Answer, accepted, refused, refuse, Value, done, left, wait, is_off, tick_of, is_due, due_of, trimmed, on_order, on_leave, read_out_of}
use Rattle.node.proofs.Bit28.{received-but-28}
use Rattle.node.specs.declared.Node.{Node}
use Rattle.segment_rules.specs.Rules.{places, inbox_room, Place, place, Segment, start, Act, orders, delivers, Command, one, send, tick, foreign, choose, read_out, names, after, first_due, choice, mark_by, some_other, is_full, is_empty, has_id, then_refuse, then_in_use, indexed, answer_at, id_in_use, read_out_at, whether, answer, chose, given, besides, Effect, stays, becomes, begins, reads, gets, rest, place_by, empties, order_by, delivered, effect_at, sent_by, effect, mark_after, step_by, step, run, answers, Ages, ages_by, passes, age_by, ticks, old_at, old, age_step, kept, no_ages}
use Rattle.segment_rules.specs.ListsBut28.{EffectsBut28, CommandsBut28, ListsBut28, more, none, InboxesBut28, PlacesBut28, SegmentsBut28, RunsBut28, same, turned}

-- INBOXES

length-but-28 : {xs ys : List Frame} → InboxesBut28 xs ys → length xs ≡ length ys
length-but-28 none = refl
length-but-28 (more b r) = ap suc (length-but-28 r)

empty-but-28 : {xs ys : List Frame} → InboxesBut28 xs ys → is_empty xs ≡ is_empty ys
empty-but-28 none = refl
empty-but-28 (more b r) = refl

delivered-but-28 : (n : Node) {xs ys : List Frame} → InboxesBut28 xs ys → delivered xs n ≡ delivered ys n
delivered-but-28 n none = refl
delivered-but-28 n (more {f} {g} b r) = received-but-28 n f g b

rest-but-28 : {xs ys : List Frame} → InboxesBut28 xs ys → InboxesBut28 (rest xs) (rest ys)
rest-but-28 none = none
rest-but-28 (more b r) = r

join-but-28 : {f g : Frame} {xs ys : List Frame} → But28 f g → InboxesBut28 xs ys → InboxesBut28 (xs ++ f ∷ []) (ys ++ g ∷ [])
join-but-28 b none = more b none
join-but-28 b (more c r) = more c (join-but-28 b r)

-- WHAT A COMMAND DOES AT A PLACE

placed : {d e : Effect} → EffectsBut28 d e → (p q : Place) → PlacesBut28 p q → PlacesBut28 (place_by d p) (place_by e q)
placed (same stays) p q h = h
placed (same (becomes m)) p q h = record { node = refl; inbox = h.inbox }
placed (same (begins m)) p q h = record { node = refl; inbox = none }
placed (same (reads m)) p q h = record { node = refl; inbox = rest-but-28 h.inbox }
placed (same (gets f)) p q h = record { node = h.node; inbox = join-but-28 (itself f) h.inbox }
placed (turned b) p q h = record { node = h.node; inbox = join-but-28 b h.inbox }

aged-by : {d e : Effect} → EffectsBut28 d e → (n m : Node) → n ≡ m → (g : Ages) → ages_by d n g ≡ ages_by e m g
aged-by (same e) n m q g = ap (λ (x : Node). ages_by e x g) q
aged-by (turned b) n m q g = refl

sent-by : (a : Answer Value) (m : Node) (own : Bool) (p q : Place) → p.node ≡ q.node → sent_by a m own p ≡ sent_by a m own q
sent-by (accepted (left f)) m own p q e = λ z. cond own (becomes m) (cond (is_off (e z).phase) stays (gets f))
sent-by (accepted done) m own p q e = refl
sent-by (refused number) m own p q e = refl

-- ONE COMMAND, on two such segments

module _ (S T : Segment) (h : SegmentsBut28 S T) where
  other-but-28 : (Q : Place → Bool) → ((k : ℕ) → Q (S.at k) ≡ Q (T.at k)) → (i n : ℕ) → some_other Q i n S ≡ some_other Q i n T
  unfolding some_other
  other-but-28 Q q i zero = refl
  other-but-28 Q q i (suc n) = λ z. (not (eqb n i) && q n z) || other-but-28 Q q i n z

  full-but-28 : (i n : ℕ) → some_other is_full i n S ≡ some_other is_full i n T
  full-but-28 = other-but-28 is_full (λ k z. leb inbox_room (length-but-28 (h.at k).inbox z))

  id-but-28 : (id i n : ℕ) → some_other (has_id id) i n S ≡ some_other (has_id id) i n T
  id-but-28 id = other-but-28 (has_id id) (λ k z. has_id id (place ((h.at k).node z) []))

  in-use-but-28 : (n : ℕ) (x : Act) → id_in_use S n x ≡ id_in_use T n x
  in-use-but-28 n (orders (N.power_on id)) = id-but-28 id n places
  in-use-but-28 n (orders N.fail) = refl
  in-use-but-28 n (orders (N.message field len bytes)) = refl
  in-use-but-28 n (orders (N.enquiry len bytes)) = refl
  in-use-but-28 n (orders N.release) = refl
  in-use-but-28 n (orders (N.link state)) = refl
  in-use-but-28 n (orders (N.warm_on id flag state)) = id-but-28 id n places
  in-use-but-28 n delivers = refl

  answered-at : (k : ℕ) (x : Act) → answer_at (S.at k) x ≡ answer_at (T.at k) x
  answered-at k (orders x) = ap (λ (n : Node). (on_order wait n x).answer) (h.at k).node
  answered-at k delivers =
      λ z. refuse (is_off ((h.at k).node z).phase) 2 (refuse (empty-but-28 (h.at k).inbox z) 6 (accepted done))

  answered-foreign : (f g : Frame) → But28 f g → answer S (foreign f) ≡ answer T (foreign g)
  answered-foreign f g b =
      λ z. refuse (malformed-but-28 f g b z) 9 (refuse (full-but-28 places places z) 5 (accepted done))

  read-out-but-28 : (n : ℕ) → read_out_at S n ≡ read_out_at T n
  read-out-but-28 n = λ z. refuse (leb places n) 1 (read_out_of ((h.at n).node z))

  answered : {c d : Command} → CommandsBut28 c d → answer S c ≡ answer T d
  answered (same (one n x)) = λ z. indexed n (then_in_use (answered-at n x z) (in-use-but-28 n x z))
  answered (same (send n)) = λ z. indexed n (then_refuse (on_leave wait ((h.at n).node z)).answer (full-but-28 n places z) 5)
  answered (same tick) = refl
  answered (same (foreign f)) = answered-foreign f f (itself f)
  answered (same choose) = refl
  answered (same (read_out n)) = ap whether (read-out-but-28 n)
  answered (turned {f} {g} b) = answered-foreign f g b

  chosen : (n k : ℕ) → first_due S n k ≡ first_due T n k
  unfolding first_due
  chosen zero k = refl
  chosen (suc n) k = λ z. cond (is_due (due_of wait ((h.at k).node z))) (names k) (chosen n (after k) z)

  same-choice : choice S ≡ choice T
  same-choice = chosen places (after S.mark) ∙ ap (λ (m : ℕ). first_due T places (after m)) h.mark

  besides-but-28 : {c d : Command} → CommandsBut28 c d → besides S c ≡ besides T d
  besides-but-28 (same (one n x)) = refl
  besides-but-28 (same (send n)) = refl
  besides-but-28 (same tick) = refl
  besides-but-28 (same (foreign f)) = refl
  besides-but-28 (same choose) = ap chose same-choice
  besides-but-28 (same (read_out n)) = ap given (read-out-but-28 n)
  besides-but-28 (turned b) = refl

  marked : {c d : Command} → CommandsBut28 c d → mark_after S c ≡ mark_after T d
  marked (same (one n x)) = h.mark
  marked (same (send n)) = h.mark
  marked (same tick) = h.mark
  marked (same (foreign f)) = h.mark
  marked (same choose) = λ z. mark_by (same-choice z) (h.mark z)
  marked (same (read_out n)) = h.mark
  marked (turned b) = h.mark

  effect-at : (k : ℕ) (x : Act) → effect_at (S.at k) x ≡ effect_at (T.at k) x
  effect-at k (orders x) = ap (λ (n : Node). order_by (empties x) (on_order wait n x).node) (h.at k).node
  effect-at k delivers =
      ap reads (delivered-but-28 (S.at k).node (h.at k).inbox ∙ ap (delivered (T.at k).inbox) (h.at k).node)

  effect_of : (c : Command) (k : ℕ) → effect S c k ≡ effect T c k
  effect_of (one n x) k = λ z. cond (eqb k n) (effect-at k x z) stays
  effect_of (send n) k =
      sent-by (on_leave wait (S.at n).node).answer (on_leave wait (S.at n).node).node (eqb k n) (S.at k) (T.at k) (h.at k).node
      ∙ ap (λ (m : Node). sent_by (on_leave wait m).answer (on_leave wait m).node (eqb k n) (T.at k)) (h.at n).node
  effect_of tick k = ap (λ (n : Node). becomes (tick_of wait n)) (h.at k).node
  effect_of (foreign f) k = ap (λ (n : Node). cond (is_off n.phase) stays (gets (trimmed f))) (h.at k).node
  effect_of choose k = refl
  effect_of (read_out n) k = refl

  effects : {c d : Command} → CommandsBut28 c d → (k : ℕ) → EffectsBut28 (effect S c k) (effect T d k)
  effects (same c) k = subst (EffectsBut28 (effect S c k)) (effect_of c k) (same (effect S c k))
  effects (turned {f} {g} b) k =
      subst (λ (n : Node). EffectsBut28 (effect S (foreign f) k) (cond (is_off n.phase) stays (gets (trimmed g)))) (h.at k).node
      (go (is_off (S.at k).node.phase))
    where
      go : (off : Bool) → EffectsBut28 (cond off stays (gets (trimmed f))) (cond off stays (gets (trimmed g)))
      go true = same stays
      go false = turned (trimmed-but-28 f g b)

  stepped : {c d : Command} → CommandsBut28 c d → SegmentsBut28 (step S c) (step T d)
  stepped {c} {d} b = subst (λ (a : Answer Value). SegmentsBut28 (step S c) (step_by a T d)) (answered b) (by (answer S c))
    where
      either : (x : Bool) {p q p' q' : Place} → PlacesBut28 p q → PlacesBut28 p' q' → PlacesBut28 (cond x p p') (cond x q q')
      either true u v = u
      either false u v = v

      by : (a : Answer Value) → SegmentsBut28 (step_by a S c) (step_by a T d)
      by (accepted v) = record {
        at = λ k. either (ltb k places) (placed (effects b k) (S.at k) (T.at k) (h.at k)) (h.at k);
        mark = marked b;
      }
      by (refused number) = h

  same-ticks : {c d : Command} → CommandsBut28 c d → ticks c ≡ ticks d
  same-ticks (same c) = refl
  same-ticks (turned b) = refl

  aged-step : {c d : Command} → CommandsBut28 c d → (G : ℕ → Ages) → age_step ticks S G c ≡ age_step ticks T G d
  aged-step {c} {d} b G = by (answer S c) ∙ (λ z. age_by (same-ticks b z) (answered b z) T G d)
    where
      by : (a : Answer Value) → age_by (ticks c) a S G c ≡ age_by (ticks c) a T G d
      by (accepted v) =
          λ z k. cond (ltb k places)
          (passes (ticks c) ((placed (effects b k) (S.at k) (T.at k) (h.at k)).node z) (aged-by (effects b k) _ _ (h.at k).node (G k) z))
          (G k)
      by (refused number) = refl

  old-but-28 : (i o n : ℕ) (G : ℕ → Ages) → old i o n S G ≡ old i o n T G
  unfolding old
  old-but-28 i o zero G = refl
  old-but-28 i o (suc n) G = λ z. old_at i o ((h.at n).node z) (G n) || old-but-28 i o n G z

-- LISTS

ran : (S T : Segment) → SegmentsBut28 S T → {cs ds : List Command} → ListsBut28 cs ds → SegmentsBut28 (run S cs) (run T ds)
unfolding run
ran S T h none = h
ran S T h (more {c} {d} b r) = ran (step S c) (step T d) (stepped S T h b) r

all-answered : (S T : Segment) → SegmentsBut28 S T → {cs ds : List Command} → ListsBut28 cs ds → answers S cs ≡ answers T ds
unfolding answers
all-answered S T h none = refl
all-answered S T h (more {c} {d} b r) =
    λ z. record { answer = answered S T h b z; besides = besides-but-28 S T h b z } ∷ all-answered (step S c) (step T d) (stepped S T h b) r z

all-kept : (i o : ℕ) (S T : Segment) → SegmentsBut28 S T → (G : ℕ → Ages) {cs ds : List Command} → ListsBut28 cs ds
    → kept ticks i o S G cs ≡ kept ticks i o T G ds
unfolding kept
all-kept i o S T h G none = ap not (old-but-28 S T h i o places G)
all-kept i o S T h G (more {c} {d} {cs} {ds} b r) =
    let on = all-kept i o (step S c) (step T d) (stepped S T h b) (age_step ticks S G c) r
    ∙ ap (λ (H : ℕ → Ages). kept ticks i o (step T d) H ds) (aged-step S T h b G) in
    λ z. not (old-but-28 S T h i o places G z) && on z

pub ignores-28 : {cs ds : List Command} → ListsBut28 cs ds → RunsBut28 cs ds
ignores-28 r = record {
  answers = all-answered start start alike r;
  segments = ran start start alike r;
  kept = λ i o. all-kept i o start start alike no_ages r;
}
  where
    alike : SegmentsBut28 start start
    alike = record { at = λ k. record { node = refl; inbox = none }; mark = refl }
