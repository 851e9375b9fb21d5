-- Looking: what is seen of a place is what its words hold, and a frame by its place in an inbox.
use mathlib.Core.Path.{◌≡◌, refl, sym, ap, ◌∙◌}
use Prim.Native.Nat.{ℕ, zero, suc, ◌+◌, ◌*◌, ◌%◌, ◌<◌, ◌≤◌}
use mathlib.Core.List.{List, map}
use native.Mathlib.Omega.{arith}
use borrow.Author.Tests.{le-leb, lt-leb}
use lib.ListN.{length, get_or, length-map}
use mathlib.Core.Bool.{Bool, true}
use Rattle.headers.specs.declared.frame.Frame.{Frame}
use Rattle.node.specs.Rules.{Answer, accepted, refused, refuse, wait, Due, due_of}
use Rattle.node.specs.declared.Node.{Node}
use Rattle.segment_rules.specs.Rules.{places, inbox_room, Place}
use Rattle.segment_rules.specs.Looks.{state_number, id_seen, alias_seen, seen, looks, frame_in, looks_in}
use Rattle.pack.specs.Words.{frame_from}
use Rattle.table.specs.Words.{frame_of, place_of, count_at, first_at, slot, block, node_at, item_at, items, inbox, cell_at, view}
use Rattle.table.specs.WordLaws.{view-at}
use Rattle.table.proofs.Rings.{length-inbox}

-- a frame's words, round the ring
pub frame-slot : (t : List ℕ) (k q s j : ℕ) (f : Frame) → f ≡ frame_from (get_or t q 0) (get_or t (q + 1) 0)
    → q ≡ slot k (s % inbox_room + j % inbox_room) → f ≡ (item_at t (slot k (s + j))).frame
unfolding item_at
frame-slot t k q s j f g e =
    let m : (s % inbox_room + j % inbox_room) % inbox_room ≡ (s + j) % inbox_room = omega arith in
    g ∙ ap (λ (x : ℕ). frame_from (get_or t x 0) (get_or t (x + 1) 0)) (e ∙ ap (λ (x : ℕ). block * k + 16 + 2 * x) m)

-- what a node is seen as
pub seen-words : (t : List ℕ) (k : ℕ) (n : Node) (state id alias count : ℕ) (d : Due) → n ≡ node_at t k
    → state ≡ state_number n.phase → id ≡ id_seen n.phase n.own.id → alias ≡ alias_seen n.phase n.alias.0
    → d ≡ due_of wait n → count ≡ length (inbox t k)
    → record { state = state; id = id; alias = alias; due = d; count = count } ≡ seen (place_of (cell_at t k))
unfolding seen
seen-words t k n state id alias count d e s i a u l =
    λ j. record {
      state = (s ∙ ap (λ (n : Node). state_number n.phase) e) j;
      id = (i ∙ ap (λ (n : Node). id_seen n.phase n.own.id) e) j;
      alias = (a ∙ ap (λ (n : Node). alias_seen n.phase n.alias.0) e) j;
      due = (u ∙ ap (due_of wait) e) j;
      count = (l ∙ sym (length-map (inbox t k) frame_of)) j;
    }

-- a refusal whose test holds
refused-by : {A : Type 0} (a : Answer A) (b : Bool) (number : ℕ) → b ≡ true → refuse b number a ≡ refused number
refused-by a b number e = ap (λ (b : Bool). refuse b number a) e

module _ (t : List ℕ) (k : ℕ) where
  no-frame : (s n j : ℕ) → n ≤ j → frame_in (map frame_of (items t k s n)) j ≡ refused 6
  unfolding frame_in
  no-frame s zero j l = refl
  no-frame s (suc n) zero l = absurd (omega arith)
  no-frame s (suc n) (suc j) l = no-frame (s + 1) n j (omega arith)

  a-frame : (s n j : ℕ) → j < n → frame_in (map frame_of (items t k s n)) j ≡ accepted (item_at t (slot k (s + j))).frame
  unfolding frame_in
  a-frame s zero j l = absurd (omega arith)
  a-frame s (suc n) zero l = ap (λ (x : ℕ). accepted (item_at t (slot k x)).frame) (omega arith)
  a-frame s (suc n) (suc j) l =
      let e : s + 1 + j ≡ s + suc j = omega arith in
      a-frame (s + 1) n j (omega arith) ∙ ap (λ (x : ℕ). accepted (item_at t (slot k x)).frame) e

  inbox-6 : (j : ℕ) → get_or t (count_at k) 0 ≤ j → frame_in (place_of (cell_at t k)).inbox j ≡ refused 6
  unfolding inbox
  inbox-6 j l = no-frame (get_or t (first_at k) 0) (get_or t (count_at k) 0) j l

  inbox-frame : (j : ℕ) → j < get_or t (count_at k) 0
      → frame_in (place_of (cell_at t k)).inbox j ≡ accepted (item_at t (slot k (get_or t (first_at k) 0 + j))).frame
  unfolding inbox
  inbox-frame j l = a-frame (get_or t (first_at k) 0) (get_or t (count_at k) 0) j l

  pub look-1 : places ≤ k → looks (view t) k ≡ refused 1
  unfolding looks
  look-1 l = refused-by _ _ _ (le-leb places k l)

  pub look-seen : k < places → looks (view t) k ≡ accepted (seen (place_of (cell_at t k)))
  unfolding looks
  look-seen l =
      ap (λ (b : Bool). refuse b 1 (accepted (seen ((view t).at k)))) (lt-leb places k l)
      ∙ ap (λ (p : Place). accepted (seen p)) (view-at t k l)

  pub in-1 : (j : ℕ) → places ≤ k → looks_in (view t) k j ≡ refused 1
  unfolding looks_in
  in-1 j l = refused-by _ _ _ (le-leb places k l)

  in_place : (j : ℕ) → k < places → looks_in (view t) k j ≡ frame_in (place_of (cell_at t k)).inbox j
  unfolding looks_in
  in_place j l =
      ap (λ (b : Bool). refuse b 1 (frame_in ((view t).at k).inbox j)) (lt-leb places k l)
      ∙ ap (λ (p : Place). frame_in p.inbox j) (view-at t k l)

  pub in-6 : (j n : ℕ) → n ≡ length (inbox t k) → k < places → n ≤ j → looks_in (view t) k j ≡ refused 6
  in-6 j n e l m = in_place j l ∙ inbox-6 j (omega (arith, e ∙ length-inbox t k))

  pub in_frame : (j n : ℕ) (f : Frame) → n ≡ length (inbox t k) → k < places → j < n
      → f ≡ (item_at t (slot k (get_or t (first_at k) 0 + j))).frame → looks_in (view t) k j ≡ accepted f
  in_frame j n f e l m g = in_place j l ∙ inbox-frame j (omega (arith, e ∙ length-inbox t k)) ∙ ap accepted (sym g)
