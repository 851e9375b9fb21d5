-- Demand 3, one claim about every list of commands: what the commands promise, carried from all nodes Off through any list.
use Rattle.std.specs.Prelude.{◌≡◌, Bool, ◌||◌, ◌&&◌, ℕ, ◌+◌, ◌*◌, ◌<◌, ◌≤◌}
use Rattle.std.proofs.Math.Path.{refl, sym, ap}
use Rattle.std.proofs.Common.{subst, ◌∙◌, arith}
use Rattle.std.proofs.Math.Bool.{true, false, not, cond, and_assoc}
use Rattle.std.proofs.lemmas.Bool.{false≢true}
use mathlib.Core.List.{List, [], ◌∷◌, ◌++◌}
use Rattle.std.proofs.Math.Dec.{ltb}
use borrow.Author.Tests.{not-true, not-false, lt-ltb, ltb-true}
use Rattle.node.specs.Rules.{Answer, accepted, refused, Value, timed_for, wait, uses, off_node, is_off, due_of}
use Rattle.node.specs.declared.Node.{Node}
use Rattle.segment_rules.specs.Rules.{places, limit, Place, Segment, segment, blank, start, Command, one, send, tick, foreign, choose, read_out, answer, Told, told, effect, place_by, step_by, step, run, answers, Ages, none, ages_by, passes, age_by, ticks, old, age_step, aged, kept, no_ages, is_kept}
use Rattle.segment_rules.specs.Limits.{InLimit}
use Rattle.segment_rules.proofs.LimitLaws.{out-any, limit-by, limit-passes, limit-more, limit-test, test-limit, old-at, old-none}
use Rattle.headers.proofs.Laws.{both}
use Rattle.table.specs.Words.{Cell, node_at, place_of, ages_of, cell_at, late_of, view, view_ages, Fresh}
use Rattle.table.specs.WordLaws.{view-at, view-mark}
use Rattle.table.specs.ClockLaws.{around-step, old-around}
use Rattle.claim.proofs.Single.{single, one-meaning}
use Rattle.claim.proofs.NodeIds.{apart-run}
use Rattle.table.specs.Promise.{around, all_around, OldestFirst, bound, SoundWords, Carries, Tells}
use Rattle.claim.specs.Claim.{Carried, then, begun, Allowed, SingleAliases, Claim, Followed}

-- LISTS WITH ONE MORE COMMAND

pub run-snoc : (S : Segment) (cs : List Command) (c : Command) → run S (cs ++ (c ∷ [])) ≡ step (run S cs) c
unfolding run
run-snoc S [] c = refl
run-snoc S (d ∷ cs) c = run-snoc (step S d) cs c

pub answers-snoc : (S : Segment) (cs : List Command) (c : Command)
    → answers S (cs ++ (c ∷ [])) ≡ answers S cs ++ (told (run S cs) c ∷ [])
unfolding run answers
answers-snoc S [] c = refl
answers-snoc S (d ∷ cs) c = ap (λ (xs : List Told). told S d ∷ xs) (answers-snoc (step S d) cs c)

aged-snoc : (S : Segment) (G : ℕ → Ages) (cs : List Command) (c : Command)
    → aged ticks S G (cs ++ (c ∷ [])) ≡ age_step ticks (run S cs) (aged ticks S G cs) c
unfolding run aged
aged-snoc S G [] c = refl
aged-snoc S G (d ∷ cs) c = aged-snoc (step S d) (age_step ticks S G d) cs c

module _ (i o : ℕ) where
  kept-snoc : (S : Segment) (G : ℕ → Ages) (cs : List Command) (c : Command)
      → kept ticks i o S G (cs ++ (c ∷ []))
      ≡ (kept ticks i o S G cs && not (old i o places (step (run S cs) c) (age_step ticks (run S cs) (aged ticks S G cs) c)))
  unfolding run aged kept
  kept-snoc S G [] c = refl
  kept-snoc S G (d ∷ cs) c =
      ap (λ (b : Bool). not (old i o places S G) && b) (kept-snoc (step S d) (age_step ticks S G d) cs c)
      ∙ sym (and_assoc (not (old i o places S G)) (kept ticks i o (step S d) (age_step ticks S G d) cs) _)

  -- a kept list leaves no age that exceeds its limit
  kept-limit : (S : Segment) (G : ℕ → Ages) (cs : List Command) → kept ticks i o S G cs ≡ true → old i o places (run S cs) (aged ticks S G cs) ≡ false
  unfolding run aged kept
  kept-limit S G [] e = not-true (old i o places S G) e
  kept-limit S G (d ∷ cs) e =
      kept-limit (step S d) (age_step ticks S G d) cs (both (not (old i o places S G)) (kept ticks i o (step S d) (age_step ticks S G d) cs) e).1

-- what keeps limits keeps greater ones
module _ (i o i' o' : ℕ) (hi : i ≤ i') (ho : o ≤ o') where
  old-more : (S : Segment) (G : ℕ → Ages) → old i o places S G ≡ false → old i' o' places S G ≡ false
  old-more S G e = old-none i' o' places S G (λ k h. let n = (S.at k).node in
      limit-test i' o' n (G k) (limit-more i o i' o' hi ho n (G k) (test-limit i o n (G k) (old-at i o places S G k e h))))

  pub kept_more : (S : Segment) (G : ℕ → Ages) (cs : List Command) → kept ticks i o S G cs ≡ true → kept ticks i' o' S G cs ≡ true
  unfolding kept
  kept_more S G [] e = ap not (old-more S G (not-true (old i o places S G) e))
  kept_more S G (c ∷ cs) e =
      let b = both (not (old i o places S G)) (kept ticks i o (step S c) (age_step ticks S G c) cs) e in
      λ j. not (old-more S G (not-true (old i o places S G) b.0) j) && kept_more (step S c) (age_step ticks S G c) cs b.1 j

-- a command lets at most one tick pass
one-tick : (c : Command) → ticks c ≤ 1
one-tick (one n x) = omega arith
one-tick (send n) = omega arith
one-tick tick = omega arith
one-tick (foreign f) = omega arith
one-tick choose = omega arith
one-tick (read_out n) = omega arith

-- with no age above the limit before, none is above one more
limit-step : (S : Segment) (G : ℕ → Ages) (c : Command) (k : ℕ) → k < places → InLimit limit limit (S.at k).node (G k)
    → InLimit (limit + 1) (limit + 1) ((step S c).at k).node (age_step ticks S G c k)
limit-step S G c k hk h = go (answer S c)
  where
    m : Place
    m = place_by (effect S c k) (S.at k)

    now : Ages
    now = ages_by (effect S c k) (S.at k).node (G k)

    in-range : (b : Bool) → b ≡ true
        → InLimit (limit + 1) (limit + 1) (cond b m (S.at k)).node (cond b (passes (ticks c) m.node now) (G k))
    in-range b e =
        rw e (limit-more (limit + ticks c) (limit + ticks c) (limit + 1) (limit + 1) (omega (arith, one-tick c)) (omega (arith, one-tick c)) m.node (passes (ticks c) m.node now)
        (limit-passes limit limit (ticks c) m.node now (limit-by limit limit (effect S c k) (S.at k) (G k) h)))

    go : (x : Answer Value) → InLimit (limit + 1) (limit + 1) ((step_by x S c).at k).node (age_by (ticks c) x S G c k)
    go (accepted v) = in-range (ltb k places) (lt-ltb k places hk)
    go (refused number) = limit-more limit limit (limit + 1) (limit + 1) (omega arith) (omega arith) (S.at k).node (G k) h

-- what a command answers is what the rules give
pub told-so : {cs : List Command} {xs : List Told} {t : List ℕ} {c : Command} {x : Told} {t' : List ℕ} → Followed cs xs t → Tells c t x t'
    → x ≡ told (run start cs) c
told-so {c = c} F d = (d F.sound).answered ∙ ap (λ (S : Segment). told S c) F.table

module _ (cs : List Command) (xs : List Told) (t : List ℕ) (c : Command) (x : Told) (t' : List ℕ) (F : Followed cs xs t) (d : Tells c t x t') where
  abbrev D : Carries c t x t'
  D = d F.sound

  abbrev S : Segment
  S = run start cs

  abbrev G : ℕ → Ages
  G = aged ticks start no_ages cs

  table_on : view t' ≡ step S c
  table_on = D.table ∙ ap (λ (S : Segment). step S c) F.table

  ages-on : view_ages t' ≡ all_around (age_step ticks S G c)
  ages-on =
      D.ages
      ∙ (λ j. all_around (age_step ticks (F.table j) (F.ages j) c))
      ∙ around-step S G c

  late-on : late_of t' ≡ not (is_kept limit limit cs && not (old limit limit places (step S c) (age_step ticks S G c)))
  late-on = D.late ∙ go (is_kept limit limit cs) refl
    where
      exact : is_kept limit limit cs ≡ true → old limit limit places (view t') (view_ages t') ≡ old limit limit places (step S c) (age_step ticks S G c)
      exact e =
          (λ j. old limit limit places (table_on j) (ages-on j))
          ∙ old-around (limit + 1) (omega arith) limit limit places (step S c) (age_step ticks S G c)
          (λ k h. limit-step S G c k h (test-limit limit limit (S.at k).node (G k) (old-at limit limit places S G k (kept-limit limit limit start no_ages cs e) h)))

      twice : (b : Bool) → b ≡ not (not b)
      twice true = refl
      twice false = refl

      go : (b : Bool) → is_kept limit limit cs ≡ b → (late_of t || old limit limit places (view t') (view_ages t')) ≡ not (b && not (old limit limit places (step S c) (age_step ticks S G c)))
      go true e = (λ j. (F.late ∙ ap not e) j || exact e j) ∙ twice (old limit limit places (step S c) (age_step ticks S G c))
      go false e = ap (λ (b : Bool). b || old limit limit places (view t') (view_ages t')) (F.late ∙ ap not e)

  follow : Followed (cs ++ c ∷ []) (xs ++ x ∷ []) t'
  follow = record {
    answered = (λ i. F.answered i ++ told-so F d i ∷ []) ∙ sym (answers-snoc start cs c);
    table = table_on ∙ sym (run-snoc start cs c);
    ages = ages-on ∙ ap all_around (sym (aged-snoc start no_ages cs c));
    late = late-on ∙ ap not (sym (kept-snoc limit limit start no_ages cs c));
    sound = D.sound;
  }

-- ALL NODES OFF

module _ {t : List ℕ} (f : Fresh t) where
  fresh-table : view t ≡ start
  unfolding view
  fresh-table = λ j. segment (λ k. at k (ltb k places) refl j) (f.mark j)
    where
      at : (k : ℕ) (b : Bool) → ltb k places ≡ b → cond b (place_of (cell_at t k)) blank ≡ blank
      at k true e = ap place_of (f.cells k (ltb-true k places e))
      at k false e = refl

  fresh-ages : view_ages t ≡ all_around no_ages
  unfolding view_ages
  fresh-ages = λ j k. at k (ltb k places) refl j
    where
      at : (k : ℕ) (b : Bool) → ltb k places ≡ b → cond b (ages_of (cell_at t k)) none ≡ around none
      at k true e = ap ages_of (f.cells k (ltb-true k places e))
      at k false e = refl

  pub fresh-sound : SoundWords t
  fresh-sound = record {
    held = f.held;
    limits = λ e k h. subst (λ (x : Cell). InLimit (bound t) (bound t) x.node (ages_of x)) (sym (f.cells k h)) nothing-old;
    ordered = λ e k h. subst (λ (x : Cell). OldestFirst x.inbox) (sym (f.cells k h)) tt;
  }
    where
      nothing-old : InLimit (bound t) (bound t) off_node none
      nothing-old = record { inbox = tt; waiting = λ a. out-any (bound t) (timed_for off_node a) 0 (omega arith) }

pub follows : {cs : List Command} {xs : List Told} {t : List ℕ} → Carried cs xs t → Followed cs xs t
unfolding run answers aged kept
follows (begun f) = record {
  answered = refl;
  table = fresh-table f;
  ages = fresh-ages f;
  late = f.late ∙ sym (ap (λ (b : Bool). not (not b)) (old-none limit limit places start no_ages (λ k h. limit-test limit limit off_node none no-age)));
  sound = fresh-sound f;
}
  where
    no-age : InLimit limit limit off_node none
    no-age = record { inbox = tt; waiting = λ a. out-any limit (timed_for off_node a) 0 (omega arith) }
follows (then r d) = follow _ _ _ _ _ _ (follows r) d

module _ {cs : List Command} {xs : List Told} {t : List ℕ} (r : Carried cs xs t) (k : ℕ) (h : k < places) where
  same_place : place_of (cell_at t k) ≡ (run start cs).at k
  same_place = sym (view-at t k h) ∙ ap (λ (S : Segment). S.at k) (follows r).table

  same-node : node_at t k ≡ ((run start cs).at k).node
  same-node = ap (λ (p : Place). p.node) same_place

-- what A.3 allows stays below the wait
pub below-wait : (i o : ℕ) → Allowed i o → (2 * i + o < wait) × (i + 2 * o < wait)
below-wait i o h = (omega (arith, h.0), omega (arith, h.1))

-- DEMAND 3, for any number of commands and any operands.
pub claim : {cs : List Command} {xs : List Told} {t : List ℕ} → Carried cs xs t → Claim cs xs t
claim {cs} {xs} {t} r = record {
  answered = (follows r).answered;
  nodes = λ k h. same-node r k h;
  inboxes = λ k h. ap (λ (p : Place). p.inbox) (same_place r k h);
  mark = sym (view-mark t) ∙ ap (λ (S : Segment). S.mark) (follows r).table;
  late = (follows r).late;
  single = λ i o h e. let b = below-wait i o h in record {
    one-user = λ p q hp hq ne u v x. single i o b.0 b.1 cs e p q hp hq ne
        (ap (λ (n : Node). uses n.phase) (sym (same-node r p hp)) ∙ u)
        (ap (λ (n : Node). uses n.phase) (sym (same-node r q hq)) ∙ v)
        (ap (λ (n : Node). n.alias.0) (sym (same-node r p hp)) ∙ x ∙ ap (λ (n : Node). n.alias.0) (same-node r q hq));
    one-meaning = λ p q hp hq ne f g df dg x. one-meaning i o b.0 b.1 cs e p q hp hq ne f g
        (ap (due_of wait) (sym (same-node r p hp)) ∙ df)
        (ap (due_of wait) (sym (same-node r q hq)) ∙ dg)
        x;
  };
  one-holder = λ p q hp hq ne u v x. apart-run cs p q hp hq ne
      (ap (λ (n : Node). is_off n.phase) (sym (same-node r p hp)) ∙ u)
      (ap (λ (n : Node). is_off n.phase) (sym (same-node r q hq)) ∙ v)
      (ap (λ (n : Node). n.own.id) (sym (same-node r p hp)) ∙ x ∙ ap (λ (n : Node). n.own.id) (same-node r q hq));
}

-- Document 01's limits, 40 and 40, are one case.
pub base : {cs : List Command} {xs : List Told} {t : List ℕ} → Carried cs xs t → is_kept limit limit cs ≡ true → SingleAliases t
base r = (claim r).single limit limit (omega arith, omega arith)

-- What late tells of other limits: a list that is not late keeps all that are as great or greater, a late one none that are as small
-- or smaller.
module _ {cs : List Command} {xs : List Told} {t : List ℕ} (r : Carried cs xs t) (i o : ℕ) where
  pub kept_above : late_of t ≡ false → limit ≤ i → limit ≤ o → is_kept i o cs ≡ true
  kept_above e hi ho = kept_more limit limit i o hi ho start no_ages cs (not-false (is_kept limit limit cs) (sym (claim r).late ∙ e))

  pub late_below : late_of t ≡ true → i ≤ limit → o ≤ limit → is_kept i o cs ≡ false
  late_below e hi ho = go (is_kept i o cs) refl
    where
      go : (b : Bool) → is_kept i o cs ≡ b → is_kept i o cs ≡ false
      go true k = absurd (false≢true (sym (not-true (is_kept limit limit cs) (sym (claim r).late ∙ e)) ∙ kept_more i o limit limit hi ho start no_ages cs k))
      go false k = k
