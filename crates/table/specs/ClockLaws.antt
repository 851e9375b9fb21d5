-- Laws of ages as words keep them: by a clock that goes round they are what the rules say, modulo the round; and no frame in
-- an inbox is older than the one before it.
use Rattle.std.specs.Prelude.{◌≡◌, refl, Bool, true, false, cond, ◌||◌, List, [], ◌∷◌, ◌++◌, map, ℕ, ◌+◌, ◌%◌, ◌<◌, ◌≤◌, ltb, eqb, Option, Some, None}
use Rattle.std.proofs.Common.{sym, ap, subst, ◌∙◌, arith, eq-eqb, eqb-true}
use Rattle.std.proofs.lemmas.Bool.{false≢true}
use Rattle.std.proofs.lemmas.List.{map-append}
use Rattle.node.specs.Rules.{Answer, accepted, refused, Value, uses, timed_at, held, held_of, timed_in, timed_for}
use Rattle.node.proofs.EventLaws.{timed-other}
use Rattle.headers.specs.declared.frame.Frame.{Frame}
use Rattle.node.specs.declared.Node.{Node}
use Rattle.state.specs.declared.Timed.{Timed}
use Rattle.state.specs.declared.Timed.TheVariants.{Reply, Amr}
use Rattle.segment_rules.specs.Rules.{
  places,
  place,
  Segment,
  Command,
  answer,
  Effect,
  stays,
  becomes,
  begins,
  reads,
  gets,
  rest,
  place_by,
  effect,
  Ages,
  ages,
  ages_on,
  goes_on,
  ages_by,
  pass_age,
  passes,
  age_by,
  age_step,
  ticks,
  any_old,
  timed_old,
  held_old,
  old_at,
  old,
}
use Rattle.segment_rules.specs.Limits.{AgesTo, OutTo, InLimit}
use Rattle.segment_rules.proofs.LimitLaws.{out-any, old-ext}
use Rattle.pack.specs.Words.{round}
use Rattle.table.specs.Words.{Item, item, Cell, frame_of, age_in, place_of, ages_of}
use Rattle.table.specs.Parts.{cell_by, later, later_item, first_age, head_age}
use Rattle.table.specs.Promise.{around, all_around, Under, OldestFirst}

-- A PLACE WITH ITS AGES

pub place-by : (e : Effect) (x : Cell) → place_of (cell_by e x) ≡ place_by e (place_of x)
place-by stays x = refl
place-by (becomes m) x = refl
place-by (begins m) x = refl
place-by (reads m) x = ap (place m) (go x.inbox)
  where
    go : (xs : List Item) → map frame_of (rest xs) ≡ rest (map frame_of xs)
    go [] = refl
    go (y ∷ xs) = refl
place-by (gets f) x = ap (place x.node) (map-append frame_of x.inbox (item f 0 ∷ []))

pub ages-by : (e : Effect) (x : Cell) → ages_of (cell_by e x) ≡ ages_by e x.node (ages_of x)
ages-by stays x = refl
ages-by (becomes m) x = refl
ages-by (begins m) x = refl
ages-by (reads m) x = ap (λ (gs : List ℕ). ages gs (goes_on x.node m x.age)) (go x.inbox)
  where
    go : (xs : List Item) → map age_in (rest xs) ≡ rest (map age_in xs)
    go [] = refl
    go (y ∷ xs) = refl
ages-by (gets f) x = ap (λ (gs : List ℕ). ages gs x.age) (map-append age_in x.inbox (item f 0 ∷ []))

-- MODULO THE ROUND

twice : (x : ℕ) → x % round % round ≡ x % round
twice x = omega arith

shifted : (x d : ℕ) → (x % round + d) % round ≡ (x + d) % round
shifted x d = omega arith

around-list : (gs : List ℕ) → map (λ x. x % round) (map (λ x. x % round) gs) ≡ map (λ x. x % round) gs
around-list [] = refl
around-list (g ∷ gs) = λ j. twice g j ∷ around-list gs j

around-on : (t u : Option Timed) (x : ℕ) → ages_on t u (x % round) % round ≡ ages_on t u x % round
around-on None u x = refl
around-on (Some Reply) None x = refl
around-on (Some Reply) (Some Reply) x = twice x
around-on (Some Reply) (Some Amr) x = refl
around-on (Some Amr) None x = refl
around-on (Some Amr) (Some Reply) x = refl
around-on (Some Amr) (Some Amr) x = twice x

ages-eq : {g h : Ages} → g.inbox ≡ h.inbox → ((a : ℕ) → g.waiting a ≡ h.waiting a) → g ≡ h
ages-eq p q = λ j. ages (p j) (λ a. q a j)

around-by : (e : Effect) (n : Node) (g : Ages) → around (ages_by e n (around g)) ≡ around (ages_by e n g)
around-by stays n g = ages-eq (around-list g.inbox) (λ a. twice (g.waiting a))
around-by (becomes m) n g = ages-eq (around-list g.inbox) (λ a. around-on (timed_for n a) (timed_for m a) (g.waiting a))
around-by (begins m) n g = refl
around-by (reads m) n g =
    ages-eq (go g.inbox) (λ a. around-on (timed_for n a) (timed_for m a) (g.waiting a))
  where
    go : (gs : List ℕ) → map (λ x. x % round) (rest (map (λ x. x % round) gs)) ≡ map (λ x. x % round) (rest gs)
    go [] = refl
    go (x ∷ gs) = around-list gs
around-by (gets f) n g = ages-eq (go g.inbox) (λ a. twice (g.waiting a))
  where
    go : (gs : List ℕ) → map (λ x. x % round) (map (λ x. x % round) gs ++ (0 ∷ [])) ≡ map (λ x. x % round) (gs ++ (0 ∷ []))
    go [] = refl
    go (x ∷ gs) = λ j. twice x j ∷ go gs j

around-passes : (d : ℕ) (n : Node) (g : Ages) → around (passes d n (around g)) ≡ around (passes d n g)
around-passes d n g = ages-eq (go g.inbox) (λ a. timed (timed_for n a) (g.waiting a))
  where
    go : (gs : List ℕ) → map (λ x. x % round) (map (λ x. x + d) (map (λ x. x % round) gs)) ≡ map (λ x. x % round) (map (λ x. x + d) gs)
    go [] = refl
    go (x ∷ gs) = λ j. shifted x d j ∷ go gs j

    timed : (t : Option Timed) (x : ℕ) → pass_age d t (x % round) % round ≡ pass_age d t x % round
    timed None x = twice x
    timed (Some Reply) x = shifted x d
    timed (Some Amr) x = shifted x d

-- ages modulo the round are enough to carry on with
pub around-step : (S : Segment) (G : ℕ → Ages) (c : Command) → all_around (age_step ticks S (all_around G) c) ≡ all_around (age_step ticks S G c)
around-step S G c = λ j k. at k j
  where
    by : (d : ℕ) (e : Effect) (n m : Node) (g : Ages) → around (passes d m (ages_by e n (around g))) ≡ around (passes d m (ages_by e n g))
    by d e n m g =
        sym (around-passes d m (ages_by e n (around g)))
        ∙ ap (λ (x : Ages). around (passes d m x)) (around-by e n g)
        ∙ around-passes d m (ages_by e n g)

    same : (g : Ages) → around (around g) ≡ around g
    same g = around-by stays (S.at 0).node g

    at : (k : ℕ) → around (age_step ticks S (all_around G) c k) ≡ around (age_step ticks S G c k)
    at k = go (answer S c)
      where
        in-range : (b : Bool) → let e = effect S c k in let m = (place_by e (S.at k)).node in
            around (cond b (passes (ticks c) m (ages_by e (S.at k).node (around (G k)))) (around (G k)))
            ≡ around (cond b (passes (ticks c) m (ages_by e (S.at k).node (G k))) (G k))
        in-range true = by (ticks c) (effect S c k) (S.at k).node (place_by (effect S c k) (S.at k)).node (G k)
        in-range false = same (G k)

        go : (x : Answer Value) → around (age_by (ticks c) x S (all_around G) c k) ≡ around (age_by (ticks c) x S G c k)
        go (accepted v) = in-range (ltb k places)
        go (refused number) = same (G k)

-- an age modulo the round is no greater
pub limit-around : (i o : ℕ) (n : Node) (g : Ages) → InLimit i o n g → InLimit i o n (around g)
limit-around i o n g h = record { inbox = go g.inbox h.inbox; waiting = λ a. timed (timed_for n a) (g.waiting a) (h.waiting a) }
  where
    go : (gs : List ℕ) → AgesTo i gs → AgesTo i (map (λ x. x % round) gs)
    go [] h = tt
    go (x ∷ gs) h = (omega (arith, h.0), go gs h.1)

    timed : (t : Option Timed) (x : ℕ) → OutTo o t x → OutTo o t (x % round)
    timed None x h = tt
    timed (Some Reply) x h = omega arith
    timed (Some Amr) x h = omega arith

-- ages below the round are what they are modulo the round
module _ (b : ℕ) (lo : b < round) where
  list-around : (gs : List ℕ) → AgesTo b gs → map (λ x. x % round) gs ≡ gs
  list-around [] h = refl
  list-around (g ∷ gs) h = let e : g % round ≡ g = omega (arith, h.0) in λ j. e j ∷ list-around gs h.1 j

  timed-around : (i o : ℕ) (t : Option Timed) (x : ℕ) → OutTo b t x → timed_old i o t (x % round) ≡ timed_old i o t x
  timed-around i o None x h = refl
  timed-around i o (Some Reply) x h = let e : x % round ≡ x = omega arith in ap (ltb o) e
  timed-around i o (Some Amr) x h = let e : x % round ≡ x = omega arith in ap (ltb o) e

  at-around : (i o : ℕ) (n : Node) (g : Ages) → InLimit b b n g → old_at i o n (around g) ≡ old_at i o n g
  at-around i o n g h = λ j. any_old i o (list-around g.inbox h.inbox j) || held-around j
    where
      al : ℕ
      al = n.alias.0

      t : Option Timed
      t = timed_at n.phase n.waiting.reply

      own : (c : Bool) → c ≡ true → OutTo b (cond c t None) (g.waiting al) → timed_old i o t (g.waiting al % round) ≡ timed_old i o t (g.waiting al)
      own true e k = timed-around i o t (g.waiting al) k
      own false e k = absurd (false≢true e)

      go : (u : Bool) → OutTo b (timed_in (cond u (held al t ∷ []) []) al) (g.waiting al)
          → held_old i o (cond u (held al t ∷ []) []) (λ a. g.waiting a % round) ≡ held_old i o (cond u (held al t ∷ []) []) g.waiting
      go true k = ap (λ (x : Bool). x || false) (own (eqb al al) (eq-eqb al al refl) k)
      go false k = refl

      held-around : held_old i o (held_of n) (λ a. g.waiting a % round) ≡ held_old i o (held_of n) g.waiting
      held-around = go (uses n.phase) (h.waiting al)

  pub old-around : (i o n : ℕ) (S : Segment) (G : ℕ → Ages) → ((k : ℕ) → k < n → InLimit b b (S.at k).node (G k))
      → old i o n S (all_around G) ≡ old i o n S G
  old-around i o n S G h = old-ext i o n S (all_around G) G (λ k l. at-around i o (S.at k).node (G k) (h k l))

-- NO FRAME IS OLDER THAN THE ONE BEFORE IT

under-push : (g : ℕ) (xs : List Item) (f : Frame) → Under g xs → Under g (xs ++ (item f 0 ∷ []))
under-push g [] f u = (omega arith, tt)
under-push g (x ∷ xs) f u = (u.0, under-push g xs f u.1)

ordered-push : (xs : List Item) (f : Frame) → OldestFirst xs → OldestFirst (xs ++ (item f 0 ∷ []))
ordered-push [] f h = (tt, tt)
ordered-push (x ∷ xs) f h = (under-push x.age xs f h.0, ordered-push xs f h.1)

ordered-rest : (xs : List Item) → OldestFirst xs → OldestFirst (rest xs)
ordered-rest [] h = tt
ordered-rest (x ∷ xs) h = h.1

pub ordered-by : (e : Effect) (x : Cell) → OldestFirst x.inbox → OldestFirst (cell_by e x).inbox
ordered-by stays x h = h
ordered-by (becomes m) x h = h
ordered-by (begins m) x h = tt
ordered-by (reads m) x h = ordered-rest x.inbox h
ordered-by (gets f) x h = ordered-push x.inbox f h

-- a tick later
module _ (b : ℕ) (lo : b + 1 < round) where
  under-later : (g : ℕ) (xs : List Item) → g ≤ b → Under g xs → Under (later g) (map later_item xs)
  under-later g [] l u = tt
  under-later g (x ∷ xs) l u = (omega (arith, u.0), under-later g xs l u.1)

  pub ordered-later : (xs : List Item) → AgesTo b (map age_in xs) → OldestFirst xs → OldestFirst (map later_item xs)
  ordered-later [] u h = tt
  ordered-later (x ∷ xs) u h = (under-later x.age xs u.0 h.0, ordered-later xs u.1 h.1)

-- so the first frame has the greatest age
module _ (b : ℕ) where
  under_up : (g : ℕ) (xs : List Item) → Under g xs → g ≤ b → AgesTo b (map age_in xs)
  under_up g [] u l = tt
  under_up g (x ∷ xs) u l = (omega (arith, u.0), under_up g xs u.1 l)

  first-up : (xs : List Item) → OldestFirst xs → first_age xs ≤ b → AgesTo b (map age_in xs)
  first-up [] f l = tt
  first-up (x ∷ xs) f l = (l, under_up x.age xs f.0 l)

  pub head-limit : (x : Cell) → OldestFirst x.inbox → head_age x ≤ b → InLimit b b x.node (ages_of x)
  head-limit x f l = record { inbox = first-up x.inbox f (omega arith); waiting = λ a. go a (eqb x.node.alias.0 a) refl }
    where
      go : (a : ℕ) (c : Bool) → eqb x.node.alias.0 a ≡ c → OutTo b (timed_for x.node a) (x.age a)
      go a true e = out-any b (timed_for x.node a) (x.age a) (let q : x.age x.node.alias.0 ≡ x.age a = ap x.age (eqb-true _ a e) in omega arith)
      go a false e = subst (λ (t : Option Timed). OutTo b t (x.age a)) (timed-other x.node a e) tt
