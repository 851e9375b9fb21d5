-- What a kept list keeps of every two places, for one alias: the argument of Bus, carried through the list. `Single` says what follows.
use Rattle.std.specs.Prelude.{◌≡◌, Bool, not, cond, ℕ, ◌+◌, ◌*◌, ◌<◌, eqb, length, Option, Some, None}
use Rattle.std.proofs.Math.Path.{refl}
use Rattle.std.proofs.Common.{sym, ap, subst, ◌∙◌, inl, inr, arith, length-append}
use Rattle.std.proofs.Math.Bool.{true, false}
use Rattle.std.proofs.lemmas.Bool.{false≢true}
use mathlib.Core.List.{List, [], ◌∷◌, map}
use Rattle.std.proofs.Math.Dec.{ltb}
use Rattle.std.proofs.lemmas.List.{length-map}
use borrow.Author.Tests.{ltb-true, lt-ltb, not-true, eqb-true, eq-eqb, ne_eqb}
use Rattle.node.specs.Rules as N
use Rattle.node.specs.Rules.{Answer, accepted, refused, Value, done, left, Order, wait, off_node, is_off, tick_of, received, trimmed, on_order, on_leave}
use Rattle.headers.proofs.Laws.{not-accepted, both}
use Rattle.node.specs.Sound.{Sound}
use Rattle.node.proofs.Sound.{off-sound, order-sound, received-sound, event-sound}
use Rattle.node.specs.Stand.{idle, stand, timed_by, Uses, Tests, Tells, Asks, Meets, StaysOrTurns, rests}
use Rattle.node.proofs.EventLaws.{off-stand, timed-stand, tick-stand, order-stand, power-stand, warm-stand, received-stand, leaves-stand}
use Rattle.headers.specs.declared.frame.Frame.{Frame}
use Rattle.node.specs.declared.Node.{Node}
use Rattle.state.specs.declared.Timed.{Timed}
use Rattle.claim.specs.EachNode.{OrderAt, each-node}
use Rattle.claim.proofs.Bus.{Step, local, sent, passed as passes_on, Inv, Emits, Gets, Passes, Kept, local-refl, gets-local, step-inv}
use Rattle.claim.specs.Sight.{ages_between, Heard}
use Rattle.claim.proofs.Sight.{Sight, sight, talk, InTime, keeps, Alone, stayed, turned, gone, got, shut, grown, emits}
use Rattle.segment_rules.specs.Rules.{places, Place, place, Segment, start, blank, Act, orders, delivers, Command, one, send, tick, foreign, choose, read_out, answer_at, answer, Effect, stays, becomes, begins, reads, gets, rest, place_by, empties, order_by, delivered, effect_at, joins, sent_by, effect, carry, step_by, step, run, Ages, ages, none, ages_on, goes_on, ages_by, pass_age, passes, age_by, ticks, old_at, old, age_step, aged, kept, no_ages}
use Rattle.segment_rules.proofs.Passed.{inside, then-passed, one-passed}
use Rattle.segment_rules.specs.Limits.{OutTo}
use Rattle.segment_rules.proofs.LimitLaws.{passes-0, test-limit, old-at}
use Rattle.claim.specs.Single.{AllSound, Matched}

module _ (S : Segment) (h : AllSound S) where
  sound-effect : (c : Command) (k : ℕ) → Sound (place_by (effect S c k) (S.at k)).node
  sound-effect c k =
      each-node (λ n m. Sound n → Sound m) (λ n s. s) (λ n f s. received-sound n s f) (λ n s. event-sound n s wait N.leave) (λ n s. event-sound n s wait N.tick)
      S c k (ordered c) (h k)
    where
      ordered : (c : Command) → OrderAt c k (λ x. Sound (S.at k).node → Sound (on_order wait (S.at k).node x).node)
      ordered (one n (orders x)) = λ e s. order-sound (S.at k).node s wait x
      ordered (one n delivers) = tt
      ordered (send n) = tt
      ordered tick = tt
      ordered (foreign f) = tt
      ordered choose = tt
      ordered (read_out n) = tt

  pub sound-step : (c : Command) → AllSound (step S c)
  sound-step c k = go (answer S c)
    where
      at : (b : Bool) → Sound (cond b (place_by (effect S c k) (S.at k)) (S.at k)).node
      at true = sound-effect c k
      at false = h k

      go : (a : Answer Value) → Sound ((step_by a S c).at k).node
      go (accepted v) = at (ltb k places)
      go (refused number) = h k

abbrev AllMatched : Segment → (ℕ → Ages) → Type 0
AllMatched S G = (k : ℕ) → Matched (S.at k) (G k)

rest-length : {A B : Type 0} (xs : List A) (ys : List B) → length xs ≡ length ys → length (rest xs) ≡ length (rest ys)
rest-length [] [] e = refl
rest-length [] (y ∷ ys) e = absurd (omega (arith, e))
rest-length (x ∷ xs) [] e = absurd (omega (arith, e))
rest-length (x ∷ xs) (y ∷ ys) e = omega (arith, e)

matched-by : (e : Effect) (p : Place) (g : Ages) → Matched p g → Matched (place_by e p) (ages_by e p.node g)
matched-by stays p g h = h
matched-by (becomes m) p g h = h
matched-by (begins m) p g h = refl
matched-by (reads m) p g h = rest-length p.inbox g.inbox h
matched-by (gets f) p g h = length-append p.inbox (f ∷ []) ∙ ap (λ (x : ℕ). x + 1) h ∙ sym (length-append g.inbox (0 ∷ []))

-- HOW A PLACE IS SEEN

-- an order that empties the inbox starts anew
emptied-idle : (n : Node) (a : ℕ) (x : Order) (v : Value) → empties x ≡ true → (on_order wait n x).answer ≡ accepted v
    → stand (on_order wait n x).node a ≡ idle
emptied-idle n a (N.power_on id) v e q = power-stand n a id v q
emptied-idle n a N.fail v e q = absurd (false≢true e)
emptied-idle n a (N.message f l b) v e q = absurd (false≢true e)
emptied-idle n a (N.enquiry l b) v e q = absurd (false≢true e)
emptied-idle n a N.release v e q = absurd (false≢true e)
emptied-idle n a (N.link s) v e q = absurd (false≢true e)
emptied-idle n a (N.warm_on id flag x) v e q = warm-stand n a id flag x v q

module _ (i o a : ℕ) where
  abbrev pub sight_of : Place → Ages → Sight
  sight_of p g = sight (stand p.node a) (g.waiting a) p.inbox g.inbox

  -- with another node, its age going on
  sight-after : (p : Place) (g : Ages) (m : Node) (xs : List Frame) (gs : List ℕ)
      → sight_of (place m xs) (ages gs (goes_on p.node m g.waiting))
      ≡ sight (stand m a) (ages_between (stand p.node a) (stand m a) (g.waiting a)) xs gs
  sight-after p g m xs gs =
      λ j. sight (stand m a) (ages_on (timed-stand p.node a j) (timed-stand m a j) (g.waiting a)) xs gs

  module _ (p : Place) (g : Ages) (y : InTime i o a (sight_of p g)) where
    becomes-alone : (m : Node) → StaysOrTurns (stand p.node a) (stand m a)
        → Alone i o a (sight_of p g) (sight_of (place_by (becomes m) p) (ages_by (becomes m) p.node g))
    becomes-alone m (inl e) =
        rw (sight-after p g m p.inbox g.inbox, e)
        (stayed i o a (stand p.node a) (g.waiting a) p.inbox p.inbox g.inbox g.inbox (λ x h. h) (λ x h. h))
    becomes-alone m (inr t) =
        rw (sight-after p g m p.inbox g.inbox) (turned i o a (g.waiting a) p.inbox p.inbox g.inbox g.inbox t y)

  begins-alone : (p : Place) (g : Ages) (m : Node) → stand m a ≡ idle
      → Alone i o a (sight_of p g) (sight_of (place_by (begins m) p) (ages_by (begins m) p.node g))
  begins-alone p g m e = rw e (gone i o a (sight_of p g) 0 [] [])

  -- the rest of an inbox, where its first frame is not under the alias
  heard-rest : (Q : Frame → Type 0) (f : Frame) (fs : List Frame) (gs : List ℕ) (x : ℕ) → (Q f → ⊥) → Heard Q (f ∷ fs) gs x → Heard Q fs (rest gs) x
  heard-rest Q f fs [] x nt h = absurd h
  heard-rest Q f fs (y ∷ gs) x nt (inl h) = absurd (nt h.0)
  heard-rest Q f fs (y ∷ gs) x nt (inr h) = h

  reads-alone : (n : Node) (fs : List Frame) (g : Ages) → InTime i o a (sight_of (place n fs) g)
      → Alone i o a (sight_of (place n fs) g)
      (sight_of (place_by (reads (delivered fs n)) (place n fs)) (ages_by (reads (delivered fs n)) n g))
  reads-alone n [] g y =
      rw (sight-after (place n []) g n [] (rest g.inbox))
      (stayed i o a (stand n a) (g.waiting a) [] [] g.inbox (rest g.inbox) (λ x h. absurd h) (λ x h. absurd h))
  reads-alone n (f ∷ fs) g y = go (received-stand n a f)
    where
      p : Place
      p = place n (f ∷ fs)

      m : Node
      m = received n f

      go : Meets a f (stand n a) (stand m a)
          → Alone i o a (sight_of p g) (sight_of (place m fs) (ages (rest g.inbox) (goes_on n m g.waiting)))
      go (inl (nt, e)) =
          rw (sight-after p g m fs (rest g.inbox), e)
          (stayed i o a (stand n a) (g.waiting a) (f ∷ fs) fs g.inbox (rest g.inbox)
          (λ x h. heard-rest (Tells a) f fs g.inbox x nt h)
          (λ x h. heard-rest (Asks a) f fs g.inbox x (λ (q : Asks a f). nt q.0) h))
      go (inr t) = rw (sight-after p g m fs (rest g.inbox)) (turned i o a (g.waiting a) (f ∷ fs) fs g.inbox (rest g.inbox) t y)

  joins-gets : (f : Frame) (p : Place) (g : Ages) → Matched p g
      → Gets Sight Frame (talk i o a) f (sight_of p g) (sight_of (place_by (joins f p) p) (ages_by (joins f p) p.node g))
  joins-gets f p g h = go (is_off p.node.phase) refl
    where
      go : (b : Bool) → is_off p.node.phase ≡ b
          → Gets Sight Frame (talk i o a) f (sight_of p g) (sight_of (place_by (cond b stays (gets f)) p) (ages_by (cond b stays (gets f)) p.node g))
      go true e = rw (off-stand p.node a e) (shut i o a (g.waiting a) p.inbox g.inbox f)
      go false e = got i o a (stand p.node a) (g.waiting a) p.inbox g.inbox f h

  -- WHICH WAY EACH COMMAND TAKES

  -- beyond the places nobody is
  abbrev pub nobody : Sight
  nobody = sight idle 0 [] []

  abbrev pub sight_at : Segment → (ℕ → Ages) → ℕ → Sight
  sight_at S G k = cond (ltb k places) (sight_of (S.at k) (G k)) nobody

  same : (p : Sight) → Alone i o a p p
  same p = local-refl Sight Frame (talk i o a) p

  abbrev StepTo : Segment → (ℕ → Ages) → Segment → (ℕ → Ages) → Type 0
  StepTo S G T H = Step Sight Frame (talk i o a) i o wait (sight_at S G) (sight_at T H)

  module _ (S : Segment) (G : ℕ → Ages) (sound : AllSound S) (match : AllMatched S G)
      (fine : (k : ℕ) → k < places → InTime i o a (sight_of (S.at k) (G k))) where
    -- at each place, from the place alone
    by_place : (R : Sight → Sight → Type 0) → R nobody nobody → (X : ℕ → Place) (Y : ℕ → Ages) (k : ℕ)
        → (k < places → R (sight_of (S.at k) (G k)) (sight_of (X k) (Y k)))
        → R (sight_at S G k) (cond (ltb k places) (sight_of (cond (ltb k places) (X k) (S.at k)) (cond (ltb k places) (Y k) (G k))) nobody)
    by_place R z X Y k h = go (ltb k places) refl
      where
        go : (b : Bool) → ltb k places ≡ b
            → R (cond b (sight_of (S.at k) (G k)) nobody) (cond b (sight_of (cond b (X k) (S.at k)) (cond b (Y k) (G k))) nobody)
        go true e = h (ltb-true k places e)
        go false e = z

    act-alone : (k : ℕ) (x : Act) (v : Value) → k < places → answer_at (S.at k) x ≡ accepted v
        → Alone i o a (sight_of (S.at k) (G k)) (sight_of (place_by (effect_at (S.at k) x) (S.at k)) (ages_by (effect_at (S.at k) x) (S.at k).node (G k)))
    act-alone k (orders x) v h e = go (empties x) refl
      where
        m : Node
        m = (on_order wait (S.at k).node x).node

        go : (b : Bool) → empties x ≡ b
            → Alone i o a (sight_of (S.at k) (G k)) (sight_of (place_by (order_by b m) (S.at k)) (ages_by (order_by b m) (S.at k).node (G k)))
        go true q = begins-alone (S.at k) (G k) m (emptied-idle (S.at k).node a x v q e)
        go false q = becomes-alone (S.at k) (G k) (fine k h) m (order-stand (S.at k).node a wait x)
    act-alone k delivers v h e = reads-alone (S.at k).node (S.at k).inbox (G k) (fine k h)

    -- where no time passes
    unpassed : (R : Sight → Type 0) (q : Place) (h : Ages) → R (sight_of q h) → R (sight_of q (passes 0 q.node h))
    unpassed R q h r = subst (λ (x : Ages). R (sight_of q x)) (sym (passes-0 q.node h)) r

    abbrev now : Command → ℕ → Place
    now c k = place_by (effect S c k) (S.at k)

    abbrev now_ages : ℕ → Command → ℕ → Ages
    now_ages d c k = passes d (now c k).node (ages_by (effect S c k) (S.at k).node (G k))

    one-step : (n : ℕ) (x : Act) (v : Value) → answer S (one n x) ≡ accepted v
        → StepTo S G (carry S (one n x)) (age_by 0 (accepted v) S G (one n x))
    one-step n x v e =
        local (λ k. by_place (Alone i o a) (same nobody) (now (one n x)) (now_ages 0 (one n x)) k (λ h. go k h (eqb k n) refl))
      where
        q : answer_at (S.at n) x ≡ accepted v
        q = (one-passed S n x v e).1

        go : (k : ℕ) → k < places → (b : Bool) → eqb k n ≡ b → let f = cond b (effect_at (S.at k) x) stays in
            Alone i o a (sight_of (S.at k) (G k))
            (sight_of (place_by f (S.at k)) (passes 0 (place_by f (S.at k)).node (ages_by f (S.at k).node (G k))))
        go k h true r =
            unpassed (Alone i o a (sight_of (S.at k) (G k))) (place_by (effect_at (S.at k) x) (S.at k)) (ages_by (effect_at (S.at k) x) (S.at k).node (G k))
            (act-alone k x v h (subst (λ (j : ℕ). answer_at (S.at j) x ≡ accepted v) (sym (eqb-true k n r)) q))
        go k h false r = unpassed (Alone i o a (sight_of (S.at k) (G k))) (S.at k) (G k) (same (sight_of (S.at k) (G k)))

    -- a frame reaches a place
    reached : (f : Frame) (k : ℕ) → let x = joins f (S.at k) in
        Gets Sight Frame (talk i o a) f (sight_of (S.at k) (G k))
        (sight_of (place_by x (S.at k)) (passes 0 (place_by x (S.at k)).node (ages_by x (S.at k).node (G k))))
    reached f k =
        unpassed (Gets Sight Frame (talk i o a) f (sight_of (S.at k) (G k)))
        (place_by (joins f (S.at k)) (S.at k))
        (ages_by (joins f (S.at k)) (S.at k).node (G k))
        (joins-gets f (S.at k) (G k) (match k))

    foreign-step : (f : Frame) (v : Value) → StepTo S G (carry S (foreign f)) (age_by 0 (accepted v) S G (foreign f))
    foreign-step f v =
        local (λ k. by_place (Alone i o a) (same nobody) (now (foreign f)) (now_ages 0 (foreign f)) k (λ h.
        gets-local Sight Frame (talk i o a) (trimmed f) _ _ (reached (trimmed f) k)))

    -- a choice and a read-out concern no place
    still-step : (c : Command) (v : Value) → ((k : ℕ) → effect S c k ≡ stays) → StepTo S G (carry S c) (age_by 0 (accepted v) S G c)
    still-step c v q =
        local (λ k. by_place (Alone i o a) (same nobody) (now c) (now_ages 0 c) k (λ h.
        subst (λ (e : Effect). Alone i o a (sight_of (S.at k) (G k)) (sight_of (place_by e (S.at k)) (passes 0 (place_by e (S.at k)).node (ages_by e (S.at k).node (G k))))) (sym (q k))
        (unpassed (Alone i o a (sight_of (S.at k) (G k))) (S.at k) (G k) (same (sight_of (S.at k) (G k))))))

    tick-step : (v : Value) → StepTo S G (carry S tick) (age_by 1 (accepted v) S G tick)
    tick-step v =
        passes_on 1 (λ k. by_place (Passes Sight Frame (talk i o a) 1) (grown i o a 1 0 [] [] (rests idle)) (now tick) (now_ages 1 tick) k (λ h. go k))
      where
        go : (k : ℕ) → Passes Sight Frame (talk i o a) 1 (sight_of (S.at k) (G k)) (sight_of (now tick k) (now_ages 1 tick k))
        go k = subst (Passes Sight Frame (talk i o a) 1 (sight_of (S.at k) (G k))) (sym e)
            (grown i o a 1 ((G k).waiting a) (S.at k).inbox (G k).inbox (tick-stand n a wait))
          where
            n : Node
            n = (S.at k).node

            m : Node
            m = tick_of wait n

            e : sight_of (now tick k) (now_ages 1 tick k)
                ≡ sight (stand m a) (pass_age 1 (timed_by (stand m a)) (ages_between (stand n a) (stand m a) ((G k).waiting a))) (S.at k).inbox (map (λ x. x + 1) (G k).inbox)
            e = λ j. sight (stand m a) (pass_age 1 (timed-stand m a j) (ages_on (timed-stand n a j) (timed-stand m a j) ((G k).waiting a)))
                (S.at k).inbox (map (λ x. x + 1) (G k).inbox)

    -- a send
    module _ (n : ℕ) (hn : n < places) (f : Frame) (e : (on_leave wait (S.at n).node).answer ≡ accepted (left f)) where
      abbrev m : Node
      m = (on_leave wait (S.at n).node).node

      sent-from : Emits Sight Frame (talk i o a) i o wait f (sight_of (S.at n) (G n))
          (sight_of (place m (S.at n).inbox) (passes 0 m (ages_by (becomes m) (S.at n).node (G n))))
      sent-from =
          unpassed (Emits Sight Frame (talk i o a) i o wait f (sight_of (S.at n) (G n)))
          (place m (S.at n).inbox)
          (ages_by (becomes m) (S.at n).node (G n))
          (subst (Emits Sight Frame (talk i o a) i o wait f (sight_of (S.at n) (G n))) (sym (sight-after (S.at n) (G n) m (S.at n).inbox (G n).inbox))
          (emits i o a wait f ((G n).waiting a) (S.at n).inbox (G n).inbox (leaves-stand wait (S.at n).node (sound n) f e a) (fine n hn)))

      sent-step : (v : Value) → StepTo S G (carry S (send n)) (age_by 0 (accepted v) S G (send n))
      sent-step v = sent n f (own (ltb n places) (eqb n n) (lt-ltb n places hn) (eq-eqb n n refl) (on_leave wait (S.at n).node).answer e) (λ k d. by_place (Gets Sight Frame (talk i o a) f) (shut i o a 0 [] [] f) (now (send n)) (now_ages 0 (send n)) k (λ h. other k (eqb k n) (ne_eqb k n d) (on_leave wait (S.at n).node).answer e))
        where
          own : (b c : Bool) → b ≡ true → c ≡ true → (x : Answer Value) → x ≡ accepted (left f)
              → let y = sent_by x m c (S.at n) in
              Emits Sight Frame (talk i o a) i o wait f (cond b (sight_of (S.at n) (G n)) nobody)
              (cond b (sight_of (cond b (place_by y (S.at n)) (S.at n)) (cond b (passes 0 (place_by y (S.at n)).node (ages_by y (S.at n).node (G n))) (G n))) nobody)
          own b c p q x r = rw (p, q, r) sent-from

          other : (k : ℕ) (c : Bool) → c ≡ false → (x : Answer Value) → x ≡ accepted (left f)
              → let y = sent_by x m c (S.at k) in
              Gets Sight Frame (talk i o a) f (sight_of (S.at k) (G k)) (sight_of (place_by y (S.at k)) (passes 0 (place_by y (S.at k)).node (ages_by y (S.at k).node (G k))))
          other k c q x r = rw (q, r) (reached f k)

    carried : (c : Command) (v : Value) → answer S c ≡ accepted v → StepTo S G (carry S c) (age_by (ticks c) (accepted v) S G c)
    carried (one n x) v e = one-step n x v e
    carried (send n) v e = go (on_leave wait (S.at n).node).answer refl
      where
        q : n < places
        q = (inside n _ v e).0

        go : (x : Answer Value) → (on_leave wait (S.at n).node).answer ≡ x → StepTo S G (carry S (send n)) (age_by 0 (accepted v) S G (send n))
        go (accepted (left f)) r = sent-step n q f r v
        go (accepted done) r = local (λ k. still k (on_leave wait (S.at n).node).answer r)
          where
            still : (k : ℕ) (x : Answer Value) → x ≡ accepted done → let y = sent_by x (on_leave wait (S.at n).node).node (eqb k n) (S.at k) in
                Alone i o a (sight_at S G k)
                (cond (ltb k places) (sight_of (cond (ltb k places) (place_by y (S.at k)) (S.at k))
                (cond (ltb k places) (passes 0 (place_by y (S.at k)).node (ages_by y (S.at k).node (G k))) (G k))) nobody)
            still k x z = rw z (by_place (Alone i o a) (same nobody) S.at (λ j. passes 0 (S.at j).node (G j)) k
                (λ h. unpassed (Alone i o a (sight_of (S.at k) (G k))) (S.at k) (G k) (same (sight_of (S.at k) (G k)))))
        go (refused number) r = absurd (refused-send number r)
          where
            refused-send : (number : ℕ) → (on_leave wait (S.at n).node).answer ≡ refused number → ⊥
            refused-send number r = not-accepted number v (sym r ∙ (then-passed (on_leave wait (S.at n).node).answer _ _ v (inside n _ v e).1).0)
    carried tick v e = tick-step v
    carried (foreign f) v e = foreign-step f v
    carried choose v e = still-step choose v (λ k. refl)
    carried (read_out n) v e = still-step (read_out n) v (λ k. refl)

    stepped : (c : Command) → StepTo S G (step S c) (age_step ticks S G c)
    stepped c = go (answer S c) refl
      where
        go : (x : Answer Value) → answer S c ≡ x → StepTo S G (step_by x S c) (age_by (ticks c) x S G c)
        go (accepted v) e = carried c v e
        go (refused number) e = local (λ k. same (sight_at S G k))

-- LISTS

matched-step : (S : Segment) (G : ℕ → Ages) → AllMatched S G → (c : Command) → AllMatched (step S c) (age_step ticks S G c)
matched-step S G h c k = go (answer S c)
  where
    by : (b : Bool) → let e = effect S c k in
        Matched (cond b (place_by e (S.at k)) (S.at k)) (cond b (passes (ticks c) (place_by e (S.at k)).node (ages_by e (S.at k).node (G k))) (G k))
    by true = matched-by (effect S c k) (S.at k) (G k) (h k) ∙ sym (length-map (ages_by (effect S c k) (S.at k).node (G k)).inbox (λ x. x + ticks c))
    by false = h k

    go : (x : Answer Value) → Matched ((step_by x S c).at k) (age_by (ticks c) x S G c k)
    go (accepted v) = by (ltb k places)
    go (refused number) = h k

-- no age at a place exceeds its limit
in-time : (i o a : ℕ) (p : Place) (g : Ages) → old_at i o p.node g ≡ false → InTime i o a (sight_of i o a p g)
in-time i o a p g e =
    let h = test-limit i o p.node g e in
    record { box = h.inbox; out = subst (λ (t : Option Timed). OutTo o t (g.waiting a)) (timed-stand p.node a) (h.waiting a) }

pub sound-start : AllSound start
sound-start k = off-sound

module _ (i o a : ℕ) where
  abbrev InvOf : Segment → (ℕ → Ages) → Type 0
  InvOf S G = Inv Sight Frame (talk i o a) i o wait (sight_at i o a S G)

  pub start-inv : InvOf start no_ages
  start-inv = record {
    single = λ p q ne u v. no-user (ltb p places) u;
    cross = λ p q w ne u h. absurd (no-user (ltb p places) u);
    both = λ p q w v ne h k. absurd (no-tester w (ltb p places) h);
  }
    where
      off : stand off_node a ≡ idle
      off = off-stand off_node a (unfold off_node in refl)

      no-user : (b : Bool) → Uses (cond b (sight_of i o a blank none) (nobody i o a)).stand → ⊥
      no-user true u = rw off at u
      no-user false u = u

      no-tester : (w : ℕ) (b : Bool) → Tests (cond b (sight_of i o a blank none) (nobody i o a)).stand w → ⊥
      no-tester w true h = rw off at h
      no-tester w false h = h

  module _ (fits : 2 * i + o < wait) (fits' : i + 2 * o < wait) where
    pub run-inv : (cs : List Command) (S : Segment) (G : ℕ → Ages) → AllSound S → AllMatched S G → InvOf S G → kept ticks i o S G cs ≡ true
        → InvOf (run S cs) (aged ticks S G cs)
    unfolding run aged kept
    run-inv [] S G sound match inv e = inv
    run-inv (c ∷ cs) S G sound match inv e =
        let y = both (not (old i o places S G)) (kept ticks i o (step S c) (age_step ticks S G c) cs) e in
        let limits = not-true (old i o places S G) y.0 in
        let fine : (k : ℕ) → k < places → InTime i o a (sight_of i o a (S.at k) (G k)) =
        λ k h. in-time i o a (S.at k) (G k) (old-at i o places S G k limits h) in
        run-inv cs (step S c) (age_step ticks S G c) (sound-step S sound c) (matched-step S G match c)
        (step-inv Sight Frame (talk i o a) i o wait (omega arith) (omega arith) (sight_at i o a S G) (sight_at i o a (step S c) (age_step ticks S G c))
        (λ k. at_each k (ltb k places) refl (fine k)) (stepped i o a S G sound match fine c) inv)
        y.1
      where
        at_each : (k : ℕ) (b : Bool) → ltb k places ≡ b → (k < places → InTime i o a (sight_of i o a (S.at k) (G k)))
            → Kept Sight Frame (talk i o a) i o wait (cond b (sight_of i o a (S.at k) (G k)) (nobody i o a))
        at_each k true q h = keeps i o a wait (sight_of i o a (S.at k) (G k)) (h (ltb-true k places q))
        at_each k false q h = keeps i o a wait (nobody i o a) (record { box = tt; out = tt })

-- what holds where all nodes are Off, and after a command where it held before, holds after every list
pub after_list : (P : Segment → Type 0) → ((S : Segment) → P S → (c : Command) → P (step S c)) → P start → (cs : List Command) → P (run start cs)
unfolding run
after_list P keep h cs = on cs start h
  where
    on : (cs : List Command) (S : Segment) → P S → P (run S cs)
    on [] S h = h
    on (c ∷ cs) S h = on cs (step S c) (keep S h c)

pub sound-run : (cs : List Command) → AllSound (run start cs)
sound-run = after_list AllSound sound-step sound-start
