-- Laws of limits: how far ages can have grown, also where no time passes; and that the rules' tests say the same.
use Rattle.std.specs.Prelude.{◌≡◌, refl, ◌≢◌, Bool, true, false, cond, ◌||◌, List, [], ◌∷◌, ◌++◌, map, ℕ, zero, suc, ◌+◌, ◌<◌, ◌≤◌, ltb, eqb, Option, Some, None}
use Rattle.std.proofs.Common.{sym, ap, subst, ◌∙◌, arith, not-suc-le-zero, le-ltb, ltb-false, eq-eqb, eqb-true}
use Rattle.std.proofs.lemmas.Bool.{false≢true, eqb-false}
use Rattle.std.proofs.Math.Bool.{or-true}
use Rattle.node.specs.Rules.{uses, timed_at, HeldAlias, held, held_of, timed_in, timed_for}
use Rattle.node.proofs.Laws.{neither}
use Rattle.node.specs.declared.Node.{Node}
use Rattle.state.specs.declared.Timed.{Timed}
use Rattle.state.specs.declared.Timed.TheVariants.{Reply, Amr}
use Rattle.segment_rules.specs.Rules.{Place, Segment, Effect, stays, becomes, begins, reads, gets, rest, place_by, Ages, ages, ages_on, ages_by, pass_age, passes, any_old, timed_old, held_old, old_at, old}
use Rattle.segment_rules.specs.Limits.{AgesTo, OutTo, InLimit}

-- TIME THAT DOES NOT PASS

pub passes-0 : (n : Node) (g : Ages) → passes 0 n g ≡ g
passes-0 n g = λ j. ages (inbox g.inbox j) (λ a. waiting (timed_for n a) (g.waiting a) j)
  where
    inbox : (gs : List ℕ) → map (λ x. x + 0) gs ≡ gs
    inbox [] = refl
    inbox (x ∷ gs) = let e : x + 0 ≡ x = omega arith in λ j. e j ∷ inbox gs j

    waiting : (t : Option Timed) (x : ℕ) → pass_age 0 t x ≡ x
    waiting None x = refl
    waiting (Some Reply) x = omega arith
    waiting (Some Amr) x = omega arith

-- HOW FAR AGES CAN HAVE GROWN

both_false : (a b : Bool) → a ≡ false → b ≡ false → (a || b) ≡ false
both_false a b p q = λ j. p j || q j

to-rest : (i : ℕ) (gs : List ℕ) → AgesTo i gs → AgesTo i (rest gs)
to-rest i [] h = tt
to-rest i (g ∷ gs) h = h.1

to-push : (i : ℕ) (gs : List ℕ) → AgesTo i gs → AgesTo i (gs ++ (0 ∷ []))
to-push i [] h = (omega arith, tt)
to-push i (g ∷ gs) h = (h.0, to-push i gs h.1)

out-on : (o : ℕ) (t u : Option Timed) (x : ℕ) → OutTo o t x → OutTo o u (ages_on t u x)
out-on o t None x h = tt
out-on o None (Some Reply) x h = omega arith
out-on o None (Some Amr) x h = omega arith
out-on o (Some Reply) (Some Reply) x h = h
out-on o (Some Reply) (Some Amr) x h = omega arith
out-on o (Some Amr) (Some Reply) x h = omega arith
out-on o (Some Amr) (Some Amr) x h = h

pub out-any : (o : ℕ) (t : Option Timed) (x : ℕ) → x ≤ o → OutTo o t x
out-any o None x h = tt
out-any o (Some Reply) x h = h
out-any o (Some Amr) x h = h

module _ (i o : ℕ) where
  pub limit-by : (e : Effect) (p : Place) (g : Ages) → InLimit i o p.node g → InLimit i o (place_by e p).node (ages_by e p.node g)
  limit-by stays p g h = h
  limit-by (becomes m) p g h = record { inbox = h.inbox; waiting = λ a. out-on o (timed_for p.node a) (timed_for m a) (g.waiting a) (h.waiting a) }
  limit-by (begins m) p g h = record { inbox = tt; waiting = λ a. out-any o (timed_for m a) 0 (omega arith) }
  limit-by (reads m) p g h = record {
    inbox = to-rest i g.inbox h.inbox;
    waiting = λ a. out-on o (timed_for p.node a) (timed_for m a) (g.waiting a) (h.waiting a);
  }
  limit-by (gets f) p g h = record { inbox = to-push i g.inbox h.inbox; waiting = h.waiting }

  pub limit-passes : (d : ℕ) (n : Node) (g : Ages) → InLimit i o n g → InLimit (i + d) (o + d) n (passes d n g)
  limit-passes d n g h = record { inbox = go g.inbox h.inbox; waiting = λ a. timed (timed_for n a) (g.waiting a) (h.waiting a) }
    where
      go : (gs : List ℕ) → AgesTo i gs → AgesTo (i + d) (map (λ x. x + d) gs)
      go [] h = tt
      go (x ∷ gs) h = (omega (arith, h.0), go gs h.1)

      timed : (t : Option Timed) (x : ℕ) → OutTo o t x → OutTo (o + d) t (pass_age d t x)
      timed None x h = tt
      timed (Some Reply) x h = omega arith
      timed (Some Amr) x h = omega arith

  pub limit-more : (i' o' : ℕ) → i ≤ i' → o ≤ o' → (n : Node) (g : Ages) → InLimit i o n g → InLimit i' o' n g
  limit-more i' o' li lo n g h = record { inbox = go g.inbox h.inbox; waiting = λ a. timed (timed_for n a) (g.waiting a) (h.waiting a) }
    where
      go : (gs : List ℕ) → AgesTo i gs → AgesTo i' gs
      go [] h = tt
      go (x ∷ gs) h = (omega (arith, h.0), go gs h.1)

      timed : (t : Option Timed) (x : ℕ) → OutTo o t x → OutTo o' t x
      timed None x h = tt
      timed (Some Reply) x h = omega arith
      timed (Some Amr) x h = omega arith

  -- AS THE RULES' TESTS SAY IT

  any-test : (gs : List ℕ) → AgesTo i gs → any_old i o gs ≡ false
  any-test [] h = refl
  any-test (g ∷ gs) h = both_false _ _ (le-ltb i g h.0) (any-test gs h.1)

  test-any : (gs : List ℕ) → any_old i o gs ≡ false → AgesTo i gs
  test-any [] e = tt
  test-any (g ∷ gs) e = let c = neither (ltb i g) (any_old i o gs) e in (ltb-false i g c.0, test-any gs c.1)

  timed-test : (t : Option Timed) (x : ℕ) → OutTo o t x → timed_old i o t x ≡ false
  timed-test None x h = refl
  timed-test (Some Reply) x h = le-ltb o x h
  timed-test (Some Amr) x h = le-ltb o x h

  test-timed : (t : Option Timed) (x : ℕ) → timed_old i o t x ≡ false → OutTo o t x
  test-timed None x e = tt
  test-timed (Some Reply) x e = ltb-false o x e
  test-timed (Some Amr) x e = ltb-false o x e

  held_test : (n : Node) (w : ℕ → ℕ) → ((a : ℕ) → OutTo o (timed_for n a) (w a)) → held_old i o (held_of n) w ≡ false
  held_test n w h = go (uses n.phase) (h al)
    where
      al : ℕ
      al = n.alias.0

      t : Option Timed
      t = timed_at n.phase n.waiting.reply

      own : (c : Bool) → c ≡ true → OutTo o (cond c t None) (w al) → timed_old i o t (w al) ≡ false
      own true e k = timed-test t (w al) k
      own false e k = absurd (false≢true e)

      go : (u : Bool) → OutTo o (timed_in (cond u (held al t ∷ []) []) al) (w al) → held_old i o (cond u (held al t ∷ []) []) w ≡ false
      go true k = both_false _ _ (own (eqb al al) (eq-eqb al al refl) k) refl
      go false k = refl

  test-held : (a : ℕ) (hs : List HeldAlias) (w : ℕ → ℕ) → held_old i o hs w ≡ false → OutTo o (timed_in hs a) (w a)
  test-held a [] w e = tt
  test-held a (h ∷ hs) w e =
      let c = neither (timed_old i o h.timed (w h.alias)) (held_old i o hs w) e in
      go (eqb h.alias a) refl c.0 (test-held a hs w c.1)
    where
      go : (b : Bool) → eqb h.alias a ≡ b → timed_old i o h.timed (w h.alias) ≡ false → OutTo o (timed_in hs a) (w a)
          → OutTo o (cond b h.timed (timed_in hs a)) (w a)
      go true q z k = test-timed h.timed (w a) (ap (λ (x : ℕ). timed_old i o h.timed (w x)) (sym (eqb-true h.alias a q)) ∙ z)
      go false q z k = k

  pub limit-test : (n : Node) (g : Ages) → InLimit i o n g → old_at i o n g ≡ false
  limit-test n g h = both_false _ _ (any-test g.inbox h.inbox) (held_test n g.waiting h.waiting)

  pub test-limit : (n : Node) (g : Ages) → old_at i o n g ≡ false → InLimit i o n g
  test-limit n g e =
      let c = neither (any_old i o g.inbox) (held_old i o (held_of n) g.waiting) e in
      record { inbox = test-any g.inbox c.0; waiting = λ a. test-held a (held_of n) g.waiting c.1 }

pub old-at : (i o n : ℕ) (S : Segment) (G : ℕ → Ages) (k : ℕ) → old i o n S G ≡ false → k < n → old_at i o (S.at k).node (G k) ≡ false
unfolding old
old-at i o zero S G k e h = absurd (not-suc-le-zero h)
old-at i o (suc n) S G k e h = go (eqb k n) refl (λ d. old-at i o n S G k c.1 (omega arith))
  where
    c : (old_at i o (S.at n).node (G n) ≡ false) × (old i o n S G ≡ false)
    c = neither (old_at i o (S.at n).node (G n)) (old i o n S G) e

    go : (b : Bool) → eqb k n ≡ b → (k ≢ n → old_at i o (S.at k).node (G k) ≡ false) → old_at i o (S.at k).node (G k) ≡ false
    go true q r = subst (λ (j : ℕ). old_at i o (S.at j).node (G j) ≡ false) (sym (eqb-true k n q)) c.0
    go false q r = r (eqb-false k n q)

pub old-none : (i o n : ℕ) (S : Segment) (G : ℕ → Ages) → ((k : ℕ) → k < n → old_at i o (S.at k).node (G k) ≡ false) → old i o n S G ≡ false
unfolding old
old-none i o zero S G h = refl
old-none i o (suc n) S G h = λ j. h n (omega arith) j || old-none i o n S G (λ k l. h k (omega arith)) j

pub old-some : (i o n : ℕ) (S : Segment) (G : ℕ → Ages) (k : ℕ) → k < n → old_at i o (S.at k).node (G k) ≡ true → old i o n S G ≡ true
unfolding old
old-some i o zero S G k h e = absurd (not-suc-le-zero h)
old-some i o (suc n) S G k h e = go (eqb k n) refl (λ d. old-some i o n S G k (omega arith) e)
  where
    go : (c : Bool) → eqb k n ≡ c → (k ≢ n → old i o n S G ≡ true) → (old_at i o (S.at n).node (G n) || old i o n S G) ≡ true
    go true q r = ap (λ (x : Bool). x || old i o n S G) (subst (λ (m : ℕ). old_at i o (S.at m).node (G m) ≡ true) (eqb-true k n q) e)
    go false q r = ap (λ (x : Bool). old_at i o (S.at n).node (G n) || x) (r (eqb-false k n q)) ∙ or-true (old_at i o (S.at n).node (G n))

pub old-ext : (i o n : ℕ) (S : Segment) (G H : ℕ → Ages) → ((k : ℕ) → k < n → old_at i o (S.at k).node (G k) ≡ old_at i o (S.at k).node (H k))
    → old i o n S G ≡ old i o n S H
unfolding old
old-ext i o zero S G H h = refl
old-ext i o (suc n) S G H h = λ j. h n (omega arith) j || old-ext i o n S G H (λ k l. h k (omega arith)) j
