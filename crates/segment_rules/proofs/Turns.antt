-- A.8 over lists: a node that keeps a due frame is chosen within 24 choices, no matter what the others queue or receive; and within
-- 23 it need not be. How many choices a list has, when a node has a due frame at each of them, and when one of them names it, is
-- in specs/Turns.antt; these are to be believed, with what `Within` says.
use Rattle.std.specs.Prelude.{◌≡◌, refl, Bool, true, false, not, cond, ◌||◌, ◌⊎◌, List, [], ◌∷◌, ◌++◌, ℕ, zero, suc, ◌+◌, ◌-◌, ◌%◌, ◌<◌, ◌≤◌, ltb, replicate}
use Rattle.std.proofs.Common.{sym, ap, ◌∙◌, true≢false, inl, inr, ⊎_elim, arith, not-suc-le-zero, ltb-true, ltb-false, eq-eqb}
use Rattle.std.proofs.Math.Bool.{or-true}
use Rattle.headers.proofs.Laws.{not-accepted, both}
use Rattle.node.specs.Rules.{Answer, accepted, refused, Value, done, off_node, fresh, counted, due_of, cid_frame, sent_of, on_power_on, on_leave}
use Rattle.segment_rules.specs.Rules.{places, Segment, start, Command, one, send, tick, foreign, choose, read_out, power_on, Choice, names, nobody, has_due, after, first_due, choice, mark_by, some_other, answer, chose, besides, mark_after, step_by, step, run, answers}
use Rattle.segment_rules.specs.Turns.{is_choice, choices, due_at_each, is_named, named_in, Within, all_on, PassedOver, one_on, four_cids}

-- THE MARK

-- only a choice moves it
unmoved : (S : Segment) (c : Command) → is_choice c ≡ false → mark_after S c ≡ S.mark
unmoved S (one n x) e = refl
unmoved S (send n) e = refl
unmoved S tick e = refl
unmoved S (foreign f) e = refl
unmoved S choose e = absurd (true≢false e)
unmoved S (read_out n) e = refl

mark-step : (S : Segment) (c : Command) → (step S c).mark ≡ mark_after S c
mark-step S c = go (answer S c) refl
  where
    kept : (c : Command) (number : ℕ) → answer S c ≡ refused number → S.mark ≡ mark_after S c
    kept (one n x) number e = refl
    kept (send n) number e = refl
    kept tick number e = refl
    kept (foreign f) number e = refl
    kept choose number e = absurd (not-accepted number done (sym e))
    kept (read_out n) number e = refl

    go : (a : Answer Value) → answer S c ≡ a → (step_by a S c).mark ≡ mark_after S c
    go (accepted v) e = refl
    go (refused number) e = kept c number e

-- A CHOICE names no node beyond the first with a due frame

-- A place so many after j is no further than another.
abbrev UpTo : (j d : ℕ) → Choice → Type 0
UpTo j d x = (e : ℕ) × (e ≤ d) × (x ≡ names ((j + e) % places))

first_found : (S : Segment) (n j d : ℕ) → j < places → d < n → has_due (S.at ((j + d) % places)) ≡ true → UpTo j d (first_due S n j)
unfolding first_due
first_found S zero j d hj l h = absurd (not-suc-le-zero l)
first_found S (suc n) j d hj l h = go (has_due (S.at j)) refl (λ i l h. first_found S n (after j) i (omega arith) l h)
  where
    here : (j + 0) % places ≡ j
    here = omega arith

    shift : (e : ℕ) → (after j + e) % places ≡ (j + suc e) % places
    shift e = omega arith

    further : (d : ℕ) → d < suc n → has_due (S.at j) ≡ false → has_due (S.at ((j + d) % places)) ≡ true
        → ((i : ℕ) → i < n → has_due (S.at ((after j + i) % places)) ≡ true → UpTo (after j) i (first_due S n (after j))) → UpTo j d (first_due S n (after j))
    further zero l q h r = absurd (true≢false (sym h ∙ ap (λ (i : ℕ). has_due (S.at i)) here ∙ q))
    further (suc d) l q h r =
        let x = r d (omega arith) (ap (λ (i : ℕ). has_due (S.at i)) (shift d) ∙ h) in
        (suc x.0, omega (arith, x.1), x.2 ∙ ap names (shift x.0))

    go : (b : Bool) → has_due (S.at j) ≡ b → ((i : ℕ) → i < n → has_due (S.at ((after j + i) % places)) ≡ true → UpTo (after j) i (first_due S n (after j)))
        → UpTo j d (cond b (names j) (first_due S n (after j)))
    go true q r = (0, omega arith, ap names (sym here))
    go false q r = further d l q h r

nobody-named : (k : ℕ) → nobody ≡ names k → ⊥
nobody-named k e = let z : ◌≡◌ {A = ℕ} 0 1 = cc in omega arith

found-due : (S : Segment) (n j k : ℕ) → j < places → first_due S n j ≡ names k → (k < places) × (has_due (S.at k) ≡ true)
unfolding first_due
found-due S zero j k h e = absurd (nobody-named k e)
found-due S (suc n) j k h e = go (has_due (S.at j)) refl e (found-due S n (after j) k (omega arith))
  where
    go : (b : Bool) → has_due (S.at j) ≡ b → cond b (names j) (first_due S n (after j)) ≡ names k
        → (first_due S n (after j) ≡ names k → (k < places) × (has_due (S.at k) ≡ true)) → (k < places) × (has_due (S.at k) ≡ true)
    go true q e r =
        let is : j ≡ k = ap (λ (x : Choice). mark_by x 0) e in
        (omega (arith, is), ap (λ (i : ℕ). has_due (S.at i)) (sym is) ∙ q)
    go false q e r = r e

-- Who is named is one of the 24 and has a due frame, so that its send is refused by 5 at most.
pub named-due : (S : Segment) (k : ℕ) → choice S ≡ names k → (k < places) × (has_due (S.at k) ≡ true)
named-due S k e = found-due S places (after S.mark) k (omega arith) e

-- Where nobody is named, no node has a due frame.
pub none-due : (S : Segment) → choice S ≡ nobody → (k : ℕ) → k < places → has_due (S.at k) ≡ false
none-due S e k h = go (has_due (S.at k)) refl
  where
    m : ℕ
    m = after S.mark

    d : ℕ
    d = (k + places - m) % places

    there : (m + d) % places ≡ k
    there = omega (arith, h)

    named : has_due (S.at k) ≡ true → UpTo m d (choice S)
    named q = first_found S places m d (omega arith) (omega arith) (ap (λ (i : ℕ). has_due (S.at i)) there ∙ q)

    go : (b : Bool) → has_due (S.at k) ≡ b → b ≡ false
    go true q = let x = named q in absurd (nobody-named ((m + x.0) % places) (sym e ∙ x.2))
    go false q = refl

-- LISTS

module _ (k : ℕ) (S : Segment) (d : ℕ) (hd : d < places) (at : k ≡ (after S.mark + d) % places) where
  -- So many places, and no more than n, are passed over before node k.
  abbrev Nearer : Segment → (n : ℕ) → Type 0
  Nearer T n = (e : ℕ) × (e < places) × (k ≡ (after T.mark + e) % places) × (e < n)

  -- another command leaves node k as far away as it was
  as-far : (c : Command) → is_choice c ≡ false → (n : ℕ) → d < n → Nearer (step S c) n
  as-far c q n l = (d, hd, at ∙ ap (λ (m : ℕ). (after m + d) % places) (sym (mark-step S c ∙ unmoved S c q)), l)

  -- a choice names it or comes nearer to it
  nearer : has_due (S.at k) ≡ true → (n : ℕ) → d < suc n → (is_named k (chose (choice S)) ≡ true) ⊎ Nearer (step S choose) n
  nearer due n l = go (ltb x.0 d) refl
    where
      x : UpTo (after S.mark) d (choice S)
      x = first_found S places (after S.mark) d (omega arith) hd (ap (λ (i : ℕ). has_due (S.at i)) (sym at) ∙ due)

      named : ℕ
      named = (after S.mark + x.0) % places

      go : (b : Bool) → ltb x.0 d ≡ b → (is_named k (chose (choice S)) ≡ true) ⊎ Nearer (step S choose) n
      go true q =
          let less : x.0 < d = ltb-true x.0 d q in
          let on : (after named + (d - suc x.0)) % places ≡ k = omega (arith, at, less) in
          inr (d - suc x.0, omega arith, sym on ∙ ap (λ (z : Choice). (after (mark_by z S.mark) + (d - suc x.0)) % places) (sym x.2), omega (arith, less))
      go false q =
          let far : d ≤ x.0 = ltb-false x.0 d q in
          let is : named ≡ k = omega (arith, at, far, x.1) in
          inl (ap (λ (z : Choice). is_named k (chose z)) x.2 ∙ eq-eqb named k is)

  moved : (c : Command) → (not (is_choice c) || has_due (S.at k)) ≡ true → (n : ℕ) → d < cond (is_choice c) (suc n) n
      → (is_named k (besides S c) ≡ true) ⊎ Nearer (step S c) n
  moved (one i x) due n l = inr (as-far (one i x) refl n l)
  moved (send i) due n l = inr (as-far (send i) refl n l)
  moved tick due n l = inr (as-far tick refl n l)
  moved (foreign f) due n l = inr (as-far (foreign f) refl n l)
  moved choose due n l = nearer due n l
  moved (read_out i) due n l = inr (as-far (read_out i) refl n l)

named-soon : (k : ℕ) (cs : List Command) (S : Segment) (d : ℕ) → d < places → k ≡ (after S.mark + d) % places
    → d < choices cs → due_at_each k S cs ≡ true → named_in k (answers S cs) ≡ true
unfolding choices due_at_each named_in answers
named-soon k [] S d hd at l due = absurd (not-suc-le-zero l)
named-soon k (c ∷ cs) S d hd at l due =
    let p = both (not (is_choice c) || has_due (S.at k)) (due_at_each k (step S c) cs) due in
    ⊎_elim
    (λ (q : is_named k (besides S c) ≡ true). ap (λ (b : Bool). b || named_in k (answers (step S c) cs)) q)
    (λ (r : Nearer k S d hd at (step S c) (choices cs)). ap (λ (b : Bool). is_named k (besides S c) || b)
    (named-soon k cs (step S c) r.0 r.1 r.2 r.3 p.1) ∙ or-true (is_named k (besides S c)))
    (moved k S d hd at c p.0 (choices cs) l)

-- THE THEOREM

pub within-24 : Within places
within-24 before cs k hk l due =
    let S = run start before in
    let m = S.mark in
    let d : ℕ = (k + places - after m) % places in
    named-soon k cs S d (omega arith) (omega (arith, hk)) (omega (arith, l)) due

pub passed_over : PassedOver 23 all_on (replicate 23 choose) 23
unfolding choices due_at_each named_in answers run first_due some_other off_node fresh due_of on_power_on cid_frame
passed_over = record { inside = omega arith; many = refl; due = refl; passed = refl }

-- So no smaller number is enough.
pub no-fewer : (n : ℕ) → Within n → places ≤ n
no-fewer n w = go (ltb n places) refl
  where
    go : (b : Bool) → ltb n places ≡ b → places ≤ n
    go true e =
        let x = passed_over in
        let l : n ≤ choices (replicate 23 choose) = omega (arith, ltb-true n places e, x.many) in
        absurd (true≢false (sym (w all_on (replicate 23 choose) 23 x.inside l x.due) ∙ x.passed))
    go false e = ltb-false n places e

pub only-at-choices :
    (due_at_each 0 (run start one_on) (four_cids ++ power_on 0 0x050101010101 ∷ choose ∷ []) ≡ true) × (has_due ((run start (one_on ++ four_cids)).at 0) ≡ false)
unfolding due_at_each run first_due some_other off_node fresh due_of on_power_on cid_frame on_leave sent_of counted
only-at-choices = (refl, refl)
