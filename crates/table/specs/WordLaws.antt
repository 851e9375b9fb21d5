-- Laws of the words: what is seen of them where some are as they were, and how changes of one place follow one another.
use Rattle.std.specs.Prelude.{◌≡◌, ◌≢◌, ◌⊎◌, ℕ, zero, suc, ◌+◌, ◌*◌, ◌%◌, ◌<◌, ◌≤◌, Bool, true, false, cond, List, ◌∷◌, ltb, eqb, length, get_or}
use Rattle.std.proofs.Math.Path.{refl}
use Rattle.std.proofs.Common.{ap, ◌∙◌, inl, inr, ⊎_elim, arith, ltb-true, ltb-false, lt-ltb, eqb-true}
use Rattle.std.proofs.lemmas.Bool.{eqb-false}
use Rattle.node.specs.Rules.{timed_for}
use Rattle.segment_rules.specs.Rules.{places, inbox_room, blank, none}
use Rattle.pack.specs.Laws.{node-same}
use Rattle.pack.specs.Words.{round, since, timed_age}
use Rattle.table.specs.Words.{Cell, cell, place_of, ages_of, block, count_at, first_at, stamp_at, slot, late_at, clock_at, slack_at, mark_at, node_at, item_from, item_at, items, inbox, age_of, cell_at, slack_of, mark_of, view, view_ages, Held, At}

pub lt-or-le : (a b : ℕ) → (a < b) ⊎ (b ≤ a)
lt-or-le a b = go (ltb a b) refl
  where
    go : (t : Bool) → ltb a b ≡ t → (a < b) ⊎ (b ≤ a)
    go true e = inl (ltb-true a b e)
    go false e = inr (ltb-false a b e)

pub eq-or-ne : (a b : ℕ) → (a ≡ b) ⊎ (a ≢ b)
eq-or-ne a b = go (eqb a b) refl
  where
    go : (t : Bool) → eqb a b ≡ t → (a ≡ b) ⊎ (a ≢ b)
    go true e = inl (eqb-true a b e)
    go false e = inr (eqb-false a b e)

-- what is at an index below 24
pub view-at : (t : List ℕ) (k : ℕ) → k < places → (view t).at k ≡ place_of (cell_at t k)
unfolding view
view-at t k h = ap (λ (b : Bool). cond b (place_of (cell_at t k)) blank) (lt-ltb k places h)

pub view-mark : (t : List ℕ) → (view t).mark ≡ mark_of t
view-mark t = unfold view in refl

pub ages-at : (t : List ℕ) (k : ℕ) → k < places → view_ages t k ≡ ages_of (cell_at t k)
unfolding view_ages
ages-at t k h = ap (λ (b : Bool). cond b (ages_of (cell_at t k)) none) (lt-ltb k places h)

pub cell-eq : {x y : Cell} → x.node ≡ y.node → x.inbox ≡ y.inbox → ((a : ℕ) → x.age a ≡ y.age a) → x ≡ y
cell-eq n b g = λ i. cell (n i) (b i) (λ a. g a i)

-- WORDS AND PLACES

pub item-ext : (t t' : List ℕ) (q : ℕ) → get_or t' clock_at 0 ≡ get_or t clock_at 0 → get_or t' q 0 ≡ get_or t q 0 → get_or t' (q + 1) 0 ≡ get_or t (q + 1) 0
    → item_at t' q ≡ item_at t q
unfolding item_at
item-ext t t' q c a b = λ i. item_from (c i % round) (a i) (b i)

-- frames from slot s on are as they were where each of them is
pub items-ext : (t t' : List ℕ) (k s n : ℕ) → ((x : ℕ) → s ≤ x → x < s + n → item_at t' (slot k x) ≡ item_at t (slot k x))
    → items t' k s n ≡ items t k s n
items-ext t t' k s zero e = refl
items-ext t t' k s (suc n) e =
    λ i. e s (omega arith) (omega arith) i ∷ items-ext t t' k (s + 1) n (λ x a b. e x (omega arith) (omega arith)) i

pub inbox-ext : (t t' : List ℕ) (k : ℕ) → get_or t' clock_at 0 ≡ get_or t clock_at 0
    → ((q : ℕ) → count_at k ≤ q → q < block * k + block → q ≢ stamp_at k → get_or t' q 0 ≡ get_or t q 0) → inbox t' k ≡ inbox t k
unfolding inbox
inbox-ext t t' k c e =
    (λ i. items t' k (e (first_at k) (omega arith) (omega arith) (omega arith) i) (e (count_at k) (omega arith) (omega arith) (omega arith) i))
    ∙ items-ext t t' k (get_or t (first_at k) 0) (get_or t (count_at k) 0)
    (λ x a b. item-ext t t' (slot k x) c (e (slot k x) (omega arith) (omega arith) (omega arith)) (e (slot k x + 1) (omega arith) (omega arith) (omega arith)))

pub node-ext : (t t' : List ℕ) (k : ℕ) → ((q : ℕ) → block * k ≤ q → q < count_at k → get_or t' q 0 ≡ get_or t q 0) → node_at t' k ≡ node_at t k
unfolding node_at
node-ext t t' k e = node-same _ _ (λ j h. e (block * k + j) (omega arith) (omega arith))

-- the age goes by the node, the clock and the stamp
pub age-ext : (t t' : List ℕ) (k : ℕ) → node_at t' k ≡ node_at t k → get_or t' clock_at 0 ≡ get_or t clock_at 0
    → get_or t' (stamp_at k) 0 ≡ get_or t (stamp_at k) 0 → (a : ℕ) → age_of t' k a ≡ age_of t k a
age-ext t t' k n c s a = λ i. timed_age (timed_for (n i) a) (since (c i % round) (s i))

pub cell-ext : (t t' : List ℕ) (k : ℕ) → get_or t' clock_at 0 ≡ get_or t clock_at 0
    → ((q : ℕ) → block * k ≤ q → q < block * k + block → get_or t' q 0 ≡ get_or t q 0) → cell_at t' k ≡ cell_at t k
cell-ext t t' k c e =
    let n : node_at t' k ≡ node_at t k = node-ext t t' k (λ q a b. e q a (omega arith)) in
    cell-eq n
    (inbox-ext t t' k c (λ q a b ne. e q (omega arith) b))
    (age-ext t t' k n c (e (stamp_at k) (omega arith) (omega arith)))

-- ONE PLACE HAS CHANGED

-- shown by the words: those of other places and after the places are as they were
module _ (t t' : List ℕ) (k : ℕ) (hk : k < places) (h : Held t) (long : length t' ≡ length t)
    (below : (q : ℕ) → q < block * k → get_or t' q 0 ≡ get_or t q 0) (above : (q : ℕ) → block * k + block ≤ q → get_or t' q 0 ≡ get_or t q 0) where
  word : (j q : ℕ) → j ≢ k → block * j ≤ q → q < block * j + block → get_or t' q 0 ≡ get_or t q 0
  word j q ne l r = ⊎_elim (λ (s : j < k). below q (omega arith)) (λ (s : k ≤ j). above q (omega arith)) (lt-or-le j k)

  same-clock : get_or t' clock_at 0 ≡ get_or t clock_at 0
  same-clock = above clock_at (omega arith)

  same-slack : slack_of t' ≡ slack_of t
  same-slack = above slack_at (omega arith)

  same-mark : mark_of t' ≡ mark_of t
  same-mark = above mark_at (omega arith)

  pub at_words : (x : Cell) → get_or t' (count_at k) 0 ≤ inbox_room → get_or t' (first_at k) 0 < inbox_room → cell_at t' k ≡ x → At t k x t'
  at_words x few ring this = record {
    inside = hk;
    held = record {
      long = long ∙ h.long;
      few = λ j hj. ⊎_elim
          (λ (e : j ≡ k). omega (arith, ap (λ (x : ℕ). get_or t' (count_at x) 0) e, few))
          (λ (ne : j ≢ k). omega (arith, word j (count_at j) ne (omega arith) (omega arith), h.few j hj))
          (eq-or-ne j k);
      ring = λ j hj. ⊎_elim
          (λ (e : j ≡ k). omega (arith, ap (λ (x : ℕ). get_or t' (first_at x) 0) e, ring))
          (λ (ne : j ≢ k). omega (arith, word j (first_at j) ne (omega arith) (omega arith), h.ring j hj))
          (eq-or-ne j k);
      slack = omega (arith, same-slack, h.slack);
      mark = omega (arith, same-mark, h.mark);
    };
    this = this;
    others = λ j hj ne. cell-ext t t' j same-clock (λ q l r. word j q ne l r);
    clock = ap (λ (x : ℕ). x % round) same-clock;
    slack = same-slack;
    late = ap (λ (x : ℕ). eqb x 1) (above late_at (omega arith));
    mark = same-mark;
  }

-- one after the other at the same place
pub at-then : {t t' t'' : List ℕ} {k : ℕ} {x y : Cell} → At t k x t' → At t' k y t'' → At t k y t''
at-then a b = record {
  inside = b.inside;
  held = b.held;
  this = b.this;
  others = λ j hj ne. b.others j hj ne ∙ a.others j hj ne;
  clock = b.clock ∙ a.clock;
  slack = b.slack ∙ a.slack;
  late = b.late ∙ a.late;
  mark = b.mark ∙ a.mark;
}

-- nothing has changed
pub at_none : {t : List ℕ} {k : ℕ} {x : Cell} → Held t → k < places → cell_at t k ≡ x → At t k x t
at_none h hk e = record { inside = hk; held = h; this = e; others = λ j hj ne. refl; clock = refl; slack = refl; late = refl; mark = refl }
