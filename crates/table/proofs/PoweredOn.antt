-- The promise of power-on, from what its parts did; and what is compared of a place with a Node ID.
use mathlib.Core.Path.{◌≡◌, refl, sym, ap, subst, ◌∙◌}
use mathlib.Core.Logic.{◌≢◌}
use mathlib.Core.Bool.{Bool, true, false, true≢false, false≢true, not, ◌&&◌}
use mathlib.Core.List.{List}
use Prim.Native.Nat.{ℕ, ◌<◌}
use lib.Dec.{eqb}
use borrow.Author.Tests.{not-true, eq-eqb, ne_eqb}
use Rattle.node.specs.Rules.{Answer, accepted, refused, Value, is_off, Outcome, warm_on, on_power_on, on_warm_on}
use Rattle.node.specs.declared.Node.{Node}
use Rattle.state.specs.Answers.{is_refused}
use Rattle.node.specs.Warm.{is_before15}
use Rattle.node.proofs.Warm.{power-before-15, warm-before-15, warm-refused}
use Rattle.segment_rules.specs.WarmStarts.{Same}
use Rattle.segment_rules.specs.Rules.{places, orders, Command, one, some_other, has_id, Told, Effect, begins}
use Rattle.table.specs.Words.{place_of, node_at, cell_at, view, view_ages, At}
use Rattle.table.specs.Parts.{cell_by}
use Rattle.table.specs.Promise.{all_around, SoundWords, Carries, plainly}
use Rattle.table.proofs.Promised.{one-refused, one-in-use, one-done}

-- A NODE ID AT A PLACE

module _ (t : List ℕ) (k id : ℕ) where
  pub other-id : (node_at t k).own.id ≢ id → false ≡ has_id id (place_of (cell_at t k))
  other-id ne = sym (ap (λ (b : Bool). b && not (is_off (node_at t k).phase)) (ne_eqb (node_at t k).own.id id ne))

  pub same_id : (off : Bool) → (node_at t k).own.id ≡ id → off ≡ is_off (node_at t k).phase → not off ≡ has_id id (place_of (cell_at t k))
  same_id off e o = sym (λ z. eq-eqb (node_at t k).own.id id e z && not (sym o z))

-- A POWER-ON of either sort: document 01's is one with flag 0

pub carries_same : (c d : Command) (t : List ℕ) (x : Told) (t' : List ℕ) → Same (view t) c d → Carries c t x t' → Carries d t x t'
carries_same c d t x t' s w = record {
  answered = w.answered ∙ s.told;
  table = w.table ∙ s.segment;
  ages = w.ages ∙ ap all_around (s.ages (view_ages t));
  late = w.late;
  sound = w.sound;
  unmoved = w.unmoved;
}

-- at place i
module _ (t : List ℕ) (sound : SoundWords t) (i id flag y : ℕ) (h : i < places) where
  abbrev n : Node
  n = node_at t i

  abbrev Promises : (a : Answer Value) (t' : List ℕ) → Type 0
  Promises a t' = Carries (one i (orders (warm_on id flag y))) t (plainly a) t'

  abbrev used : Bool
  used = some_other (has_id id) i places (view t)

  -- a refusal stands where the Node ID is in use by no other, or where it is tested before 15
  refused-so : (a : Answer Value) → a ≡ (on_warm_on n id flag y).answer → is_refused a ≡ true
      → ((number : ℕ) → a ≡ refused number → (used && eqb number 18) ≡ false) → Promises a t
  refused-so a ea r q = go a refl r
    where
      go : (z : Answer Value) → a ≡ z → is_refused z ≡ true → Promises a t
      go (accepted v) e r = absurd (false≢true r)
      go (refused number) e r = one-refused t sound i (orders (warm_on id flag y)) a number h e (sym ea ∙ e) (q number e)

  -- 3, and 15 (A.6): by what document 01's power-on alone would be at the node
  module _ (p : Outcome) (ep : p ≡ on_power_on n id) where
    begun : (b : Bool) → is_refused p.answer ≡ b → is_refused (on_power_on n id).answer ≡ b
    begun b r = sym (ap (λ (z : Outcome). is_refused z.answer) ep) ∙ r

    pub begin-refused : is_refused p.answer ≡ true → Promises p.answer t
    begin-refused r =
        refused-so p.answer (ap (λ (z : Outcome). z.answer) (ep ∙ sym (warm-refused n id flag y (begun true r)))) r
        (λ number e. other used (eqb number 18) (sym (ap is_before15 (sym (ap (λ (z : Outcome). z.answer) ep) ∙ e)) ∙ power-before-15 n id (begun true r)))
      where
        other : (u l : Bool) → not l ≡ true → (u && l) ≡ false
        other true l e = not-true l e
        other false l e = refl

    pub begin-in-use : (a : Answer Value) → a ≡ refused 15 → is_refused p.answer ≡ false → used ≡ true → Promises a t
    begin-in-use a ea r u =
        one-in-use t sound i (orders (warm_on id flag y)) a (on_warm_on n id flag y).answer h ea refl (warm-before-15 n id flag y (begun false r)) u

  -- then 18 (A.9), tested last
  module _ (o : Outcome) (eo : o ≡ on_warm_on n id flag y) (free : used ≡ false) where
    pub begin-last : is_refused o.answer ≡ true → Promises o.answer t
    begin-last r = refused-so o.answer (ap (λ (z : Outcome). z.answer) eo) r (λ number e. ap (λ (b : Bool). b && eqb number 18) free)

    pub begin-done : (t' : List ℕ) → is_refused o.answer ≡ false → At t i (cell_by (begins o.node) (cell_at t i)) t' → Promises o.answer t'
    begin-done t' r w = go o.answer refl r
      where
        go : (z : Answer Value) → o.answer ≡ z → is_refused z ≡ false → Promises o.answer t'
        go (accepted v) e r =
            one-done t sound i (orders (warm_on id flag y)) o.answer v t' h e (sym (ap (λ (z : Outcome). z.answer) eo) ∙ e) free
            (subst (λ (f : Effect). At t i (cell_by f (cell_at t i)) t') (λ j. begins (eo j).node) w)
        go (refused number) e r = absurd (true≢false r)
