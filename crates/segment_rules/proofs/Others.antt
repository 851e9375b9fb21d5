-- Laws of a search among the other places: what it says of each of them, and which orders ask for a Node ID.
use Rattle.std.specs.Prelude.{◌≡◌, ◌≢◌, Bool, not, ◌&&◌, ◌||◌}
use Rattle.std.proofs.Math.Path.{refl, ap, subst}
use Rattle.std.proofs.Common.{sym, ◌∙◌, true≢false, arith, not-suc-le-zero}
use Rattle.std.proofs.Math.Bool.{true, false, or-true}
use Prim.Native.Nat.{ℕ, zero, suc, ◌<◌}
use Rattle.std.proofs.Math.Dec.{eqb}
use borrow.Author.Tests.{eqb-true, eqb-false, ne_eqb}
use Rattle.node.specs.Rules.{Order}
use Rattle.node.specs.NodeId.{Starts, coldly, warmly}
use Rattle.segment_rules.specs.Rules.{places, Place, Segment, orders, some_other, has_id, id_in_use}

module _ (Q : Place → Bool) (i : ℕ) (S : Segment) where
  -- one that is such is found
  pub some-other : (n k : ℕ) → k < n → k ≢ i → Q (S.at k) ≡ true → some_other Q i n S ≡ true
  unfolding some_other
  some-other zero k h ne e = absurd (not-suc-le-zero h)
  some-other (suc n) k h ne e = go (eqb k n) refl (λ d. some-other n k (omega arith) ne e)
    where
      go : (c : Bool) → eqb k n ≡ c → (k ≢ n → some_other Q i n S ≡ true) → ((not (eqb n i) && Q (S.at n)) || some_other Q i n S) ≡ true
      go true q r =
          let e' : k ≡ n = eqb-true k n q in
          let d : n ≢ i = subst (λ (m : ℕ). m ≢ i) e' ne in
          λ j. (not (ne_eqb n i d j) && subst (λ (m : ℕ). Q (S.at m) ≡ true) e' e j) || some_other Q i n S
      go false q r = ap (λ (b : Bool). (not (eqb n i) && Q (S.at n)) || b) (r (eqb-false k n q)) ∙ or-true (not (eqb n i) && Q (S.at n))

  -- where none is such, none is found
  pub no_other : (n : ℕ) → ((k : ℕ) → k < n → k ≢ i → Q (S.at k) ≡ false) → some_other Q i n S ≡ false
  unfolding some_other
  no_other zero h = refl
  no_other (suc n) h = λ j. here (eqb n i) refl (h n (omega arith)) j || no_other n (λ k l ne. h k (omega arith) ne) j
    where
      here : (b : Bool) → eqb n i ≡ b → (n ≢ i → Q (S.at n) ≡ false) → (not b && Q (S.at n)) ≡ false
      here true e r = refl
      here false e r = r (eqb-false n i e)

  -- where none is found, none is such
  pub none-such : (n k : ℕ) → some_other Q i n S ≡ false → k < n → k ≢ i → Q (S.at k) ≡ false
  none-such n k e h ne = go (Q (S.at k)) refl
    where
      go : (b : Bool) → Q (S.at k) ≡ b → b ≡ false
      go true q = absurd (true≢false (sym (some-other n k h ne q) ∙ e))
      go false q = refl

-- A power-on of either sort asks for its Node ID.
pub starts-ask : (S : Segment) (n id : ℕ) (x : Order) → Starts id x → id_in_use S n (orders x) ≡ some_other (has_id id) n places S
starts-ask S n id x coldly = refl
starts-ask S n id x warmly = refl
