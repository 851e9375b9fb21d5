-- What every event keeps of a node, a command keeps of the node at each place: one walk through the commands, whatever it is that is kept.
use Rattle.std.specs.Prelude.{◌≡◌, refl, Bool, true, false, cond, List, [], ◌∷◌, ℕ, eqb}
use Rattle.std.proofs.Common.{sym, subst, eqb-true}
use Rattle.headers.specs.declared.frame.Frame.{Frame}
use Rattle.node.specs.Rules.{Answer, accepted, refused, Value, done, left, wait, is_off, tick_of, received, trimmed, Order, on_order, on_leave}
use Rattle.node.specs.declared.Node.{Node}
use Rattle.segment_rules.specs.Rules.{
  Place,
  Segment,
  Act,
  orders,
  delivers,
  Command,
  one,
  send,
  tick,
  foreign,
  choose,
  read_out,
  stays,
  gets,
  place_by,
  empties,
  order_by,
  delivered,
  effect_at,
  joins,
  sent_by,
  effect,
}

-- P of the order that a command is at place k, where it is one.
abbrev pub OrderAt : Command → (k : ℕ) → (Order → Type 0) → Type 0
OrderAt (one n (orders x)) k P = k ≡ n → P x
OrderAt (one n delivers) k P = Unit {0}
OrderAt (send n) k P = Unit {0}
OrderAt tick k P = Unit {0}
OrderAt (foreign f) k P = Unit {0}
OrderAt choose k P = Unit {0}
OrderAt (read_out n) k P = Unit {0}

pub by_order : (b : Bool) (m : Node) (p : Place) → (place_by (order_by b m) p).node ≡ m
by_order true m p = refl
by_order false m p = refl

module _ (R : Node → Node → Type 0) (same : (n : Node) → R n n) (heard : (n : Node) (f : Frame) → R n (received n f))
    (leaves : (n : Node) → R n (on_leave wait n).node) (ticked : (n : Node) → R n (tick_of wait n)) (S : Segment) where
  joined : (f : Frame) (p : Place) → R p.node (place_by (joins f p) p).node
  joined f p = go (is_off p.node.phase)
    where
      go : (b : Bool) → R p.node (place_by (cond b stays (gets f)) p).node
      go true = same p.node
      go false = same p.node

  first-heard : (fs : List Frame) (n : Node) → R n (delivered fs n)
  first-heard [] n = same n
  first-heard (f ∷ fs) n = heard n f

  acted : (n k : ℕ) (x : Act) → OrderAt (one n x) k (λ y. R (S.at k).node (on_order wait (S.at k).node y).node) → (b : Bool) → eqb k n ≡ b
      → R (S.at k).node (place_by (cond b (effect_at (S.at k) x) stays) (S.at k)).node
  acted n k (orders x) o true e = subst (R (S.at k).node) (sym (by_order (empties x) _ (S.at k))) (o (eqb-true k n e))
  acted n k delivers o true e = first-heard (S.at k).inbox (S.at k).node
  acted n k (orders x) o false e = same (S.at k).node
  acted n k delivers o false e = same (S.at k).node

  -- an order's own case comes from who asks
  pub each-node : (c : Command) (k : ℕ) → OrderAt c k (λ x. R (S.at k).node (on_order wait (S.at k).node x).node)
      → R (S.at k).node (place_by (effect S c k) (S.at k)).node
  each-node (one n x) k o = acted n k x o (eqb k n) refl
  each-node (send n) k o = go (on_leave wait (S.at n).node).answer (eqb k n) refl
    where
      m : Node
      m = (on_leave wait (S.at n).node).node

      go : (a : Answer Value) (own : Bool) → eqb k n ≡ own → R (S.at k).node (place_by (sent_by a m own (S.at k)) (S.at k)).node
      go (accepted (left f)) true e = subst (λ (j : ℕ). R (S.at j).node m) (sym (eqb-true k n e)) (leaves (S.at n).node)
      go (accepted (left f)) false e = joined f (S.at k)
      go (accepted done) own e = same (S.at k).node
      go (refused number) own e = same (S.at k).node
  each-node tick k o = ticked (S.at k).node
  each-node (foreign f) k o = joined (trimmed f) (S.at k)
  each-node choose k o = same (S.at k).node
  each-node (read_out n) k o = same (S.at k).node
