-- A.6 over lists, late ones too: no two nodes that are not Off have one Node ID. No age comes into it.
use Rattle.std.specs.Prelude.{◌≡◌, refl, ◌≢◌, ◌⊎◌, Bool, true, false, not, cond, ◌&&◌, List, ℕ, ◌<◌, eqb}
use Rattle.std.proofs.Common.{sym, ap, ◌∙◌, inl, inr, true≢false, lt-ltb, eqb-true, eq-eqb}
use Rattle.std.proofs.lemmas.Bool.{eqb-false}
use Rattle.node.specs.Rules.{Answer, accepted, refused, Value, wait, off_node, is_off, Order, on_order}
use Rattle.node.specs.NodeId.{Starts, SameId}
use Rattle.node.proofs.NodeId.{itself, tick-id, leave-id, received-id, order-id}
use Rattle.node.specs.declared.Node.{Node}
use Rattle.segment_rules.specs.Rules.{places, Place, Segment, start, orders, delivers, Command, one, send, tick, foreign, choose, read_out, has_id, id_in_use, answer, stays, place_by, empties, effect_at, effect, step_by, step, run}
use Rattle.segment_rules.proofs.Others.{none-such, starts-ask}
use Rattle.segment_rules.proofs.Passed.{one-passed}
use Rattle.claim.specs.EachNode.{OrderAt, by_order, each-node}
use Rattle.claim.proofs.Runs.{after_list}
use Rattle.claim.specs.NodeIds.{Apart, AllApart}

apart-same : (n m n' m' : Node) → SameId n n' → SameId m m' → Apart n m → Apart n' m'
apart-same n m n' m' a b h u v e = h (sym a.off ∙ u) (sym b.off ∙ v) (sym a.id ∙ e ∙ b.id)

-- a place without this Node ID has no node that is not Off and has it
apart-without : (id : ℕ) (p : Place) → has_id id p ≡ false → is_off p.node.phase ≡ false → p.node.own.id ≢ id
apart-without id p h on e = true≢false (sym (λ z. eq-eqb p.node.own.id id e z && not (on z)) ∙ h)

-- WHAT A COMMAND DOES AT EACH PLACE

module _ (S : Segment) where
  -- the node at place k after a command that is accepted
  abbrev after : Command → ℕ → Node
  after c k = (place_by (effect S c k) (S.at k)).node

  -- Place k keeps its Node ID.
  abbrev Keeps : Command → ℕ → Type 0
  Keeps c k = SameId (S.at k).node (after c k)

  -- Or it has a new one that no other place has, and all others keep theirs.
  abbrev Renews : Command → ℕ → Type 0
  Renews c k = (j : ℕ) → j < places → j ≢ k → Keeps c j × (has_id (after c k).own.id (S.at j) ≡ false)

  keeps : (c : Command) (k : ℕ) → OrderAt c k (λ x. SameId (S.at k).node (on_order wait (S.at k).node x).node) → Keeps c k
  keeps c k o = each-node SameId itself received-id (λ n. leave-id n wait) (λ n. tick-id n wait) S c k o

  -- an order at its own place: a power-on that was accepted brings a Node ID that nobody else has
  ordered : (n : ℕ) (x : Order) → id_in_use S n (orders x) ≡ false → (k : ℕ) → k ≡ n → let c = one n (orders x) in Renews c k ⊎ Keeps c k
  ordered n x u k q = go (order-id (S.at k).node wait x)
    where
      c : Command
      c = one n (orders x)

      m : Node
      m = (on_order wait (S.at k).node x).node

      is : after c k ≡ m
      is = ap (λ (b : Bool). (place_by (cond b (effect_at (S.at k) (orders x)) stays) (S.at k)).node) (eq-eqb k n q) ∙ by_order (empties x) m (S.at k)

      go : ((id : ℕ) × Starts id x × (m.own.id ≡ id)) ⊎ SameId (S.at k).node m → Renews c k ⊎ Keeps c k
      go (inl (id, st, ei)) = inl (λ j hj ne. (
        keeps c j (λ d. absurd (ne (d ∙ sym q))),
        ap (λ (i : ℕ). has_id i (S.at j)) (ap (λ (y : Node). y.own.id) is ∙ ei)
            ∙ none-such (has_id id) n S places j (sym (starts-ask S n id x st) ∙ u) hj (λ d. ne (d ∙ sym q)),
      ))
      go (inr s) = inr (keeps c k (λ d. s))

  each-place : (c : Command) (v : Value) → answer S c ≡ accepted v → (k : ℕ) → Renews c k ⊎ Keeps c k
  each-place (one n (orders x)) v e k = go (eqb k n) refl
    where
      go : (b : Bool) → eqb k n ≡ b → let c = one n (orders x) in Renews c k ⊎ Keeps c k
      go true q = ordered n x (one-passed S n (orders x) v e).2 k (eqb-true k n q)
      go false q = inr (keeps (one n (orders x)) k (λ d. absurd (eqb-false k n q d)))
  each-place (one n delivers) v e k = inr (keeps (one n delivers) k tt)
  each-place (send n) v e k = inr (keeps (send n) k tt)
  each-place tick v e k = inr (keeps tick k tt)
  each-place (foreign f) v e k = inr (keeps (foreign f) k tt)
  each-place choose v e k = inr (keeps choose k tt)
  each-place (read_out n) v e k = inr (keeps (read_out n) k tt)

  -- so two nodes have two Node IDs after a command where they had before
  carried-apart : (c : Command) (v : Value) → answer S c ≡ accepted v → AllApart S → (p q : ℕ) → p < places → q < places → p ≢ q → Apart (after c p) (after c q)
  carried-apart c v e h p q hp hq ne = go (each-place c v e p) (each-place c v e q)
    where
      -- beside a node with a new Node ID
      beside : (k j : ℕ) → Renews c k → j < places → j ≢ k → is_off (after c j).phase ≡ false → (after c j).own.id ≢ (after c k).own.id
      beside k j r hj d on x =
          let w = r j hj d in
          apart-without (after c k).own.id (S.at j) w.1 (sym w.0.off ∙ on) (sym w.0.id ∙ x)

      go : Renews c p ⊎ Keeps c p → Renews c q ⊎ Keeps c q → Apart (after c p) (after c q)
      go (inl r) y = λ u v x. beside p q r hq (λ d. ne (sym d)) v (sym x)
      go (inr a) (inl r) = λ u v x. beside q p r hp ne u x
      go (inr a) (inr b) = apart-same (S.at p).node (S.at q).node (after c p) (after c q) a b (h p q hp hq ne)

  apart-step : AllApart S → (c : Command) → AllApart (step S c)
  apart-step h c p q hp hq ne = go (answer S c) refl
    where
      go : (a : Answer Value) → answer S c ≡ a → Apart ((step_by a S c).at p).node ((step_by a S c).at q).node
      go (accepted v) e = rw (lt-ltb p places hp, lt-ltb q places hq) (carried-apart c v e h p q hp hq ne)
      go (refused number) e = h p q hp hq ne

-- LISTS

pub apart-run : (cs : List Command) → AllApart (run start cs)
unfolding off_node
apart-run = after_list AllApart apart-step (λ p q hp hq ne u v. absurd (true≢false u))
