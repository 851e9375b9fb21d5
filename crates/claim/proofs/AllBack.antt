-- A.9 for the whole card: after the switch-off what was read out of each node that was not Off is given back, at its own index on a new
-- table. All are accepted, and each node tests the alias that it had. What is given back, and what then stands at each place, is in
-- specs/AllBack.antt; these are to be believed, with the theorem at the end.
use Rattle.std.specs.Prelude.{◌≡◌, ◌≢◌, Bool, ◌&&◌, List, [], ◌∷◌, ◌++◌, ltb, eqb}
use Rattle.std.proofs.Math.Path.{refl, sym, ap}
use Rattle.std.proofs.Common.{subst, ◌∙◌, ⊎_elim, arith, lt-ltb, le-ltb, ltb-true, ltb-false, ne_eqb}
use Rattle.std.proofs.Math.Bool.{true, false, cond}
use Prim.Native.Nat.{ℕ, zero, suc, ◌<◌, ◌≤◌}
use Rattle.std.proofs.lemmas.Bool.{lt-leb}
use Rattle.headers.specs.Answers.{bit_of}
use Rattle.node.specs.Rules as N
use Rattle.node.specs.Rules.{Answer, accepted, refuse, Value, done, off_node, is_off, fresh, read_out_of}
use Rattle.node.specs.declared.Node.{Node}
use Rattle.segment_rules.specs.Rules.{places, Place, place, Segment, blank, start, orders, Command, has_id, read_out_at, plain, Told, stays, place_by, effect_at, step_by, step, run, answers}
use Rattle.segment_rules.proofs.Others.{no_other}
use Rattle.segment_rules.specs.WarmStarts.{back, Returns}
use Rattle.segment_rules.proofs.WarmStarts.{given_back}
use Rattle.table.specs.Words.{node_at, view}
use Rattle.table.specs.WordLaws.{eq-or-ne}
use Rattle.table.specs.Promise.{plainly}
use Rattle.claim.proofs.Runs.{sound-run}
use Rattle.claim.proofs.NodeIds.{apart-run}
use Rattle.claim.specs.Claim.{Carried}
use Rattle.claim.proofs.Claim.{follows, claim, run-snoc, answers-snoc}
use Rattle.claim.specs.AllBack.{backs, all_accepted, returned, returned_at}

module _ (cs : List Command) where
  abbrev S : Segment
  S = run start cs

  -- a node that is Off has no Node ID that counts
  blank-without : (id : ℕ) → has_id id blank ≡ false
  unfolding off_node
  blank-without id = go (eqb 0 id)
    where
      go : (b : Bool) → (b && false) ≡ false
      go true = refl
      go false = refl

  -- ONE PLACE MORE
  module _ (m : ℕ) (hm : m < places) (T : Segment) (h : (k : ℕ) → T.at k ≡ returned_at S m k) where
    abbrev n : Node
    n = (S.at m).node

    tested : (k : ℕ) → k ≢ m → ltb k m ≡ ltb k (suc m)
    tested k ne = go (ltb k m) refl
      where
        go : (b : Bool) → ltb k m ≡ b → b ≡ ltb k (suc m)
        go true e = sym (lt-ltb k (suc m) (omega (arith, ltb-true k m e)))
        go false e = let l = ltb-false k m e in sym (le-ltb k (suc m) (omega arith))

    elsewhere : (k : ℕ) → k ≢ m → returned_at S m k ≡ returned_at S (suc m) k
    elsewhere k ne = ap (λ (b : Bool). cond b (returned (S.at k).node) blank) (tested k ne)

    here : returned_at S (suc m) m ≡ returned n
    here = ap (λ (b : Bool). cond b (returned n) blank) (lt-ltb m (suc m) (omega arith))

    not_yet : T.at m ≡ blank
    not_yet = h m ∙ ap (λ (b : Bool). cond b (returned n) blank) (le-ltb m m (omega arith))

    -- nothing is given back
    off-more : is_off n.phase ≡ true → (k : ℕ) → T.at k ≡ returned_at S (suc m) k
    off-more off k =
        ⊎_elim
        (λ (q : k ≡ m). subst (λ (j : ℕ). T.at j ≡ returned_at S (suc m) j) (sym q)
        (not_yet ∙ sym (here ∙ ap (λ (b : Bool). cond b blank (place (fresh n.own.id n.alias n.generator) [])) off)))
        (λ (ne : k ≢ m). h k ∙ elsewhere k ne)
        (eq-or-ne k m)

    module _ (on : is_off n.phase ≡ false) where
      abbrev c : Command
      c = back m n.own.id n.generator

      out : read_out_at S m ≡ accepted n.generator
      unfolding read_out_of
      out = λ z. refuse (lt-leb places m hm z) 1 (refuse (on z) 2 (accepted n.generator))

      -- no other place has its Node ID: those before it have others, and those after it are Off
      other : (k : ℕ) → k < places → k ≢ m → has_id n.own.id (returned_at S m k) ≡ false
      unfolding fresh
      other k hk ne = go (ltb k m) (is_off (S.at k).node.phase) refl
        where
          go : (b off : Bool) → is_off (S.at k).node.phase ≡ off
              → has_id n.own.id (cond b (cond off blank (place (fresh (S.at k).node.own.id (S.at k).node.alias (S.at k).node.generator) [])) blank) ≡ false
          go false off e = blank-without n.own.id
          go true true e = blank-without n.own.id
          go true false e = ap (λ (b : Bool). b && true) (ne_eqb (S.at k).node.own.id n.own.id (apart-run cs k m hk hm ne e on))

      R : Returns T m n n.generator
      R = given_back S T m m n.generator (sound-run cs m) out hm
          (no_other (has_id n.own.id) m T places (λ k hk ne. ap (has_id n.own.id) (h k) ∙ other k hk ne))

      untouched : (k : ℕ) → k ≢ m → (step T c).at k ≡ T.at k
      untouched k ne = ap (λ (a : Answer Value). (step_by a T c).at k) R.accepted ∙ go (ltb k places) (eqb k m) (ne_eqb k m ne)
        where
          go : (b q : Bool) → q ≡ false → cond b (place_by (cond q (effect_at (T.at k) (orders (N.warm_on n.own.id (bit_of n.generator.past) n.generator.state))) stays) (T.at k)) (T.at k) ≡ T.at k
          go true q e = rw e refl
          go false q e = refl

      on-more : (k : ℕ) → (step T c).at k ≡ returned_at S (suc m) k
      on-more k =
          ⊎_elim
          (λ (q : k ≡ m). subst (λ (j : ℕ). (step T c).at j ≡ returned_at S (suc m) j) (sym q)
          (R.place ∙ sym (here ∙ ap (λ (b : Bool). cond b blank (place (fresh n.own.id n.alias n.generator) [])) on)))
          (λ (ne : k ≢ m). untouched k ne ∙ h k ∙ elsewhere k ne)
          (eq-or-ne k m)

  -- ALL OF THEM
  all-at : (m : ℕ) → m ≤ places → (k : ℕ) → (run start (backs S m)).at k ≡ returned_at S m k
  unfolding run backs
  all-at zero l k = sym (ap (λ (b : Bool). cond b (returned (S.at k).node) blank) (le-ltb k 0 (omega arith)))
  all-at (suc m) l k = go (is_off (S.at m).node.phase) refl (all-at m (omega arith))
    where
      go : (off : Bool) → is_off (S.at m).node.phase ≡ off → ((k : ℕ) → (run start (backs S m)).at k ≡ returned_at S m k)
          → (run start (cond off (backs S m) (backs S m ++ back m (S.at m).node.own.id (S.at m).node.generator ∷ []))).at k ≡ returned_at S (suc m) k
      go true e h = off-more m (omega arith) (run start (backs S m)) h e k
      go false e h =
          ap (λ (T : Segment). T.at k) (run-snoc start (backs S m) (back m (S.at m).node.own.id (S.at m).node.generator))
          ∙ on-more m (omega arith) (run start (backs S m)) h e k

  all_told : (m : ℕ) → m ≤ places → answers start (backs S m) ≡ all_accepted S m
  unfolding answers backs all_accepted
  all_told zero l = refl
  all_told (suc m) l = go (is_off (S.at m).node.phase) refl (all_told m (omega arith))
    where
      go : (off : Bool) → is_off (S.at m).node.phase ≡ off → answers start (backs S m) ≡ all_accepted S m
          → answers start (cond off (backs S m) (backs S m ++ back m (S.at m).node.own.id (S.at m).node.generator ∷ []))
          ≡ cond off (all_accepted S m) (all_accepted S m ++ plainly (accepted done) ∷ [])
      go true e r = r
      go false e r =
          answers-snoc start (backs S m) (back m (S.at m).node.own.id (S.at m).node.generator)
          ∙ (λ z. r z ++ record { answer = (R m (omega arith) (run start (backs S m)) (all-at m (omega arith)) e).accepted z; besides = plain } ∷ [])

-- THE THEOREM, of the code's tables: a list left the words t; what was read out of them is given back on a new table, and leaves the words u.
pub all-come-back : {cs : List Command} {xs : List Told} {t : List ℕ} → Carried cs xs t → {ys : List Told} {u : List ℕ} → Carried (backs (view t) places) ys u
    → (ys ≡ all_accepted (view t) places) × ((k : ℕ) → k < places → node_at u k ≡ (returned (node_at t k)).node)
all-come-back {cs} {xs} {t} r {ys} {u} s = (
  (claim s).answered ∙ ap (λ (T : Segment). answers start (backs T places)) is ∙ all_told cs places (omega arith) ∙ ap (λ (T : Segment). all_accepted T places) (sym is),
  λ k h. (claim s).nodes k h
      ∙ ap (λ (T : Segment). ((run start (backs T places)).at k).node) is
      ∙ ap (λ (p : Place). p.node) (all-at cs places (omega arith) k ∙ ap (λ (b : Bool). cond b (returned ((run start cs).at k).node) blank) (lt-ltb k places h))
      ∙ ap (λ (m : Node). (returned m).node) (sym ((claim r).nodes k h)),
)
  where
    is : view t ≡ run start cs
    is = (follows r).table
