-- Warm power-on (A.9) by its flag and by what power-on alone would answer; and what is read out and given back.
use Rattle.std.specs.Prelude.{◌≡◌, ◌≢◌, Bool, cond, ◌&&◌, ◌||◌, leb, eqb}
use Rattle.std.proofs.Math.Path.{refl, ap}
use Rattle.std.proofs.Common.{sym, ◌∙◌, true≢false, arith, lt-ltb, le-leb, ne_eqb}
use Rattle.std.proofs.Math.Bool.{true, false}
use Rattle.std.proofs.lemmas.Bool.{false≢true, lt-leb}
use Prim.Native.Nat.{ℕ, ◌+◌, ◌%◌, ◌^◌, ◌<◌, ◌≤◌}
use Rattle.headers.specs.Rules.{bad_node_id}
use Rattle.headers.specs.Answers.{bit_of}
use Rattle.state.specs.Answers.{is_refused}
use Rattle.node.specs.Rules.{Answer, accepted, refused, refuse, first_alias, drawn, is_off, generator, fresh, done, resulting, powered_by, on_power_on, warm, bad_start, start_of, started_by, on_warm_on}
use Rattle.node.specs.Sound.{Sound, alias_by}
use Rattle.node.specs.declared.Node.{Node}
use Rattle.node.specs.Warm.{is_before15}

-- Flag 0 is power-on, whatever the state is.
pub warm-cold : (n : Node) (id x : ℕ) → on_warm_on n id 0 x ≡ on_power_on n id
unfolding on_warm_on on_power_on
warm-cold n id x = go (first_alias id)
  where
    go : (r : Answer ℕ) → started_by r n id 0 x ≡ powered_by r n id
    go (accepted a) = refl
    go (refused number) = refl

module _ (n : Node) (id : ℕ) where
  -- what power-on refuses is refused so, whatever flag and state are
  pub warm-refused : (flag x : ℕ) → is_refused (on_power_on n id).answer ≡ true → on_warm_on n id flag x ≡ on_power_on n id
  unfolding on_warm_on on_power_on
  warm-refused flag x e = go (first_alias id) e
    where
      go : (r : Answer ℕ) → is_refused (powered_by r n id).answer ≡ true → started_by r n id flag x ≡ powered_by r n id
      go (accepted a) e = absurd (false≢true e)
      go (refused number) e = refl

  module _ (free : is_refused (on_power_on n id).answer ≡ false) where
    -- then 18
    pub warm-bad : (flag x : ℕ) → bad_start flag x ≡ true → on_warm_on n id flag x ≡ resulting (refused 18) n n
    unfolding on_warm_on on_power_on
    warm-bad flag x b = go (first_alias id) free
      where
        go : (r : Answer ℕ) → is_refused (powered_by r n id).answer ≡ false → started_by r n id flag x ≡ resulting (refused 18) n n
        go (accepted a) e = rw b refl
        go (refused number) e = absurd (true≢false e)

    -- flag 1, with a state of 48 bits
    pub warm-good : (x : ℕ) → x < 2 ^ 48 → on_warm_on n id 1 x ≡ resulting (accepted done) n (warm id x)
    unfolding on_warm_on on_power_on
    warm-good x h = go (first_alias id) free
      where
        go : (r : Answer ℕ) → is_refused (powered_by r n id).answer ≡ false → started_by r n id 1 x ≡ resulting (accepted done) n (warm id x)
        go (accepted a) e = rw (lt-leb (2 ^ 48) x h) refl
        go (refused number) e = absurd (true≢false e)

-- power-on is refused by 3 alone
pub power-before-15 : (n : Node) (id : ℕ) → is_refused (on_power_on n id).answer ≡ true → is_before15 (on_power_on n id).answer ≡ true
unfolding on_power_on
power-before-15 n id e = go (bad_node_id id) e
  where
    go : (b : Bool) → let o = powered_by (refuse b 3 (accepted (1 + id % 4095))) n id in is_refused o.answer ≡ true → is_before15 o.answer ≡ true
    go true e = refl
    go false e = absurd (false≢true e)

-- where power-on is not refused, a warm one is by 18 alone
pub warm-before-15 : (n : Node) (id flag x : ℕ) → is_refused (on_power_on n id).answer ≡ false → is_before15 (on_warm_on n id flag x).answer ≡ false
unfolding on_power_on on_warm_on
warm-before-15 n id flag x e = go (first_alias id) e
  where
    go : (r : Answer ℕ) → is_refused (powered_by r n id).answer ≡ false → is_before15 (started_by r n id flag x).answer ≡ false
    go (accepted a) e = by-18 (bad_start flag x)
      where
        by-18 : (b : Bool) → is_before15 (resulting (refuse b 18 (accepted done)) n (start_of id a flag x)).answer ≡ false
        by-18 true = refl
        by-18 false = refl
    go (refused number) e = absurd (true≢false e)

-- the two causes of 18
pub flag-above-1 : (flag x : ℕ) → 1 < flag → bad_start flag x ≡ true
flag-above-1 flag x h = ap (λ (b : Bool). b || (eqb flag 1 && leb (2 ^ 48) x)) (lt-ltb 1 flag h)

pub state-above-48-bits : (x : ℕ) → 2 ^ 48 ≤ x → bad_start 1 x ≡ true
state-above-48-bits x h = le-leb (2 ^ 48) x h

-- GIVEN BACK, as it is read out: for the flag 1 where the first alias is past, else 0, and the generator's state.

-- Whatever node m is there, it becomes one that tests the alias that n had, with n's Node ID and generator.
module _ (m n : Node) (h : Sound n) (on : is_off n.phase ≡ false) where
  known : first_alias n.own.id ≡ accepted (1 + n.own.id % 4095)
  known =
      let ne : n.own.id ≢ 0 = λ e. let p = (h.named on).0 in omega (arith, e) in
      λ z. refuse (ne_eqb n.own.id 0 ne z || lt-leb (2 ^ 48) n.own.id h.id z) 3 (accepted (1 + n.own.id % 4095))

  pub given_back : on_warm_on m n.own.id (bit_of n.generator.past) n.generator.state
      ≡ resulting (accepted done) m (fresh n.own.id n.alias n.generator)
  unfolding on_warm_on
  given_back = ap (λ (r : Answer ℕ). started_by r m n.own.id (bit_of n.generator.past) n.generator.state) known ∙ go n.generator.past refl
    where
      id : ℕ
      id = n.own.id

      x : ℕ
      x = n.generator.state

      is : n.alias.0 ≡ alias_by id n.generator
      is = (h.named on).2

      go : (past : Bool) → n.generator.past ≡ past
          → started_by (accepted (1 + id % 4095)) m id (bit_of past) x ≡ resulting (accepted done) m (fresh id n.alias n.generator)
      go true e =
          let a : drawn x ≡ n.alias.0 = sym (is ∙ ap (λ (b : Bool). cond b (drawn x) (1 + id % 4095)) e) in
          ap (λ (b : Bool). resulting (refuse b 18 (accepted done)) m (warm id x)) (lt-leb (2 ^ 48) x h.generator)
          ∙ (λ z. resulting (accepted done) m (fresh id (record { 0 = a z }) (generator x (sym e z))))
      go false e =
          let a : 1 + id % 4095 ≡ n.alias.0 = sym (is ∙ ap (λ (b : Bool). cond b (drawn x) (1 + id % 4095)) e) in
          λ z. resulting (accepted done) m (fresh id (record { 0 = a z }) (generator (sym ((h.named on).3 e) z) (sym e z)))
