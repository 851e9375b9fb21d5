-- The argument: why two places on a bus never use one alias. It is about one alias, which it does not name, and knows
-- nothing of nodes, only laws about six predicates. Only a test that has waited long enough makes a user. Until then a user of
-- the alias knows of the test, or a frame with the alias is on its way to the tester; and of two tests one has such a frame
-- in its inbox.
use Rattle.std.specs.Prelude.{◌≡◌, ◌≢◌, ◌⊎◌, ℕ, ◌+◌, ◌≤◌, ◌<◌}
use Rattle.std.proofs.Common.{sym, subst, inl, inr, arith}
use Rattle.std.proofs.Math.Logic.{Ne-symm, ⊎_map, ⊎_swap}
use Rattle.std.proofs.Math.Decide.{ℕ_discrete}
use Rattle.claim.specs.Bus.{Talk}

-- THE LAWS of a place that need no limit
module _ (P F : Type 0) (t : Talk P F) where
  open t use {Uses, Tests, Knows, Hears, Tells, Asks}

  -- a place that sends nothing: it takes up no alias, and loses nothing of what it must know or hear
  pub record Local (p q : P) : Type 0 where
    pub uses : Uses q → Uses p
    pub knows : (w : ℕ) → Uses q → Knows p w → Knows q w
    pub tests : (w : ℕ) → Tests q w → Tests p w
    pub hears : (w g : ℕ) → Tests q w → Hears p g → Hears q g

  -- a place that f reaches
  pub record Gets (f : F) (p q : P) : Type 0 where
    pub uses : Uses q → Uses p
    pub knows : (w : ℕ) → Knows p w → Knows q w
    pub tests : (w : ℕ) → Tests q w → Tests p w
    pub hears : (g : ℕ) → Hears p g → Hears q g
    pub told : (w : ℕ) → Tells f → Tests p w → Hears q 0
    pub asked : Asks f → Uses p → Knows q 0

  -- a place at which the time d passes
  pub record Passes (d : ℕ) (p q : P) : Type 0 where
    pub uses : Uses q → Uses p
    pub knows : (w v : ℕ) → v ≤ w + d → Knows p w → Knows q v
    pub tests : (v : ℕ) → Tests q v → (w : ℕ) × Tests p w × (v ≤ w + d)
    pub hears : (g : ℕ) → Hears p g → Hears q (g + d)

  pub local-refl : (p : P) → Local p p
  local-refl p = record {
    uses = λ u. u;
    knows = λ w u k. k;
    tests = λ w h. h;
    hears = λ w g h k. k;
  }

  pub gets-local : (f : F) (p q : P) → Gets f p q → Local p q
  gets-local f p q g = record {
    uses = g.uses;
    knows = λ w u k. g.knows w k;
    tests = g.tests;
    hears = λ w x h k. g.hears x k;
  }

-- Under the limits i for inbox frames and o for what waits, and the length of a test.
module _ (P F : Type 0) (t : Talk P F) (i o wait : ℕ) where
  open t use {Uses, Tests, Knows, Hears, Tells, Asks}

  -- a place that sends f
  pub record Emits (f : F) (p q : P) : Type 0 where
    pub uses : Uses q → Uses p ⊎ ((w : ℕ) × Tests p w × (wait ≤ w) × Tells f)
    pub knows : (w : ℕ) → Uses p → Uses q → Knows p w → Knows q w ⊎ (Tells f × (w ≤ i + o))
    pub tests : (w : ℕ) → Tests q w → Tests p w ⊎ ((w ≡ 0) × Asks f × Tells f)
    pub hears : (w g : ℕ) → Tests q w → Hears p g → Hears q g

  -- a place within the limits
  pub record Kept (p : P) : Type 0 where
    pub hears : (g : ℕ) → Hears p g → g ≤ i
    pub knows : (w : ℕ) → Uses p → Knows p w → w ≤ i + o + o

  -- What happens on the bus: each place on its own (or a frame from elsewhere reaches it), one place sends to all others,
  -- time passes.
  pub data Step (T S : ℕ → P) : Type 0 where
    local : ((k : ℕ) → Local P F t (T k) (S k)) → Step T S
    sent : (n : ℕ) (f : F) → Emits f (T n) (S n) → ((k : ℕ) → k ≢ n → Gets P F t f (T k) (S k)) → Step T S
    passed : (d : ℕ) → ((k : ℕ) → Passes P F t d (T k) (S k)) → Step T S

  -- THE INVARIANT

  -- a frame with the alias is to come, that is at least as old as the test; or that old, but for both limits
  abbrev pub Within : P → ℕ → Type 0
  Within p w = (g : ℕ) × Hears p g × (w ≤ g)

  abbrev pub Near : P → ℕ → Type 0
  Near p w = (g : ℕ) × Hears p g × (w ≤ i + o + g)

  pub record Inv (T : ℕ → P) : Type 0 where
    pub single : (p q : ℕ) → p ≢ q → Uses (T p) → Uses (T q) → ⊥
    pub cross : (p q w : ℕ) → p ≢ q → Uses (T p) → Tests (T q) w → Knows (T p) w ⊎ Near (T q) w
    pub both : (p q w v : ℕ) → p ≢ q → Tests (T p) w → Tests (T q) v → Within (T p) v ⊎ Within (T q) w

  module _ (p q : P) (w : ℕ) (still : (g : ℕ) → Hears p g → Hears q g) where
    within : Within p w → Within q w
    within n = (n.0, still n.0 n.1, n.2)

    near : Near p w → Near q w
    near n = (n.0, still n.0 n.1, n.2)

  module _ (T S : ℕ → P) (inv : Inv T) where
    -- two places, each on its own
    module _ (p q : ℕ) (ne : p ≢ q) (L : Local P F t (T p) (S p)) (M : Local P F t (T q) (S q)) where
      own-single : Uses (S p) → Uses (S q) → ⊥
      own-single u v = inv.single p q ne (L.uses u) (M.uses v)

      own-cross : (w : ℕ) → Uses (S p) → Tests (S q) w → Knows (S p) w ⊎ Near (S q) w
      own-cross w u h =
          ⊎_map (λ (k : Knows (T p) w). L.knows w u k) (near (T q) (S q) w (λ g k. M.hears w g h k))
          (inv.cross p q w ne (L.uses u) (M.tests w h))

      own-both : (w v : ℕ) → Tests (S p) w → Tests (S q) v → Within (S p) v ⊎ Within (S q) w
      own-both w v h k =
          ⊎_map (within (T p) (S p) v (λ g x. L.hears w g h x)) (within (T q) (S q) w (λ g x. M.hears v g k x))
          (inv.both p q w v ne (L.tests w h) (M.tests v k))

    local-inv : ((k : ℕ) → Local P F t (T k) (S k)) → Inv S
    local-inv L = record {
      single = λ p q ne u v. own-single p q ne (L p) (L q) u v;
      cross = λ p q w ne u h. own-cross p q ne (L p) (L q) w u h;
      both = λ p q w v ne h k. own-both p q ne (L p) (L q) w v h k;
    }

    module _ (d : ℕ) (L : (k : ℕ) → Passes P F t d (T k) (S k)) where
      passed-cross : (p q v : ℕ) → p ≢ q → Uses (S p) → Tests (S q) v → Knows (S p) v ⊎ Near (S q) v
      passed-cross p q v ne u h =
          let w = (L q).tests v h in
          ⊎_map (λ (k : Knows (T p) w.0). (L p).knows w.0 v w.2 k)
          (λ (n : Near (T q) w.0). (n.0 + d, (L q).hears n.0 n.1, omega (arith, n.2, w.2)))
          (inv.cross p q w.0 ne ((L p).uses u) w.1)

      later : (p : ℕ) (w v : ℕ) → v ≤ w + d → Within (T p) w → Within (S p) v
      later p w v le n = (n.0 + d, (L p).hears n.0 n.1, omega (arith, n.2))

      passed-both : (p q w v : ℕ) → p ≢ q → Tests (S p) w → Tests (S q) v → Within (S p) v ⊎ Within (S q) w
      passed-both p q w v ne h k =
          let h' = (L p).tests w h in
          let k' = (L q).tests v k in
          ⊎_map (later p k'.0 v k'.2) (later q h'.0 w h'.2)
          (inv.both p q h'.0 k'.0 ne h'.1 k'.1)

      passed-inv : Inv S
      passed-inv = record {
        single = λ p q ne u v. inv.single p q ne ((L p).uses u) ((L q).uses v);
        cross = passed-cross;
        both = passed-both;
      }

    -- place n sends f
    module _ (fits : i + o + i < wait) (fits' : i + o + o < wait) (kept : (k : ℕ) → Kept (T k)) (n : ℕ) (f : F)
        (E : Emits f (T n) (S n)) (G : (k : ℕ) → k ≢ n → Gets P F t f (T k) (S k)) where
      -- a test that has waited long enough meets no user
      alone : (q w : ℕ) → q ≢ n → Uses (T q) → Tests (T n) w → wait ≤ w → ⊥
      alone q w ne u h le = go (inv.cross q n w ne u h)
        where
          go : Knows (T q) w ⊎ Near (T n) w → ⊥
          go (inl k) = omega (arith, (kept q).knows w u k)
          go (inr m) = omega (arith, m.2, (kept n).hears m.0 m.1)

      single-n : (q : ℕ) → q ≢ n → Uses (S n) → Uses (T q) → ⊥
      single-n q ne u v = go (E.uses u)
        where
          go : Uses (T n) ⊎ ((w : ℕ) × Tests (T n) w × (wait ≤ w) × Tells f) → ⊥
          go (inl u₀) = inv.single q n ne v u₀
          go (inr h) = alone q h.0 ne v h.1 h.2

      -- it uses, another tests
      cross-n : (q w : ℕ) → q ≢ n → Uses (S n) → Tests (S q) w → Knows (S n) w ⊎ Near (S q) w
      cross-n q w ne u h = go (E.uses u)
        where
          g : Gets P F t f (T q) (S q)
          g = G q ne

          h₀ : Tests (T q) w
          h₀ = g.tests w h

          now : Tells f → w ≤ i + o → Near (S q) w
          now tl le = (0, g.told w tl h₀, omega arith)

          still : Knows (S n) w ⊎ (Tells f × (w ≤ i + o)) → Knows (S n) w ⊎ Near (S q) w
          still (inl k) = inl k
          still (inr m) = inr (now m.0 m.1)

          user : Uses (T n) → Knows (T n) w ⊎ Near (T q) w → Knows (S n) w ⊎ Near (S q) w
          user u₀ (inl k) = still (E.knows w u₀ u k)
          user u₀ (inr m) = inr (near (T q) (S q) w g.hears m)

          new : (v : ℕ) → wait ≤ v → Tells f → Within (T n) w ⊎ Within (T q) v
              → Knows (S n) w ⊎ Near (S q) w
          new v le tl (inl m) = inr (now tl (omega (arith, m.2, (kept n).hears m.0 m.1)))
          new v le tl (inr m) = absurd (omega (arith, m.2, (kept q).hears m.0 m.1))

          go : Uses (T n) ⊎ ((v : ℕ) × Tests (T n) v × (wait ≤ v) × Tells f) → Knows (S n) w ⊎ Near (S q) w
          go (inl u₀) = user u₀ (inv.cross n q w (Ne-symm ne) u₀ h₀)
          go (inr m) = new m.0 m.2 m.3 (inv.both n q m.0 w (Ne-symm ne) m.1 h₀)

      -- another uses, it tests
      cross-at-n : (p w : ℕ) → p ≢ n → Uses (S p) → Tests (S n) w → Knows (S p) w ⊎ Near (S n) w
      cross-at-n p w ne u h = go (E.tests w h)
        where
          g : Gets P F t f (T p) (S p)
          g = G p ne

          go : Tests (T n) w ⊎ ((w ≡ 0) × Asks f × Tells f) → Knows (S p) w ⊎ Near (S n) w
          go (inl h₀) =
              ⊎_map (g.knows w) (near (T n) (S n) w (λ x k. E.hears w x h k))
              (inv.cross p n w ne (g.uses u) h₀)
          go (inr m) = inl (subst (λ (x : ℕ). Knows (S p) x) (sym m.0) (g.asked m.1 (g.uses u)))

      -- both test
      both-n : (q w v : ℕ) → q ≢ n → Tests (S n) w → Tests (S q) v → Within (S q) w ⊎ Within (S n) v
      both-n q w v ne h k = go (E.tests w h)
        where
          g : Gets P F t f (T q) (S q)
          g = G q ne

          k₀ : Tests (T q) v
          k₀ = g.tests v k

          go : Tests (T n) w ⊎ ((w ≡ 0) × Asks f × Tells f) → Within (S q) w ⊎ Within (S n) v
          go (inl h₀) =
              ⊎_map (within (T q) (S q) w g.hears) (within (T n) (S n) v (λ x y. E.hears w x h y))
              (inv.both q n v w ne k₀ h₀)
          go (inr m) = inl (0, g.told v m.2 k₀, omega (arith, m.0))

      other : (k : ℕ) → k ≢ n → Local P F t (T k) (S k)
      other k d = gets-local P F t f (T k) (S k) (G k d)

      apart : (p q : ℕ) → p ≢ q → p ≡ n → q ≢ n
      apart p q ne e d = ne cc

      sent-inv : Inv S
      sent-inv = record {
        single = λ p q ne u v. singled p q ne u v (ℕ_discrete p n) (ℕ_discrete q n);
        cross = λ p q w ne u h. crossed p q w ne u h (ℕ_discrete p n) (ℕ_discrete q n);
        both = λ p q w v ne h k. met p q w v ne h k (ℕ_discrete p n) (ℕ_discrete q n);
      }
        where
          singled : (p q : ℕ) → p ≢ q → Uses (S p) → Uses (S q) → Dec (p ≡ n) → Dec (q ≡ n) → ⊥
          singled p q ne u v (yes e) d =
              let ne' = apart p q ne e in single-n q ne' (rw (← e) u) ((G q ne').uses v)
          singled p q ne u v (no d) (yes e) = single-n p d (rw (← e) v) ((G p d).uses u)
          singled p q ne u v (no d) (no e) = own-single p q ne (other p d) (other q e) u v

          crossed : (p q w : ℕ) → p ≢ q → Uses (S p) → Tests (S q) w → Dec (p ≡ n) → Dec (q ≡ n)
              → Knows (S p) w ⊎ Near (S q) w
          crossed p q w ne u h (yes e) d = rw e (cross-n q w (apart p q ne e) (rw (← e) u) h)
          crossed p q w ne u h (no d) (yes e) = rw e (cross-at-n p w d u (rw (← e) h))
          crossed p q w ne u h (no d) (no e) = own-cross p q ne (other p d) (other q e) w u h

          met : (p q w v : ℕ) → p ≢ q → Tests (S p) w → Tests (S q) v → Dec (p ≡ n) → Dec (q ≡ n)
              → Within (S p) v ⊎ Within (S q) w
          met p q w v ne h k (yes e) d = rw e (⊎_swap (both-n q w v (apart p q ne e) (rw (← e) h) k))
          met p q w v ne h k (no d) (yes e) = rw e (both-n p v w d (rw (← e) k) h)
          met p q w v ne h k (no d) (no e) = own-both p q ne (other p d) (other q e) w v h k

  pub step-inv : i + o + i < wait → i + o + o < wait → (T S : ℕ → P) → ((k : ℕ) → Kept (T k)) → Step T S → Inv T → Inv S
  step-inv x y T S kept (local L) inv = local-inv T S inv L
  step-inv x y T S kept (sent n f E G) inv = sent-inv T S inv x y kept n f E G
  step-inv x y T S kept (passed d L) inv = passed-inv T S inv d L
