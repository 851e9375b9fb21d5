-- How a node stands on the bus to one alias, which is all that the argument for that alias sees of it, and the ways that
-- this changes. A stand names no alias.
use Rattle.std.specs.Prelude.{◌≡◌, refl, ◌⊎◌, ℕ, ◌+◌, ◌≤◌}
use Rattle.std.proofs.Common.{sym, inl, inr, arith}
use Rattle.headers.specs.declared.frame.Frame.{Frame}
use Rattle.node.specs.Stand.{Stand, Uses, Tests, Tells, Asks, Turns, stops, ower-leaves, still-departs, begins-to-owe, still-owes, holder-leaves, Grows, rests, advances, Sends, takes, as_before, asks, replies, ends}

-- An alias is never used that was not reserved.

pub turns-uses : {s t : Stand} → Turns s t → Uses t → Uses s
turns-uses (stops s) u = absurd u
turns-uses begins-to-owe u = u
turns-uses still-owes u = u
turns-uses still-departs u = u
turns-uses holder-leaves u = u
turns-uses ower-leaves u = u

pub turns-tests : {s t : Stand} → Turns s t → (w : ℕ) → Tests t w → ⊥
turns-tests (stops s) w h = h
turns-tests begins-to-owe w h = h
turns-tests still-owes w h = h
turns-tests still-departs w h = h
turns-tests holder-leaves w h = h
turns-tests ower-leaves w h = h

module _ (wait a : ℕ) (f : Frame) where
  pub sends-uses : {s t : Stand} → Sends wait a f s t → Uses t → Uses s ⊎ ((w : ℕ) × Tests s w × (wait ≤ w) × Tells a f)
  sends-uses (ends s) u = absurd u
  sends-uses (asks t) u = absurd u
  sends-uses (takes w le t) u = inr (w, refl, le, t)
  sends-uses (replies t) u = inl u
  sends-uses (as_before s) u = inl u

  pub sends-tests : {s t : Stand} → Sends wait a f s t → (w : ℕ) → Tests t w → Tests s w ⊎ ((w ≡ 0) × Asks a f × Tells a f)
  sends-tests (ends s) w h = absurd h
  sends-tests (asks t) w h = inr (sym h, t, t.0)
  sends-tests (takes v le t) w h = absurd h
  sends-tests (replies t) w h = absurd h
  sends-tests (as_before s) w h = inl h

module _ (d : ℕ) where
  pub grows-uses : {s t : Stand} → Grows d s t → Uses t → Uses s
  grows-uses (advances w v le) u = u
  grows-uses (rests s) u = u

  pub grows-tests : {s t : Stand} → Grows d s t → (v : ℕ) → Tests t v → (w : ℕ) × Tests s w × (v ≤ w + d)
  grows-tests (advances w x le) v h = (w, refl, omega (arith, h))
  grows-tests (rests s) v h = (v, h, omega arith)
