-- A.3's limits cannot be loosened: lists within limits just beyond them, after which two nodes use one alias.
use Rattle.std.specs.Prelude.{◌≡◌, refl, Bool, true, false, List, ℕ, ◌+◌, ◌*◌, ◌<◌, ◌≤◌, ltb}
use Rattle.std.proofs.Common.{sym, ◌∙◌, arith, ltb-true, ltb-false}
use Rattle.headers.specs.Rules.{kind_in}
use Rattle.node.specs.Rules.{off_node, fresh, moved, counted, waits, cid_frame, rid_frame, amd_frame, first_waiting, due_of, tick_of, sent_permitted, sent_of, same_alias, received, on_power_on, on_leave, on_release}
use Rattle.segment_rules.specs.Rules.{start, Command, some_other, run, old, kept, no_ages}
use Rattle.claim.proofs.Single.{single}
use Rattle.claim.specs.Claim.{most_sum, Allowed}
use Rattle.claim.proofs.Claim.{kept_more, below-wait}
use Rattle.claim.specs.Sharp.{Safe, Broken, late_reply, late_amr, Corner}

-- By computation. A late reply where 2 × i + o alone is 201, a late AMR where i + 2 × o alone is, a late reply where both are; and
-- a tick beyond (100, 0) and (0, 100), either way.
pub broken :
    Broken 68 65 (late_reply 68 65 68) × Broken 65 68 (late_amr 65 68 68) × Broken 67 67 (late_reply 67 67 67)
    × Broken 101 0 (late_reply 101 0 100) × Broken 100 1 (late_reply 100 1 100) × Broken 0 101 (late_amr 0 101 100) × Broken 1 100 (late_amr 1 100 100)
unfolding run some_other old kept off_node fresh moved counted waits cid_frame rid_frame amd_frame first_waiting due_of tick_of sent_permitted sent_of same_alias received on_power_on on_leave on_release kind_in
broken = (
  record { within = refl; alias = 0x263; first = (refl, refl); second = (refl, refl) },
  record { within = refl; alias = 0x263; first = (refl, refl); second = (refl, refl) },
  record { within = refl; alias = 0x263; first = (refl, refl); second = (refl, refl) },
  record { within = refl; alias = 0x263; first = (refl, refl); second = (refl, refl) },
  record { within = refl; alias = 0x263; first = (refl, refl); second = (refl, refl) },
  record { within = refl; alias = 0x263; first = (refl, refl); second = (refl, refl) },
  record { within = refl; alias = 0x263; first = (refl, refl); second = (refl, refl) },
)

-- WHAT FOLLOWS

-- limits as great as those of such a list, or greater, are not safe
not-safe : (i o i' o' : ℕ) {cs : List Command} → Broken i o cs → i ≤ i' → o ≤ o' → Safe i' o' → ⊥
not-safe i o i' o' {cs} b hi ho safe =
    safe cs (kept_more i o i' o' hi ho start no_ages cs b.within) 0 1 (omega arith) (omega arith) (λ e. omega (arith, e))
    b.first.0 b.second.0 (b.first.1 ∙ sym b.second.1)

-- What A.3 allows is safe, and neither of its sums may be more than 200.
pub safe : (i o : ℕ) → Allowed i o → Safe i o
safe i o h = let b = below-wait i o h in single i o b.0 b.1

pub no-looser : (a b : ℕ) → most_sum ≤ a → most_sum ≤ b → ((i o : ℕ) → 2 * i + o ≤ a → i + 2 * o ≤ b → Safe i o) → (a ≡ most_sum) × (b ≡ most_sum)
no-looser a b ha hb all = (
  at_most a ha (λ h. not-safe 68 65 68 65 broken.0 (omega arith) (omega arith) (all 68 65 (omega (arith, h)) (omega (arith, hb)))),
  at_most b hb (λ h. not-safe 65 68 65 68 broken.1 (omega arith) (omega arith) (all 65 68 (omega (arith, ha)) (omega (arith, h)))),
)
  where
    at_most : (x : ℕ) → most_sum ≤ x → (most_sum < x → ⊥) → x ≡ most_sum
    at_most x h less = go (ltb most_sum x) refl
      where
        go : (c : Bool) → ltb most_sum x ≡ c → x ≡ most_sum
        go true e = absurd (less (ltb-true most_sum x e))
        go false e = let le = ltb-false most_sum x e in omega (arith, h, le)

-- (66, 66) is allowed and is no corner, since (67, 66) and (66, 67) are allowed.
pub corners : Corner 100 0 × Corner 0 100 × Corner 67 66 × Corner 66 67 × Allowed 66 66
corners = (
  ((omega arith, omega arith), not-safe 101 0 101 0 broken.3 (omega arith) (omega arith), not-safe 100 1 100 1 broken.4 (omega arith) (omega arith)),
  ((omega arith, omega arith), not-safe 1 100 1 100 broken.6 (omega arith) (omega arith), not-safe 0 101 0 101 broken.5 (omega arith) (omega arith)),
  ((omega arith, omega arith), not-safe 68 65 68 66 broken.0 (omega arith) (omega arith), not-safe 67 67 67 67 broken.2 (omega arith) (omega arith)),
  ((omega arith, omega arith), not-safe 67 67 67 67 broken.2 (omega arith) (omega arith), not-safe 65 68 66 68 broken.1 (omega arith) (omega arith)),
  (omega arith, omega arith),
)
