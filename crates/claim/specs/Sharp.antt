-- What the theorems of proofs/Sharp.antt speak of; these definitions are to be believed.
use Rattle.std.specs.Prelude.{◌≡◌, ◌≢◌, true, List, [], ◌∷◌, ◌++◌, ℕ, ◌+◌, ◌<◌, replicate}
use Rattle.node.specs.Rules.{wait, uses}
use Rattle.segment_rules.specs.Rules.{places, start, Command, send, tick, power_on, deliver, release, run, is_kept}
use Rattle.claim.specs.Claim.{Allowed}

-- No two nodes use one alias, after every list within these limits.
abbrev pub Safe : (i o : ℕ) → Type 0
Safe i o = (cs : List Command) → is_kept i o cs ≡ true → (p q : ℕ) → p < places → q < places → p ≢ q
    → uses ((run start cs).at p).node.phase ≡ true → uses ((run start cs).at q).node.phase ≡ true
    → ((run start cs).at p).node.alias.0 ≢ ((run start cs).at q).node.alias.0

-- A list within these limits, after which nodes 0 and 1 use one alias.
pub record Broken (i o : ℕ) (cs : List Command) : Type 0 where
  pub within : is_kept i o cs ≡ true
  pub alias : ℕ
  pub first : (uses ((run start cs).at 0).node.phase ≡ true) × (((run start cs).at 0).node.alias.0 ≡ alias)
  pub second : (uses ((run start cs).at 1).node.phase ≡ true) × (((run start cs).at 1).node.alias.0 ≡ alias)

-- THE LISTS

-- Node 0 is Permitted with its first alias. Node 1, whose Node ID is 4095 higher, tests the same one: its four CIDs have left.
abbrev pub contest : List Command
contest =
    power_on 0 0x050101010101 ∷ replicate 4 (send 0) ++ replicate wait tick ++ send 0 ∷ send 0
    ∷ power_on 1 0x050101011100 ∷ replicate 4 (send 1)

-- They stand in node 0's inbox for so many ticks and are delivered, and the reply RID that they set waiting waits for so many.
abbrev pub asked : (stand waiting : ℕ) → List Command
asked stand waiting = contest ++ replicate stand tick ++ replicate 4 (deliver 0) ++ replicate waiting tick

-- The reply leaves, and stands in node 1's inbox for so many ticks. Then node 1's reserving RID leaves.
abbrev pub late_reply : (stand waiting again : ℕ) → List Command
late_reply i o again = asked i o ++ send 0 ∷ replicate again tick ++ send 1 ∷ []

-- Node 0 is released, and its AMR, which takes the reply's place, waits for so many ticks. Then node 1's reserving RID leaves.
abbrev pub late_amr : (stand waiting again : ℕ) → List Command
late_amr i o again = asked i o ++ release 0 ∷ replicate again tick ++ send 1 ∷ []

-- A corner of what A.3 allows: one tick more for either limit is not safe.
abbrev pub Corner : (i o : ℕ) → Type 0
Corner i o = Allowed i o × (Safe (i + 1) o → ⊥) × (Safe i (o + 1) → ⊥)
