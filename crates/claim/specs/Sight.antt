-- What the theorems of proofs/Sight.antt speak of; these definitions are to be believed.
use Rattle.std.specs.Prelude.{◌≡◌, ◌⊎◌, List, [], ◌∷◌, ℕ}
use Rattle.node.specs.Stand.{Stand, timed_by}
use Rattle.headers.specs.declared.frame.Frame.{Frame}
use Rattle.segment_rules.specs.Rules.{ages_on}

abbrev pub ages_between : Stand → Stand → ℕ → ℕ
ages_between s t r = ages_on (timed_by s) (timed_by t) r

-- FRAMES IN AN INBOX

-- some frame of which Q holds is in the inbox, and has this age
abbrev pub Heard : (Frame → Type 0) → List Frame → List ℕ → ℕ → Type 0
Heard Q [] gs g = ⊥
Heard Q (f ∷ fs) [] g = ⊥
Heard Q (f ∷ fs) (h ∷ hs) g = (Q f × (h ≡ g)) ⊎ Heard Q fs hs g
