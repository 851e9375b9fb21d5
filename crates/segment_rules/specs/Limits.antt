-- That no age exceeds a limit: of inbox frames, of what waits for an alias, at a node.
use Rattle.std.specs.Prelude.{List, [], ◌∷◌, ℕ, ◌≤◌, Option, Some, None}
use Rattle.node.specs.Rules.{timed_for}
use Rattle.node.specs.declared.Node.{Node}
use Rattle.state.specs.declared.Timed.{Timed}
use Rattle.state.specs.declared.Timed.TheVariants.{Reply, Amr}
use Rattle.segment_rules.specs.Rules.{Ages}

-- no age above a limit, in an inbox and of what waits
abbrev pub AgesTo : ℕ → List ℕ → Type 0
AgesTo i [] = Unit {0}
AgesTo i (g ∷ gs) = (g ≤ i) × AgesTo i gs

abbrev pub OutTo : ℕ → Option Timed → ℕ → Type 0
OutTo o None r = Unit {0}
OutTo o (Some Reply) r = r ≤ o
OutTo o (Some Amr) r = r ≤ o

-- No age at a node exceeds i for inbox frames, o for what waits.
pub record InLimit (i o : ℕ) (n : Node) (g : Ages) : Type 0 where
  pub inbox : AgesTo i g.inbox
  pub waiting : (a : ℕ) → OutTo o (timed_for n a) (g.waiting a)
