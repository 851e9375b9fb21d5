-- What the theorems of proofs/WarmStarts.antt speak of; these definitions are to be believed.
use Rattle.std.specs.Prelude.{◌≡◌, [], ℕ}
use Rattle.node.specs.Rules.{accepted, done, fresh}
use Rattle.headers.specs.Answers.{bit_of}
use Rattle.node.specs.declared.Generator.{Generator}
use Rattle.node.specs.declared.Node.{Node}
use Rattle.segment_rules.specs.Rules.{place, Segment, Command, warm_on, answer, told, step, Ages, age_step, ticks}

-- FLAG 0

-- Two commands do the same to a segment: what they answer, the segment after them, and all ages.
pub record Same (S : Segment) (c d : Command) : Type 0 where
  pub told : told S c ≡ told S d
  pub segment : step S c ≡ step S d
  pub ages : (G : ℕ → Ages) → age_step ticks S G c ≡ age_step ticks S G d

-- GIVEN BACK

-- A read-out g is given back at place j: the flag is 1 where the first alias was past, else 0.
abbrev pub back : (j id : ℕ) → Generator → Command
back j id g = warm_on j id (bit_of g.past) g.state

-- On the segment T the read-out g of the node n is given back at place j: the power-on is accepted, and the node there tests the
-- alias that n had, from its first CID on, with n's Node ID and generator and nothing in its inbox.
pub record Returns (T : Segment) (j : ℕ) (n : Node) (g : Generator) : Type 0 where
  pub accepted : answer T (back j n.own.id g) ≡ accepted done
  pub place : (step T (back j n.own.id g)).at j ≡ place (fresh n.own.id n.alias g) []
