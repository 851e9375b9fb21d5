-- What an accepted command has passed: none of its refusals stood.
use Rattle.std.specs.Prelude.{◌≡◌, Bool, false, ◌&&◌, ℕ, ◌<◌, leb, eqb}
use Rattle.std.proofs.Common.{leb-false}
use Rattle.headers.proofs.Laws.{not-accepted, passed}
use Rattle.node.specs.Rules.{Answer, accepted, refused, Value}
use Rattle.segment_rules.specs.Rules.{places, Segment, Act, one, then_refuse, then_in_use, indexed, answer_at, id_in_use, answer}

-- the index
pub inside : (n : ℕ) (x : Answer Value) (v : Value) → indexed n x ≡ accepted v → (n < places) × (x ≡ accepted v)
inside n x v e = let q = passed (leb places n) 1 x v e in (leb-false places n q.0, q.1)

-- what the node answers, and what is tested after it
pub then-passed : (x : Answer Value) (b : Bool) (number : ℕ) (v : Value) → then_refuse x b number ≡ accepted v → (x ≡ accepted v) × (b ≡ false)
then-passed (accepted w) b number v e = let q = passed b number (accepted w) v e in (q.1, q.0)
then-passed (refused first) b number v e = absurd (not-accepted first v e)

in-use-passed : (x : Answer Value) (used : Bool) (v : Value) → then_in_use x used ≡ accepted v → (x ≡ accepted v) × (used ≡ false)
in-use-passed (accepted w) used v e = let q = passed used 15 (accepted w) v e in (q.1, q.0)
in-use-passed (refused number) used v e = absurd (not-accepted number v (passed (used && eqb number 18) 15 (refused number) v e).1)

pub one-passed : (S : Segment) (n : ℕ) (x : Act) (v : Value) → answer S (one n x) ≡ accepted v
    → (n < places) × (answer_at (S.at n) x ≡ accepted v) × (id_in_use S n x ≡ false)
one-passed S n x v e =
    let q = inside n _ v e in
    let r = in-use-passed (answer_at (S.at n) x) (id_in_use S n x) v q.1 in
    (q.0, r.0, r.1)
