-- What the theorems of proofs/Scripts.antt speak of; these definitions are to be believed.
use Rattle.std.specs.Prelude.{ℕ, ◌≤◌, ◌<◌, List, length}
use Rattle.script.specs.Rules.{Found, command, refusal, nothing}

-- What is found at the head of s, in bounds; a refusal's number has two digits at most.
abbrev pub Bounded : List ℕ → Found → Type 0
Bounded s (command b c took) = (1 ≤ took) × (took ≤ length s)
Bounded s (refusal b n) = (1 ≤ length s) × (n < 100)
Bounded s nothing = Unit {0}

-- The bytes of a command; a reader moves on by so many.
abbrev pub taken : Found → ℕ
taken (command b c took) = took
taken (refusal b n) = 0
taken nothing = 0
