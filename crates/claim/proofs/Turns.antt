-- A.8 over lists that the code carried out: a node that keeps a due frame is chosen within 24 choices.
use Rattle.std.specs.Prelude.{◌≡◌, refl, true, List, [], ◌∷◌, ◌++◌, ℕ, ◌<◌, ◌≤◌, length, drop}
use Rattle.std.proofs.Common.{ap, ◌∙◌}
use Rattle.segment_rules.specs.Rules.{places, Segment, Command, start, Told, step, run, answers}
use Rattle.segment_rules.specs.Turns.{choices, due_at_each, named_in}
use Rattle.segment_rules.proofs.Turns.{within-24}
use Rattle.claim.specs.Claim.{Carried}
use Rattle.claim.proofs.Claim.{claim}

-- the answers to the later part of a list
later : (S : Segment) (before cs : List Command) → drop (length before) (answers S (before ++ cs)) ≡ answers (run S before) cs
unfolding run answers
later S [] cs = refl
later S (c ∷ before) cs = later (step S c) before cs

-- Whatever list stands before: where in the commands after it, 24 choices or more among them, node k has a due frame at each choice, one
-- of their answers names it.
pub chosen-within-24 : (before cs : List Command) {xs : List Told} {t : List ℕ} → Carried (before ++ cs) xs t
    → (k : ℕ) → k < places → places ≤ choices cs → due_at_each k (run start before) cs ≡ true → named_in k (drop (length before) xs) ≡ true
chosen-within-24 before cs r k h l due =
    ap (λ (xs : List Told). named_in k (drop (length before) xs)) (claim r).answered
    ∙ ap (named_in k) (later start before cs)
    ∙ within-24 before cs k h l due
