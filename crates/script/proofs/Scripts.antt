-- Laws of scripts: a command takes a byte or more and no more than there are, so that the bound of `read_up_to` ends none.
use Rattle.std.specs.Prelude.{◌≡◌, refl, ℕ, zero, suc, ◌+◌, ◌^◌, ◌≤◌, ◌<◌, Bool, true, false, cond, List, [], ◌∷◌, leb, length, drop}
use Rattle.std.proofs.Common.{ap, subst, arith, add-one, leb-true, length-drop}
use Rattle.segment_rules.specs.Rules.{Command}
use Rattle.script.specs.Rules.{number, Form, operand, makes, unknown, form, Found, command, refusal, nothing, found, read_of, Script, next, onward, read_up_to, script_of}
use Rattle.script.specs.Scripts.{Bounded, taken}

module _ (b : ℕ) (s : List ℕ) (some : 1 ≤ length s) where
  by-test : (t : Bool) (c : Command) (from : ℕ) → leb from (length s) ≡ t → 1 ≤ from → Bounded s (cond t (command b c from) (refusal b 11))
  by-test true c from e h = (omega arith, leb-true from (length s) e)
  by-test false c from e h = (omega arith, omega arith)

  by_form : (F : Form) (from : ℕ) → 1 ≤ from → Bounded s (found b F from s)
  by_form (operand width then) from h = by_form (then (number s from width)) (from + width) (omega arith)
  by_form (makes c) from h = by-test (leb from (length s)) c from refl h
  by_form unknown from h = (omega arith, omega arith)

pub bounded : (s : List ℕ) → Bounded s (read_of s)
unfolding read_of
bounded [] = tt
bounded (b ∷ s) = by_form b (b ∷ s) (omega arith) (form b) 1 (omega arith)

by-bound : (s : List ℕ) (f : Found) → Bounded s f → taken f ≤ length s
by-bound s (command b c took) h = h.1
by-bound s (refusal b n) h = omega arith
by-bound s nothing h = omega arith

pub taken-within : (s : List ℕ) → taken (read_of s) ≤ length s
taken-within s = by-bound s (read_of s) (bounded s)

-- So the place behind it is a number of 64 bits where the place and the length are.
pub moves-within : (s : List ℕ) (at : ℕ) → at < 2 ^ 64 → length s < 2 ^ 64 → at + taken (read_of (drop at s)) < 2 ^ 64
moves-within s at h l = omega (arith, taken-within (drop at s), length-drop at s)

pub next-takes : (s : List ℕ) {b : ℕ} {c : Command} {took : ℕ} → read_of s ≡ command b c took → (1 ≤ took) × (took ≤ length s)
next-takes s e = subst (Bounded s) e (bounded s)

by-found : (s : List ℕ) (F G : ℕ → Script) → ((u : ℕ) → 1 ≤ u → u ≤ length s → F u ≡ G u) → (f : Found) → Bounded s f → onward f F ≡ onward f G
unfolding onward
by-found s F G same (command b c u) h = ap (next b c) (same u h.0 h.1)
by-found s F G same (refusal b n) h = refl
by-found s F G same nothing h = refl

-- Any bound that is enough gives the same script,
enough : (j k : ℕ) (s : List ℕ) → length s < j → length s < k → read_up_to j s ≡ read_up_to k s
unfolding read_up_to
enough zero k s hj hk = absurd (omega arith)
enough (suc j) zero s hj hk = absurd (omega arith)
enough (suc j) (suc k) s hj hk =
    by-found s (λ u. read_up_to j (drop u s)) (λ u. read_up_to k (drop u s))
    (λ u lo hi. enough j k (drop u s) (omega (arith, length-drop u s)) (omega (arith, length-drop u s))) (read_of s) (bounded s)

-- and so a script goes on as its bytes do.
pub goes_on : (s : List ℕ) → script_of s ≡ onward (read_of s) (λ u. script_of (drop u s))
unfolding read_up_to
goes_on s =
    rw (add-one (length s))
    (by-found s (λ u. read_up_to (length s) (drop u s)) (λ u. script_of (drop u s))
    (λ u lo hi. enough (length s) (length (drop u s) + 1) (drop u s) (omega (arith, length-drop u s)) (omega arith)) (read_of s) (bounded s))
