-- How long an output can be: a script of 65,536 bytes has at most as many lines of 38 bytes, and a last one of 5.
use Rattle.std.specs.Prelude.{◌≡◌, ℕ, zero, suc, ◌+◌, ◌*◌, ◌≤◌, ◌<◌, Bool, true, false, ◌&&◌, List, leb, eqb, drop}
use Rattle.std.proofs.Common.{subst, length-append, length-take}
use Rattle.std.proofs.Math.Path.{subst⁻¹}
use native.Mathlib.Omega.{arith}
use Rattle.std.proofs.Math.ListN.{length, length-drop}
use Rattle.text.specs.Rules.{Printed, PrintedWhole}
use Rattle.text.specs.Sheet.{whole}
use Rattle.node.specs.Rules as N
use Rattle.node.specs.Rules.{Answer, accepted, refused, refuse, Value, done, wait, is_off, malformed, on_leave, read_out_of}
use Rattle.node.specs.Refusals.{TwoDigits}
use Rattle.node.proofs.Refusals.{two-refuse, two_digits}
use Rattle.segment_rules.specs.Rules.{places, limit, is_kept, Place, Segment, start, Act, orders, delivers, Command, one, send, tick, foreign, choose, read_out, some_other, is_full, is_empty, then_refuse, then_in_use, answer_at, id_in_use, whether, answer, step}
use Rattle.script.specs.Rules.{Found, command, refusal, nothing, read_of, Script, next, stop, end, onward, read_up_to, script_of, listed, lines, output_of, output, used}
use Rattle.script.specs.Scripts.{Bounded}
use Rattle.script.proofs.Scripts.{bounded}
use Rattle.script.proofs.Text.{line-short, last-short}

-- THE SEGMENT'S REFUSALS have two digits at most

two_then : (a : Answer Value) (b : Bool) (k : ℕ) → k < 100 → TwoDigits a → TwoDigits (then_refuse a b k)
two_then (accepted v) b k h t = two-refuse b k (accepted v) h tt
two_then (refused n) b k h t = t

two-in-use : (a : Answer Value) (b : Bool) → TwoDigits a → TwoDigits (then_in_use a b)
two-in-use (accepted v) b t = two-refuse b 15 (accepted v) (omega arith) tt
two-in-use (refused n) b t = two-refuse (b && eqb n 18) 15 (refused n) (omega arith) t

two_at : (p : Place) (x : Act) → TwoDigits (answer_at p x)
two_at p (orders x) = two_digits wait p.node (N.order x)
two_at p delivers =
    two-refuse (is_off p.node.phase) 2 (refuse (is_empty p.inbox) 6 (accepted done)) (omega arith)
    (two-refuse (is_empty p.inbox) 6 (accepted done) (omega arith) tt)

two-answer : (S : Segment) (c : Command) → TwoDigits (answer S c)
unfolding read_out_of
two-answer S (one n x) =
    two-refuse (leb places n) 1 (then_in_use (answer_at (S.at n) x) (id_in_use S n x)) (omega arith)
    (two-in-use (answer_at (S.at n) x) (id_in_use S n x) (two_at (S.at n) x))
two-answer S (send n) =
    let a = (on_leave wait (S.at n).node).answer in
    let b = some_other is_full n places S in
    two-refuse (leb places n) 1 (then_refuse a b 5) (omega arith) (two_then a b 5 (omega arith) (two_digits wait (S.at n).node N.leave))
two-answer S tick = tt
two-answer S choose = tt
two-answer S (read_out n) = go (leb places n) (is_off (S.at n).node.phase)
  where
    go : (b off : Bool) → TwoDigits (whether (refuse b 1 (refuse off 2 (accepted (S.at n).node.generator))))
    go true off = omega arith
    go false true = omega arith
    go false false = tt
two-answer S (foreign f) =
    two-refuse (malformed f) 9 (refuse (some_other is_full places places S) 5 (accepted done)) (omega arith)
    (two-refuse (some_other is_full places places S) 5 (accepted done) (omega arith) tt)

-- THE LINES of a script

abbrev size : Script → ℕ
size (next b c s) = suc (size s)
size (stop b n) = 1
size end = 0

-- The refusal that ends a run has two digits at most.
abbrev Small : Script → Type 0
Small (next b c s) = Small s
Small (stop b n) = n < 100
Small end = Unit {0}

module _ (s : List ℕ) (from : ℕ → Script) where
  few-onward : ((took : ℕ) → size (from took) ≤ length (drop took s)) → (f : Found) → Bounded s f → size (onward f from) ≤ length s
  unfolding onward
  few-onward h (command b c took) w = let q : size (from took) ≤ length (drop took s) = h took in omega (arith, length-drop took s, w.0, w.1)
  few-onward h (refusal b n) w = w.0
  few-onward h nothing w = omega arith

  small-onward : ((took : ℕ) → Small (from took)) → (f : Found) → Bounded s f → Small (onward f from)
  unfolding onward
  small-onward h (command b c took) w = h took
  small-onward h (refusal b n) w = w.1
  small-onward h nothing w = tt

few : (k : ℕ) (s : List ℕ) → size (read_up_to k s) ≤ length s
unfolding read_up_to
few zero s = omega arith
few (suc k) s = few-onward s (λ took. read_up_to k (drop took s)) (λ took. few k (drop took s)) (read_of s) (bounded s)

small : (k : ℕ) (s : List ℕ) → Small (read_up_to k s)
unfolding read_up_to
small zero s = tt
small (suc k) s = small-onward s (λ took. read_up_to k (drop took s)) (λ took. small k (drop took s)) (read_of s) (bounded s)

lines-short : (T : Segment) (count : ℕ) (s : Script) → Small s → count + size s ≤ 100000 → length (lines T count s) ≤ 38 * size s
unfolding lines
lines-short T count (next b c s) sm h =
    let more : length (lines (step T c) (count + 1) s) ≤ 38 * size s = lines-short (step T c) (count + 1) s sm (omega arith) in
    rw length-append (omega (arith, line-short count b (answer T c) (omega arith) (two-answer T c)))
lines-short T count (stop b n) sm h = omega (arith, line-short count b (refused n) (omega arith) sm)
lines-short T count end sm h = omega arith

pub room : (s : List ℕ) → length s ≤ 65536 → length (output s) ≤ 65536 * 38 + 5
unfolding output output_of
room s h =
    let z : size (script_of s) ≤ length s = few (length s + 1) s in
    rw length-append
    (omega (arith, lines-short start 1 (script_of s) (small (length s + 1) s) (omega arith), last-short (is_kept limit limit (listed (script_of s)))))

-- A buffer with that room holds the whole output.
pub whole-output : (s u old new : List ℕ) (r : ℕ) → u ≡ used s → 65536 * 38 + 5 ≤ length old → Printed (output u) old new r
    → PrintedWhole (output (used s)) old new r
whole-output s u old new r e h p = subst (λ (x : List ℕ). PrintedWhole (output x) old new r) e (whole (output u) old new r room_for p)
  where
    room_for : length (output u) ≤ length old
    room_for = omega (arith, room u (subst⁻¹ (λ (x : List ℕ). length x ≤ 65536) e (omega (arith, length-take 65536 s))))
