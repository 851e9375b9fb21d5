-- Laws of the lines' texts: data, and how long a line can be.
use Rattle.std.specs.Prelude.{◌≡◌, ℕ, suc, ◌-◌, ◌*◌, ◌≤◌, ◌<◌, List, [], ◌++◌, Bool, true, false, cond, eqb, length, take}
use Rattle.std.proofs.Common.{ap, sym, ◌∙◌, arith, eq-eqb, ne_eqb, length-append, length-take, take_all}
use Rattle.text.specs.Rules.{hex, without, space}
use Rattle.text.specs.Hex.{length-hex, first-digits}
use Rattle.text.specs.Decimal.{digits-short}
use Rattle.node.specs.Refusals.{TwoDigits}
use Rattle.node.specs.Rules.{Answer, accepted, refused, Value, done, left}
use Rattle.script.specs.Rules.{data_text, answer_text, line, last_line}

-- DATA

module _ (len bytes : ℕ) where
  pub data-none : len ≡ 0 → [] ≡ data_text len bytes
  unfolding data_text
  data-none e = rw (eq-eqb len 0 e)

  module _ (some : len ≡ 0 → ⊥) where
    data-some : data_text len bytes ≡ space ++ take (2 * len) (hex 16 bytes)
    unfolding data_text
    data-some = rw (ne_eqb len 0 some)

    pub data-short : len < 8 → space ++ hex (2 * len) (without (16 - 2 * len) bytes) ≡ data_text len bytes
    data-short h = ap (λ (l : List ℕ). space ++ l) (sym (first-digits len bytes (omega arith))) ∙ sym data-some

    pub data-long : 8 ≤ len → space ++ hex 16 bytes ≡ data_text len bytes
    data-long h =
        ap (λ (l : List ℕ). space ++ l) (sym (take_all (2 * len) (hex 16 bytes) (omega (arith, length-hex 16 bytes)))) ∙ sym data-some

-- HOW LONG A LINE CAN BE

data-few : (b : Bool) (len bytes : ℕ) → length (cond b [] (space ++ take (2 * len) (hex 16 bytes))) ≤ 17
data-few true len bytes = omega arith
data-few false len bytes = omega (arith, length-take (2 * len) (hex 16 bytes), length-hex 16 bytes)

answer-short : (a : Answer Value) → TwoDigits a → length (answer_text a) ≤ 28
unfolding answer_text data_text
answer-short (accepted done) m = omega arith
answer-short (accepted (left f)) m =
    omega (arith, length-append (hex 8 f.header) (data_text f.len f.bytes), length-hex 8 f.header, data-few (eqb f.len 0) f.len f.bytes)
answer-short (refused n) m = omega (arith, digits-short (suc n) 1 n m)

pub line-short : (count byte : ℕ) (a : Answer Value) → count < 100000 → TwoDigits a → length (line count byte a) ≤ 38
unfolding line
line-short count byte a h m =
    simp (length-append, length-hex) (omega (arith, digits-short (suc count) 4 count h, answer-short a m))

pub last-short : (k : Bool) → length (last_line k) ≤ 5
unfolding last_line
last-short true = omega arith
last-short false = omega arith
