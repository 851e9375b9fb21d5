-- Laws of the forms of the commands: how many bytes each takes, and the command that they make.
use Rattle.std.specs.Prelude.{◌≡◌, ℕ, zero, suc, ◌+◌, ◌*◌, ◌^◌, ◌<◌, ◌≤◌, Bool, true, false, cond, leb, eqb, length, get_or}
use Rattle.std.proofs.Math.Path.{refl}
use Rattle.std.proofs.Common.{ap, subst, sym, ◌∙◌, arith, add-zero, add-suc, add_assoc, add-one, mul_assoc, pow-suc, le-leb, ne_eqb, eqb-true}
use mathlib.Core.List.{List, [], ◌∷◌}
use Rattle.std.proofs.Math.Nat.{pow-zero, pow-le-pow_right}
use Rattle.std.proofs.lemmas.Bool.{lt-leb}
use Rattle.segment_rules.specs.Rules.{Command, warm_on}
use Rattle.script.specs.Rules.{number, Form, operand, makes, unknown, form, Found, command, refusal, nothing, found, read_of}
use Rattle.script.specs.Forms.{ends, made, Takes, Holds, Whole}

-- NUMBERS

pub single : (s : List ℕ) (from : ℕ) → number s from 1 ≡ get_or s from 0
unfolding number
single s from = rw add-zero (omega arith)

pub pair : (s : List ℕ) (from : ℕ) → number s from 2 ≡ get_or s from 0 * 256 + get_or s (from + 1) 0
unfolding number
pair s from = rw add-zero (omega arith)

-- A number is its first bytes' number and its last bytes' number.
pub join : (s : List ℕ) (from j k : ℕ) → number s from (j + k) ≡ number s from j * 256 ^ k + number s (from + j) k
unfolding number
join s from j zero = rw (add-zero j, pow-zero) (omega arith)
join s from j (suc k) =
    rw (add-suc, pow-suc, ← mul_assoc (number s from j) (256 ^ k) 256, add_assoc from j k, join s from j k) (omega arith)

-- A byte more: the number goes on by it, and stays below the next power.
pub number-next : (s : List ℕ) (from k n b : ℕ) → (n ≡ number s from k) × (n < 256 ^ k) → b ≡ get_or s (from + k) 0 → b < 256
    → (256 * n + b ≡ number s from (k + 1)) × (256 * n + b < 256 ^ (k + 1))
unfolding number
number-next s from k n b (e, h) eb hb = rw (add-one k, pow-suc 256 k) (omega (arith, e, eb), omega arith)

-- Below eight bytes there is room for one more.
pub room-on : (k n b : ℕ) → n < 256 ^ k → k < 8 → b < 256 → 256 * n + b < 2 ^ 64
room-on k n b h hk hb = let j : k ≤ 7 = omega arith in let p : 256 ^ k ≤ 256 ^ 7 = pow-le-pow_right {n = 256} (omega arith) {i = k} {j = 7} j in omega arith

-- What `Whole` says of a command that is known by its number.
pub at_key : (k : ℕ) (s : List ℕ) {b : ℕ} → b ≡ k → Whole b s → ends (form k) 1 s ≤ length s
at_key k s {b} e h = subst (λ (x : ℕ). ends (form x) 1 s ≤ length s) e h.is.1

last : (b : ℕ) (s : List ℕ) (t : Bool) → eqb b 10 ≡ t
    → Holds (ends (cond t (operand 1 λ index. operand 6 λ id. operand 1 λ flag. operand 6 λ state. makes (warm_on index id flag state)) unknown) 1 s) (length s) → b ≡ 10
last b s true e h = eqb-true b 10 e
last b s false e h = absurd (omega arith)

-- The last of them, by not being one of the others.
pub at_rest : (s : List ℕ) {b : ℕ} → (b ≡ 1 → ⊥) → (b ≡ 2 → ⊥) → (b ≡ 3 → ⊥) → (b ≡ 4 → ⊥) → (b ≡ 5 → ⊥) → (b ≡ 6 → ⊥) → (b ≡ 7 → ⊥) → (b ≡ 8 → ⊥)
    → (b ≡ 9 → ⊥) → Whole b s → b ≡ 10
unfolding form
at_rest s {b} n1 n2 n3 n4 n5 n6 n7 n8 n9 h =
    last b s (eqb b 10) refl
    (simp (ne_eqb b 1 n1, ne_eqb b 2 n2, ne_eqb b 3 n3, ne_eqb b 4 n4, ne_eqb b 5 n5, ne_eqb b 6 n6, ne_eqb b 7 n7, ne_eqb b 8 n8, ne_eqb b 9 n9) at h.is)

-- READING

module _ (b : ℕ) (s : List ℕ) where
  abbrev pub whole : Command → ℕ → Found
  whole c n = cond (leb n (length s)) (command b c n) (refusal b 11)

  by-none : (F : Form) (from : ℕ) → 1 ≤ from → ends F from s ≡ 0 → found b F from s ≡ refusal b 10
  by-none (operand width then) from h e = by-none (then (number s from width)) (from + width) (omega arith) e
  by-none (makes c) from h e = absurd (omega arith)
  by-none unknown from h e = refl

  by-some : (F : Form) (from : ℕ) → (ends F from s ≡ 0 → ⊥) → found b F from s ≡ whole (made F from s) (ends F from s)
  by-some (operand width then) from e = by-some (then (number s from width)) (from + width) e
  by-some (makes c) from e = refl
  by-some unknown from e = absurd (e refl)

pub reads_end : (s : List ℕ) → length s ≡ 0 → read_of s ≡ nothing
unfolding read_of
reads_end [] h = refl
reads_end (b ∷ s) h = absurd (omega arith)

module _ (s : List ℕ) (some : length s ≡ 0 → ⊥) (n : ℕ) (h : Takes (get_or s 0 0) n) where
  reads-some : read_of s ≡ found (get_or s 0 0) (form (get_or s 0 0)) 1 s
  unfolding read_of
  reads-some = go s some
    where
      go : (l : List ℕ) → (length l ≡ 0 → ⊥) → read_of l ≡ found (get_or l 0 0) (form (get_or l 0 0)) 1 l
      go [] e = absurd (e refl)
      go (b ∷ l) e = refl

  pub reads-unknown : n ≡ 0 → read_of s ≡ refusal (get_or s 0 0) 10
  reads-unknown e = reads-some ∙ by-none (get_or s 0 0) s (form (get_or s 0 0)) 1 (omega arith) (sym (h.is s) ∙ e)

  module _ (known : n ≡ 0 → ⊥) where
    reads_known : read_of s ≡ whole (get_or s 0 0) s (made (form (get_or s 0 0)) 1 s) n
    reads_known =
        reads-some ∙ by-some (get_or s 0 0) s (form (get_or s 0 0)) 1 (λ e. known (h.is s ∙ e))
        ∙ ap (whole (get_or s 0 0) s (made (form (get_or s 0 0)) 1 s)) (sym (h.is s))

    pub reads-cut : length s < n → read_of s ≡ refusal (get_or s 0 0) 11
    reads-cut l = reads_known ∙ rw (lt-leb n (length s) l)

    pub reads_whole : n ≤ length s → {c : Command} → c ≡ made (form (get_or s 0 0)) 1 s → read_of s ≡ command (get_or s 0 0) c n
    reads_whole l e = reads_known ∙ rw (le-leb n (length s) l) (ap (λ (k : Command). command (get_or s 0 0) k n) (sym e))

    pub has-whole : n ≤ length s → Whole (get_or s 0 0) s
    has-whole l = record { is = (omega (arith, h.is s), omega (arith, h.is s)) }
