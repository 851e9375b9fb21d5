-- An answer with a value, for C: its number, and the words of an out-buffer that then hold the value.
use Rattle.std.specs.Prelude.{◌≡◌, List, [], ◌∷◌, ℕ, Result, Ok, Err}
use Rattle.std.specs.Fn.{Shared}
use Rattle.std.proofs.Common.{subst}
use Rattle.headers.specs.Rules.{Answer, accepted, refused}

module _ {A : Type 0} where
  -- 0 where accepted, else the refusal's number.
  abbrev pub code_of : Answer A → ℕ
  code_of (accepted x) = 0
  code_of (refused number) = number

  -- What the buffer holds then: the value's words; as it was where the answer is a refusal.
  abbrev pub out_of : (A → List ℕ) → Answer A → (before : List ℕ) → List ℕ
  out_of words (accepted x) before = words x
  out_of words (refused number) before = before

  pub record Out (words : A → List ℕ) (a : Answer A) (r : ℕ) (before after : List ℕ) : Type 0 where
    pub number : r ≡ code_of a
    pub out : after ≡ out_of words a before

  -- what is put out for one answer is put out for its equal
  pub out-as : (words : A → List ℕ) {a b : Answer A} {r : ℕ} {before after : List ℕ} → a ≡ b → Out words a r before after → Out words b r before after
  out-as words {a} {b} {r} {before} {after} e o = subst (λ (x : Answer A). Out words x r before after) e o

-- After a result the buffer holds what the closure gives of its value; what it held before, where it has none.
abbrev pub PutOut : {F T E W : Type 0} → Shared F (T × Unit {0}) W → F → Result T E → (before after : W) → Type 0
PutOut g f (Ok x) before after = g.post f (x, tt) after
PutOut g f (Err e) before after = after ≡ before

-- A value that is one number.
abbrev pub one : ℕ → List ℕ
one n = n ∷ []
