-- A.5: two frames that differ in bit 28 alone. The two definitions, in specs/Bit28.antt, are to be believed; the laws say
-- what else is the same of both.
use Rattle.std.specs.Prelude.{◌≡◌, Bool, cond, ◌&&◌, ◌||◌, ℕ, ◌^◌, ◌<◌}
use Rattle.std.proofs.Math.Path.{refl}
use Rattle.std.proofs.Common.{le-leb, leb-true, leb-false, eqb-true}
use Rattle.std.proofs.Math.Bool.{true, false, not}
use native.Mathlib.Omega.{arith}
use Rattle.std.proofs.Math.Dec.{ltb, leb, eqb}
use Rattle.std.proofs.lemmas.Bool.{lt-leb}
use Rattle.headers.specs.Rules.{header, type_in, field_in, alias_in, kind_of, kind_in}
use Rattle.headers.specs.Frames.{malformed, used, trimmed}
use Rattle.headers.specs.declared.frame.Frame.{Frame}
use Rattle.headers.specs.Bit28.{HeadersBut28, But28}

-- such are all headers written with 0 and with 1
pub written-but-28 : (t f a : ℕ) → t < 2 → f < 2 ^ 15 → a < 2 ^ 12 → HeadersBut28 (header 0 t f a) (header 1 t f a)
written-but-28 t f a ht hf ha = record { above = omega arith; below = omega arith }

-- and a frame and itself
pub itself : (f : Frame) → But28 f f
itself f = record { kind = refl; header = record { above = refl; below = refl }; eleven = λ e. refl; len = refl; bytes = refl }

module _ (h k : ℕ) (b : HeadersBut28 h k) where
  pub alias-but-28 : alias_in h ≡ alias_in k
  alias-but-28 = let e = b.below in omega arith

  pub kind-but-28 : kind_in h ≡ kind_in k
  unfolding kind_in
  kind-but-28 =
      let e = b.below in
      let et : type_in h ≡ type_in k = omega arith in
      let ef : field_in h ≡ field_in k = omega arith in
      λ i. kind_of (et i) (ef i)

  -- both have more than 29 bits, or neither
  long-but-28 : leb (2 ^ 29) h ≡ leb (2 ^ 29) k
  long-but-28 = go (leb (2 ^ 29) h) refl
    where
      go : (x : Bool) → leb (2 ^ 29) h ≡ x → x ≡ leb (2 ^ 29) k
      go true e = let q = leb-true (2 ^ 29) h e in let a = b.above in rw (le-leb (2 ^ 29) k (omega arith))
      go false e = let q = leb-false (2 ^ 29) h e in let a = b.above in rw (lt-leb (2 ^ 29) k (omega arith))

module _ (f g : Frame) (b : But28 f g) where
  pub malformed-but-28 : malformed f ≡ malformed g
  unfolding malformed
  malformed-but-28 =
      let limit = too_long (eqb f.kind 2) refl in
      λ i. ltb 2 (b.kind i) || (ltb 8 (b.len i) || ((eqb (b.kind i) 1 && not (eqb (b.len i) 0)) || limit i))
    where
      too_long : (x : Bool) → eqb f.kind 2 ≡ x
          → leb (cond (eqb f.kind 2) (2 ^ 11) (2 ^ 29)) f.header ≡ leb (cond (eqb g.kind 2) (2 ^ 11) (2 ^ 29)) g.header
      too_long true e =
          λ i. leb (cond (eqb (b.kind i) 2) (2 ^ 11) (2 ^ 29)) (b.eleven (eqb-true f.kind 2 e) i)
      too_long false e =
          rw (← b.kind, e) (long-but-28 f.header g.header b.header)

  pub trimmed-but-28 : But28 (trimmed f) (trimmed g)
  unfolding trimmed
  trimmed-but-28 = record {
    kind = b.kind;
    header = b.header;
    eleven = b.eleven;
    len = b.len;
    bytes = λ i. used (b.len i) (b.bytes i);
  }
