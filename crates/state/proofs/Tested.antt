-- Tests of numbers that are one.
use mathlib.Core.Path.{◌≡◌, ◌∙◌, sym, ap}
use mathlib.Core.Bool.{Bool}
use Prim.Native.Nat.{ℕ}
use lib.Dec.{eqb}

-- a test of x is one of y, where they are one number
pub same_test : (x y z : ℕ) (r b : Bool) → x ≡ y → r ≡ eqb x z → r ≡ b → eqb y z ≡ b
same_test x y z r b e s t = ap (λ (w : ℕ). eqb w z) (sym e) ∙ sym s ∙ t
