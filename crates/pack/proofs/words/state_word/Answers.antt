use mathlib.Core.Path.{refl}
use native.Mathlib.Omega.{arith}
use Rattle.pack.proofs.Packed.{bit-back, state-of}
use Rattle.pack.proofs.words.state_word.Goals as goal

pub returns : goal.returns
returns c = let n = c.args.n in
    state-of n _ _ _ _ _ _ _ _ _ _
    (c.from.ensures, omega arith)
    (bit-back _ _ c.from-2.ensures)
    (bit-back _ _ c.from-3.ensures)
    (bit-back _ _ c.from-4.ensures)
    c.error_word.ensures
    c.number.ensures
    (c.from-5.ensures, omega (arith, c.number.ensures.1))
    (bit-back _ _ c.from-6.ensures)
    c.phase_word.ensures
    refl
