use Rattle.script.proofs.Room.{whole-output}
use lib.Seq.{take_all, length-take-le}
use mathlib.Core.Path.{refl, sym}
use native.Mathlib.Omega.{arith}
use Rattle.script.proofs.program.run_input.Goals as goal

pub returns-then-input-lt-INPUT : goal.returns-then-input-lt-INPUT
returns-then-input-lt-INPUT c = whole-output c.args.input.now c.args.input.now c.args.out.now _ _ (sym (take_all 65536 c.args.input.now (omega arith))) (omega arith) c.run.ensures

pub slice_bounds-run-end-2 : goal.slice_bounds-run-end-2
slice_bounds-run-end-2 c = sym (length-take-le 65536 c.args.input.now (omega arith))

pub returns : goal.returns
returns c = whole-output c.args.input.now _ c.args.out.now _ _ refl (omega arith) c.run-2.ensures
