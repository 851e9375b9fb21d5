use Rattle.std.proofs.Common.{arith, sym, ◌∙◌, ◌≡◌, ◌-◌, ◌*◌}
use Rattle.text.specs.Rules.{without}
use Rattle.text.specs.Puts.{blank, then, alike}
use Rattle.text.specs.Hex.{hex-none, without-bytes, without-all, hex-down, hex-all}
use Rattle.text.proofs.buffer.Sheet.put_hex.Goals as goal
use Rattle.text.proofs.buffer.Sheet.put_hex.Goals.{then-i-lt8, else-i-lt8}

pub loop-i-init : goal.loop-i-init
loop-i-init c = alike (blank _) (sym (hex-none _ (omega arith)))

pub loop-i-preserved : goal.loop-i-preserved
loop-i-preserved c =
    let e : c.if-i-lt8.rest ≡ without (2 * (c.loop-i.i - 1)) c.args.n =
    elim c.if-i-lt8.branch [ then-i-lt8 w ↦ w.rest-is ∙ without-bytes _ _ | else-i-lt8 w ↦ w.rest-is ∙ sym (without-all _ _ (omega arith) (omega arith)) ] in
    alike (then c.loop-i.invariant (rw e at c.put_byte.ensures)) (hex-down c.args.bytes c.loop-i.i c.args.n (omega arith) (omega arith))

pub returns : goal.returns
returns c = alike c.loop-i.invariant (hex-all c.args.bytes c.loop-i.i c.args.n (omega arith))
