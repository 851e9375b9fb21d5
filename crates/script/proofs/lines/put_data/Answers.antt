use Rattle.std.proofs.Common.{ℕ, ◌*◌, ◌-◌, ◌∙◌, ap, arith}
use Rattle.text.specs.Rules.{hex, without}
use Rattle.text.specs.Puts.{blank, then, alike}
use Rattle.script.proofs.Text.{data-none, data-short, data-long}
use Rattle.script.proofs.lines.put_data.Goals as goal

pub returns-then-len-eq0 : goal.returns-then-len-eq0
returns-then-len-eq0 c = alike (blank _) (data-none _ _ c.if-len-eq0.true)

pub returns-then-len-lt8 : goal.returns-then-len-lt8
returns-then-len-lt8 c =
    let n = c.args.len in
    let k = c.from-count.ensures in
    let bytes = ap (λ (x : ℕ). hex (2 * c.from-count.result) x) (c.shortened.ensures ∙ ap (λ (m : ℕ). without (16 - 2 * m) c.args.bytes) k) ∙ ap (λ (m : ℕ). hex (2 * m) (without (16 - 2 * n) c.args.bytes)) k in
    alike (then c.put.ensures (alike c.put_hex.ensures bytes)) (data-short _ _ c.if-len-eq0.false (omega arith))

pub returns-else-len-lt8 : goal.returns-else-len-lt8
returns-else-len-lt8 c = alike (then c.put.ensures c.put_hex-else-len-lt8.ensures) (data-long _ _ c.if-len-eq0.false (omega arith))
