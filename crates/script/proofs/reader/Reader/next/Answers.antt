use Rattle.std.proofs.Common.{◌≡◌, ◌∙◌, sym, ap, drop, arith, length-drop}
use Rattle.std.specs.Prelude.{Option, Ok}
use Rattle.script.specs.Rules.{read_of}
use Rattle.script.specs.Answers.{read_as}
use Rattle.script.specs.Scripts.{taken}
use Rattle.script.specs.declared.command.Next.{Next}
use Rattle.script.proofs.Scripts.{taken-within}
use Rattle.script.proofs.reader.Reader.next.Goals as goal

-- what is taken lies within the script, or the place is behind its end
pub overflow_add-self : goal.overflow_add-self
overflow_add-self c =
    let r = c.args.self.now in
    let e : c.in-Some.next.took ≡ taken (read_of (drop r.at r.script.now)) =
    sym (ap (λ (x : Option Next). taken (read_as (Ok x))) c.in-Some.is) ∙ ap taken c.in_ok-read.ensures in
    omega (arith, e, taken-within (drop r.at r.script.now), length-drop r.at r.script.now)
