use Rattle.std.proofs.Common.{rules, ◌≡◌, ap, ◌∙◌, subst, sym}
use Rattle.node.specs.Rules.{Answer, refused, read_out_of}
use Rattle.node.specs.Answers.{read_out_as}
use Rattle.node.specs.declared.Generator.{Generator}
use Rattle.table.specs.Promise.{Carries, read}
use Rattle.segment_rules.specs.Rules.{read_out}
use Rattle.table.proofs.ReadOuts.{out_of_range, reads-out}
use Rattle.table.proofs.commands.read_out.Goals as goal

pub returns-in_err-k : goal.returns-in_err-k
returns-in_err-k c = λ h. let q = c.args in
    let e : read_out_as c.from_residual.result ≡ refused 1 = search rules in
    subst (λ (a : Answer Generator). Carries (read_out q.index) q.table.now (read a) q.table.now) (sym e) (out_of_range _ h q.index c.in_err-k.ensures.1)

pub returns : goal.returns
returns c = rw (← c.in_ok-k.ensures) (λ h. reads-out _ h c.in_ok-k.k.index c.in_ok-k.k.inside _ (c.read_out.ensures ∙ ap read_out_of c.load_node.ensures))
