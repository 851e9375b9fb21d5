use Rattle.std.proofs.Common.{rules, arith}
use Rattle.alias_map.specs.Rules.{has_alias}
use Rattle.alias_map.proofs.Given.{gives_none, gives-fewer}
use Rattle.alias_map.proofs.note.reset.Goals as goal

pub returns-in-Some : goal.returns-in-Some
returns-in-Some c =
    let f = c.in-Some.ensures.first (has_alias c.args.alias.0) (λ w b h. search rules) in
    let r = c.remove-others.ensures.rest (has_alias c.args.alias.0) (λ w b h. search rules) in
    gives-fewer _ _ c.len-n.ensures _ _ f _ _ r c.in-Some.ensures.within

pub returns-in_default : goal.returns-in_default
returns-in_default c =
    gives_none _ _ c.len-n.ensures _ _ (c.in_default.ensures.first (has_alias c.args.alias.0) (λ w b h. search rules)) (omega arith)
