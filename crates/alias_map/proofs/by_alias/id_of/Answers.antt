use Rattle.std.proofs.Common.{rules, ◌≡◌, ◌+◌, sym, ap, ◌∙◌, Some, None, Err, arith}
use Rattle.alias_map.specs.declared.answer.Refusal.TheVariants.{Absent}
use Rattle.alias_map.specs.Answers.{id_as}
use Rattle.alias_map.specs.Rules.{accepted, has_alias, id_of}
use Rattle.alias_map.specs.declared.entry.Entry.{Entry}
use Rattle.alias_map.proofs.Given.{absent, present-at}
use Rattle.alias_map.proofs.by_alias.id_of.Goals as goal

pub returns-in_err-i : goal.returns-in_err-i
unfolding id_of
returns-in_err-i c =
    let met = c.find.ensures.compared (has_alias c.args.alias.0) (λ w b h. search rules) in
    let none : c.find.result ≡ None = search rules in
    let e : c.from_residual.result ≡ Err Absent = search rules in
    ap id_as e ∙ sym (absent _ _ c.len.ensures (λ e. e.id) (has_alias c.args.alias.0) _ (rw none at met) (omega arith))

pub returns : goal.returns
unfolding id_of
returns c =
    let met = c.find.ensures.compared (has_alias c.args.alias.0) (λ w b h. search rules) in
    let some : c.find.result ≡ Some c.in_ok-i.i = search rules in
    ap (λ (e : Entry). accepted (record { value = e.id; count = c.in_ok-i.i + 1 })) c.entry_in-e.ensures
    ∙ sym (present-at _ _ c.len.ensures (λ e. e.id) (has_alias c.args.alias.0) _ (rw some at met) (rw some at c.find.ensures.within))
