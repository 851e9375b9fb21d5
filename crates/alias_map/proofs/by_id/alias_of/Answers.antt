use Rattle.std.proofs.Common.{rules, ◌≡◌, ◌+◌, sym, ap, ◌∙◌, Some, None, Err, arith}
use Rattle.alias_map.specs.declared.answer.Refusal.TheVariants.{Absent}
use Rattle.alias_map.specs.Answers.{alias_as}
use Rattle.alias_map.specs.Rules.{accepted, has_id, alias_of}
use Rattle.alias_map.specs.declared.entry.Entry.{Entry}
use Rattle.alias_map.proofs.Given.{absent, present-at}
use Rattle.alias_map.proofs.by_id.alias_of.Goals as goal

pub returns-in_err-i : goal.returns-in_err-i
unfolding alias_of
returns-in_err-i c =
    let met = c.find.ensures.compared (has_id c.args.id) (λ w b h. search rules) in
    let none : c.find.result ≡ None = search rules in
    let e : c.from_residual.result ≡ Err Absent = search rules in
    ap alias_as e ∙ sym (absent _ _ c.len.ensures (λ e. e.alias.0) (has_id c.args.id) _ (rw none at met) (omega arith))

pub returns : goal.returns
unfolding alias_of
returns c =
    let met = c.find.ensures.compared (has_id c.args.id) (λ w b h. search rules) in
    let some : c.find.result ≡ Some c.in_ok-i.i = search rules in
    ap (λ (e : Entry). accepted (record { value = e.alias.0; count = c.in_ok-i.i + 1 })) c.entry_in-e.ensures
    ∙ sym (present-at _ _ c.len.ensures (λ e. e.alias.0) (has_id c.args.id) _ (rw some at met) (rw some at c.find.ensures.within))
