use Rattle.std.proofs.Common.{None, ◌+◌, ◌-◌, length, drop, refl, sym, rules, arith, length-take}
use Rattle.gridconnect.proofs.Reading.{fixed, data-number, data-as, unframed, wide, no_header, no-data, reads_as}
use Rattle.gridconnect.proofs.reader.read.Goals as goal

pub returns-then-not-is_framed : goal.returns-then-not-is_framed
returns-then-not-is_framed c = sym (unframed _ (sym c.if-not-is_framed.ensures))

pub slice_bounds-number-end : goal.slice_bounds-number-end
slice_bounds-number-end c = search (rules, (fixed _ (sym c.if-not-is_framed.ensures)).long)

pub returns-in_default : goal.returns-in_default
returns-in_default c = sym (no_header c.args.text.now (sym c.if-not-is_framed.ensures) c.in_default.ensures)

pub returns-then-header-gt536870911 : goal.returns-then-header-gt536870911
returns-then-header-gt536870911 c = sym (wide c.args.text.now (omega (arith, c.in-Some.ensures.1.0)))

pub overflow_sub-digits : goal.overflow_sub-digits
overflow_sub-digits c = (fixed _ (sym c.if-not-is_framed.ensures)).long

pub slice_bounds-number-end-2 : goal.slice_bounds-number-end-2
slice_bounds-number-end-2 c = search (rules, (fixed _ (sym c.if-not-is_framed.ensures)).long)

pub number-requires-2 : goal.number-requires-2
number-requires-2 c = omega (arith, length-take (11 + (length c.args.text.now - 12) - 11) (drop 11 c.args.text.now), (fixed _ (sym c.if-not-is_framed.ensures)).short)

pub returns-in_default-number : goal.returns-in_default-number
returns-in_default-number c = sym (no-data c.args.text.now (sym c.if-not-is_framed.ensures) c.in-Some.ensures.0 (data-as c.args.text.now {r = None} refl c.in_default-number.ensures))

pub overflow_cast-result-2 : goal.overflow_cast-result-2
overflow_cast-result-2 c = search (rules, (fixed _ (sym c.if-not-is_framed.ensures)).short)

pub padded-requires : goal.padded-requires
padded-requires c = (omega (arith, (fixed _ (sym c.if-not-is_framed.ensures)).short), (data-number c.args.text.now (sym c.if-not-is_framed.ensures) refl c.in-Some-number.ensures).1.1)

pub returns : goal.returns
returns c =
    let e = sym c.if-not-is_framed.ensures in
    let d = data-number c.args.text.now e refl c.in-Some-number.ensures in
    reads_as c.args.text.now e c.in-Some.ensures.0 d.0 (omega arith) c.in-Some.ensures.1.0 d.1.0 c.padded.ensures
