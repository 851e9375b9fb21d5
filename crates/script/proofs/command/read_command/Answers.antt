use Rattle.std.proofs.Common.{refl, sym, arith}
use Rattle.script.proofs.Forms.{reads_end, reads-unknown, reads-cut, reads_whole, has-whole}
use Rattle.script.proofs.command.read_command.Goals as goal

pub returns-in_default : goal.returns-in_default
returns-in_default c = sym (reads_end c.args.rest.now (omega (arith, c.in_default.len_below)))

pub returns-in_default-size_of : goal.returns-in_default-size_of
returns-in_default-size_of c = sym (reads-unknown c.args.rest.now (λ e. omega (arith, e, c.in-len1-up.len_at_least)) _ c.in_default-size_of.ensures.takes refl)

pub returns-then-rest-took : goal.returns-then-rest-took
returns-then-rest-took c =
    sym (reads-cut c.args.rest.now (λ e. omega (arith, e, c.in-len1-up.len_at_least)) _ c.in-Some.ensures.takes (λ e. omega (arith, e, c.in-Some.ensures.some)) c.if-rest-took.true)

pub command_of-requires : goal.command_of-requires
command_of-requires c =
    has-whole c.args.rest.now (λ e. omega (arith, e, c.in-len1-up.len_at_least)) _ c.in-Some.ensures.takes (λ e. omega (arith, e, c.in-Some.ensures.some)) c.if-rest-took.false

pub returns : goal.returns
returns c =
    sym (reads_whole c.args.rest.now (λ e. omega (arith, e, c.in-len1-up.len_at_least)) _ c.in-Some.ensures.takes (λ e. omega (arith, e, c.in-Some.ensures.some)) c.if-rest-took.false c.command_of.ensures)
