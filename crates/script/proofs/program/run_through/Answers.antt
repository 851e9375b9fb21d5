use Rattle.std.proofs.Common.{ℕ, List, ◌+◌, ◌<◌, ◌∙◌, refl, sym, ap, subst, drop, Bor}
use Rattle.std.specs.Prelude.{Option, Ok}
use Rattle.script.specs.Rules.{read_of}
use Rattle.script.specs.Answers.{read_as}
use Rattle.script.specs.Scripts.{taken}
use Rattle.script.specs.Turns.{Standing, left}
use Rattle.script.specs.declared.command.Next.{Next}
use Rattle.script.proofs.Turns.{going_on, standing-begun, standing_on, fewer, turned-next, turned-stop, turned-end}
use Rattle.script.proofs.program.run_through.Goals as goal

pub commands-init : goal.commands-init
commands-init c =
    let r = c.new-reader in
    let old = c.args.sheet.now.out.now in (
      ap (λ (b : Bor (List ℕ)). b.now) r.ensures.0,
      refl,
      subst (λ (k : ℕ). Standing c.args.script.now old k (going_on 0 c.args.sheet.now.at) c.args.table.now old) (sym r.ensures.1)
          (subst (λ (k : ℕ). Standing c.args.script.now old 0 (going_on 0 k) c.args.table.now old) (sym c.requires.1) (standing-begun _ _ _ c.requires.0)),
    )

pub commands-preserved : goal.commands-preserved
commands-preserved c =
    let i = c.commands.invariant in
    let read = c.in-Ok.ensures in
    let is = ap (λ (x : Option Next). read_as (Ok x)) c.in-Some.is in
    let here = sym is ∙ read.0 ∙ ap (λ (s : List ℕ). read_of (drop c.commands.reader.at s)) i.0 in
    let to = read.1.1 ∙ ap (λ (n : ℕ). c.commands.reader.at + n) (ap taken is) in
    let line = c.put_line.ensures in
    let turned = turned-next _ _ _ _ _ _ _ _ _ _ c.carry_out-answer.ensures line.wrote in (
      ap (λ (b : Bor (List ℕ)). b.now) read.1.0 ∙ i.0,
      line.same ∙ i.1,
      subst (λ (k : ℕ). Standing c.args.script.now c.args.sheet.now.out.now k (going_on (c.commands.done + 1) c.put_line.new.sheet.at) c.carry_out-answer.new.table c.put_line.new.sheet.out.now)
          (sym to) (standing_on _ _ _ _ _ _ _ _ _ _ refl here i.2 turned),
    )

pub commands-smaller : goal.commands-smaller
commands-smaller c =
    let i = c.commands.invariant in
    let read = c.in-Ok.ensures in
    let is = ap (λ (x : Option Next). read_as (Ok x)) c.in-Some.is in
    let here = sym is ∙ read.0 ∙ ap (λ (s : List ℕ). read_of (drop c.commands.reader.at s)) i.0 in
    let to = read.1.1 ∙ ap (λ (n : ℕ). c.commands.reader.at + n) (ap taken is) in
    let turned = turned-next _ _ _ _ _ _ _ _ _ _ c.carry_out-answer.ensures c.put_line.ensures.wrote in
    subst (λ (k : ℕ). left c.args.script.now k (going_on (c.commands.done + 1) c.put_line.new.sheet.at) < left c.args.script.now c.commands.reader.at (going_on c.commands.done c.commands.sheet.at))
    (sym to) (fewer _ _ _ _ _ _ _ _ _ _ refl here i.2 turned)

pub returns-in_default : goal.returns-in_default
returns-in_default c =
    let i = c.commands.invariant in
    let is = ap (λ (x : Option Next). read_as (Ok x)) c.in_default.is in
    let here = sym is ∙ c.in-Ok.ensures.0 ∙ ap (λ (s : List ℕ). read_of (drop c.commands.reader.at s)) i.0 in
    record {
      done = _;
      same = i.1;
      through = record { at = _; going = (turned-end _ _ _).goes _ _ refl here i.2.going; last = refl };
    }

pub returns-in-Err : goal.returns-in-Err
returns-in-Err c =
    let i = c.commands.invariant in
    let line = c.put_refused.ensures in
    let here = sym c.refusal-byte.ensures ∙ c.in-Err.ensures.0 ∙ ap (λ (s : List ℕ). read_of (drop c.commands.reader.at s)) i.0 in
    record {
      done = c.commands.done;
      same = line.same ∙ i.1;
      through = record { at = _; going = (turned-stop _ _ _ _ _ refl line.wrote).goes _ _ refl here i.2.going; last = refl };
    }
