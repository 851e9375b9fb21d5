use Rattle.std.proofs.Common.{eq-eqb, ne_eqb, sym}
use Rattle.alias_map.specs.Rules.{define}
use Rattle.alias_map.proofs.Given.{unchanged}
use Rattle.alias_map.proofs.note.define.Goals.{then-len-ne6-via-then-len-ne6, then-len-ne6-via-else-len-ne6+then-eq, then-len-ne6-via-else-len-ne6+else-eq+then-e-eq0}
use Rattle.alias_map.proofs.note.define.Goals as goal

pub returns-then-len-ne6 : goal.returns-then-len-ne6
unfolding define
returns-then-len-ne6 c = elim c.then-len-ne6.branch [
  | then-len-ne6-via-then-len-ne6 w ↦ simp (ne_eqb c.args.len 6 w.if-len-ne6.true) (unchanged _)
  | then-len-ne6-via-else-len-ne6+then-eq w ↦ simp (eq-eqb _ _ w.if-len-ne6.false, ← c.entry_in-e.ensures, sym w.if-eq.ensures) (unchanged _)
  | then-len-ne6-via-else-len-ne6+else-eq+then-e-eq0 w ↦ simp (eq-eqb _ _ w.if-len-ne6.false, ← c.entry_in-e.ensures, sym w.if-eq.ensures, eq-eqb _ _ w.if-e-eq0.true) (unchanged _)
]

pub returns : goal.returns
unfolding define
returns c =
    simp (eq-eqb _ _ c.if-len-ne6.false, ← c.entry_in-e.ensures, sym c.if-eq.ensures, ne_eqb _ _ c.if-e-eq0.false)
    (simp (← c.entry_in-e.ensures) at c.add.ensures)
