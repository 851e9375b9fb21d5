use Rattle.std.proofs.Common.{rules, arith, sym, ap, ◌∙◌, eq-eqb, ne_eqb}
use Rattle.headers.specs.Rules.{Parts}
use Rattle.alias_map.specs.Rules.{note}
use Rattle.alias_map.proofs.Sound.{notes}
use Rattle.alias_map.proofs.Given.{unchanged, malformed-still, in_frame}
use Rattle.alias_map.proofs.note.note.Goals as goal

pub returns-then-is_malformed : goal.returns-then-is_malformed
unfolding note
returns-then-is_malformed c = notes _ _ _ _ (search rules) (simp (sym c.if-is_malformed.ensures) (malformed-still _))

pub returns-then-f-eq0 : goal.returns-then-f-eq0
unfolding note
returns-then-f-eq0 c = notes _ _ _ _ (search rules)
    (simp (
      sym (ap (λ (p : Parts). p.kind) c.parts_of-p.ensures),
      eq-eqb c.args.f.kind 0 (omega arith),
      sym c.if-is_malformed.ensures,
      sym (c.word_of.ensures ∙ in_frame _ _ _ _ (ap (λ (p : Parts). p.alias) c.parts_of-p.ensures) c.id_in.ensures (search rules)),
    ) c.note_kind.ensures)

pub returns : goal.returns
unfolding note
returns c = notes _ _ _ _ (search rules) (simp (ne_eqb _ _ c.if-f-eq0.false, sym c.if-is_malformed.ensures) (unchanged _))
