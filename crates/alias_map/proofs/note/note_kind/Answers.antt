use Rattle.std.proofs.Common.{◌≡◌, refl, ℕ, List}
use Rattle.headers.specs.Answers.{kind_as}
use Rattle.headers.specs.declared.header.Kind as K
use Rattle.alias_map.specs.Rules.{accepted, note_kind}
use Rattle.alias_map.specs.declared.entry.Entry.{Entry}
use Rattle.alias_map.proofs.Given.{unchanged}
use Rattle.alias_map.proofs.note.note_kind.Goals as goal

pub returns-in-Amd : goal.returns-in-Amd
unfolding note_kind
returns-in-Amd c = simp c.in-Amd.is c.define.ensures

pub returns-in-Amr : goal.returns-in-Amr
unfolding note_kind
returns-in-Amr c = simp (c.in-Amr.is, ← c.entry_in.ensures) c.reset.ensures

other : (k : K.Kind) (es : List Entry) (len : ℕ) (n : Entry) → (k ≡ K.TheVariants.Amd → ⊥) → (k ≡ K.TheVariants.Amr → ⊥)
    → note_kind (kind_as k) es len n ≡ accepted es
unfolding note_kind
other K.TheVariants.Amd es len n d r = absurd (d refl)
other K.TheVariants.Amr es len n d r = absurd (r refl)
other (K.TheVariants.Cid number section) es len n d r = refl
other K.TheVariants.Rid es len n d r = refl
other K.TheVariants.Ame es len n d r = refl
other (K.TheVariants.ErrorReport number) es len n d r = refl
other K.TheVariants.Reserved es len n d r = refl
other K.TheVariants.Message es len n d r = refl

pub returns-in_default : goal.returns-in_default
returns-in_default c = rw (other c.args.kind _ _ _ c.in_default.not-Amd c.in_default.not-Amr) (unchanged _)
