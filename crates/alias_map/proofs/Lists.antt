-- Frames noted and look-ups either way, one after another from an empty map: every answer and the entries are what the rules give.
use Rattle.std.specs.Prelude.{◌≡◌, refl, ℕ, List, [], ◌∷◌, ◌++◌, map}
use Rattle.std.proofs.Common.{sym, ap, subst, ◌∙◌, append-nil, append_assoc}
use Rattle.alias_map.specs.Rules.{entry_in, note, after}
use Rattle.alias_map.specs.Words.{entries_of}
use Rattle.alias_map.specs.Sound.{Sound}
use Rattle.alias_map.proofs.Sound.{empty-sound, leaves}
use Rattle.alias_map.specs.Order.{Within}
use Rattle.alias_map.proofs.Order.{all, some-of-some, both, note-follows}
use Rattle.alias_map.specs.declared.entry.Entry.{Entry}
use Rattle.alias_map.specs.Lists.{Call, noting, by_id, by_alias, Answered, looked_up, noted, run, answers, frames, Carried, then-by-id, begun, then-note, then-by-alias, Claim}

-- the rules' entries stand in the order of noting, after those that there were
pub in_order : (es : List Entry) (cs : List Call) → Within (run es cs) (es ++ map entry_in (frames cs))
unfolding run frames
in_order es [] = subst (Within es) (sym (append-nil es)) (all es)
in_order es (noting f ∷ cs) =
    some-of-some (in_order (after (note es f) es) cs)
    (subst (Within (after (note es f) es ++ map entry_in (frames cs))) (append_assoc es (entry_in f ∷ []) (map entry_in (frames cs)))
    (both (note-follows es f) (all (map entry_in (frames cs)))))
in_order es (by_alias a ∷ cs) = in_order es cs
in_order es (by_id i ∷ cs) = in_order es cs

follows : {t t' : List ℕ} {cs : List Call} {xs : List Answered} → Carried t cs xs t'
    → (xs ≡ answers (entries_of t) cs) × (entries_of t' ≡ run (entries_of t) cs) × (Sound (entries_of t) → Sound (entries_of t'))
unfolding run answers
follows begun = (refl, refl, λ h. h)
follows (then-note {t} {t₁} {t₂} {f} {x} {cs} h c) =
    let e = leaves t (note (entries_of t) f) x t₁ h.gives in
    let r = follows c in (
      (λ i. noted (h.gives.answer i) ∷ (r.0 ∙ ap (λ (l : List Entry). answers l cs) e) i),
      r.1 ∙ ap (λ (l : List Entry). run l cs) e,
      λ s. r.2 (h.sound s),
    )
follows (then-by-alias x h c) = let r = follows c in ((λ i. looked_up (h i) ∷ r.0 i), r.1, r.2)
follows (then-by-id x h c) = let r = follows c in ((λ i. looked_up (h i) ∷ r.0 i), r.1, r.2)

pub claim : {t t' : List ℕ} {cs : List Call} {xs : List Answered}
    → entries_of t ≡ [] → Carried t cs xs t' → Claim cs xs t'
claim {t} {t'} {cs} {xs} e c =
    let s = follows c in
    let r = s.1 ∙ ap (λ (l : List Entry). run l cs) e in
    record {
      answers = s.0 ∙ ap (λ (l : List Entry). answers l cs) e;
      entries = r;
      sound = s.2 (subst Sound (sym e) empty-sound);
      order = subst (λ (l : List Entry). Within l (map entry_in (frames cs))) (sym r) (in_order [] cs);
    }
