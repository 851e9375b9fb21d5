-- Laws of the code's sheet: one text after another on it, and what its buffer holds in the end.
use Rattle.std.specs.Prelude.{◌≡◌, refl, ℕ, ◌+◌, ◌<◌, List, [], ◌∷◌, ◌++◌, length, take, get_or}
use Rattle.std.proofs.Common.{◌∙◌}
use Rattle.text.specs.Rules.{sheet, sheet_of, Wrote, Puts}
use Rattle.text.specs.Sheet as On
use Rattle.text.specs.declared.buffer.Sheet as S

pub blank : (s : S.Sheet) → Puts s [] s
blank s = record { same = refl; wrote = On.blank _ }

pub then : {s t u : S.Sheet} {xs ys : List ℕ} → Puts s xs t → Puts t ys u → Puts s (xs ++ ys) u
then p q = record { same = q.same ∙ p.same; wrote = On.then p.wrote q.wrote }

pub alike : {s t : S.Sheet} {xs ys : List ℕ} → Puts s xs t → xs ≡ ys → Puts s ys t
alike p e = record { same = p.same; wrote = On.alike p.wrote e }

-- A list, byte by byte.
pub more_of : (l : List ℕ) (i : ℕ) {s t u : S.Sheet} → i < length l → Puts s (take i l) t → Puts t (get_or l i 0 ∷ []) u → Puts s (take (i + 1) l) u
more_of l i h p q = record { same = q.same ∙ p.same; wrote = On.more_of l i h p.wrote q.wrote }

-- The buffer that a sheet was made on, once the sheet is let go.
pub let_go : {s t : S.Sheet} {xs old new : List ℕ} {at : ℕ} → Puts s xs t → sheet_of s ≡ sheet old at → new ≡ t.out.now
    → Wrote (sheet old at) xs (sheet new t.at)
let_go p e f = rw (f, ← e) p.wrote
