-- Laws of writing on a sheet: one text after another, and what the buffer holds then.
use Rattle.std.specs.Prelude.{ℕ, ◌+◌, ◌≤◌, ◌<◌, min, ◌≡◌, refl, Bool, cond, List, [], ◌∷◌, ◌++◌, length, set, take, drop, get_or}
use Rattle.std.proofs.Common.{ap, sym, subst, ◌∙◌, append_assoc, arith, add-zero, add-one, lt-ltb, le-ltb, length-append, take_all, take-suc, length-take-le}
use Rattle.std.proofs.Math.Nat.{min-zero, zero-min, suc-min-suc}
use Rattle.std.proofs.Math.Seq.{take-nil, drop-nil, set-append_seam}
use Rattle.text.specs.Rules.{Sheet, sheet, put1, write, Wrote, Printed, PrintedWhole}

-- One text after another.
pub write-append : (s : Sheet) (xs ys : List ℕ) → write (write s xs) ys ≡ write s (xs ++ ys)
unfolding write
write-append s [] ys = refl
write-append s (x ∷ xs) ys = write-append (put1 s x) xs ys

pub carried : {s t : Sheet} {xs : List ℕ} (ys : List ℕ) → Wrote s xs t → write t ys ≡ write s (xs ++ ys)
carried {s} {t} {xs} ys p = ap (λ (x : Sheet). write x ys) p.is ∙ write-append s xs ys

pub then : {s t u : Sheet} {xs ys : List ℕ} → Wrote s xs t → Wrote t ys u → Wrote s (xs ++ ys) u
then {s} {t} {u} {xs} {ys} p q = record { is = q.is ∙ carried ys p }

-- The same text, put another way.
pub alike : {s t : Sheet} {xs ys : List ℕ} → Wrote s xs t → xs ≡ ys → Wrote s ys t
alike {s} p e = record { is = p.is ∙ ap (write s) e }

-- The same place.
pub placed : {s : Sheet} {xs t : List ℕ} {n m : ℕ} → Wrote s xs (sheet t n) → n ≡ m → Wrote s xs (sheet t m)
placed {s} {xs} {t} p e = subst (λ (k : ℕ). Wrote s xs (sheet t k)) e p

pub blank : (s : Sheet) → Wrote s [] s
unfolding write
blank s = record { is = refl }

-- A byte that fits, and one that does not.
pub fits : (text : List ℕ) (at b : ℕ) → at < length text → Wrote (sheet text at) (b ∷ []) (sheet (set text at b) (at + 1))
unfolding write put1
fits text at b h =
    record { is = sym (ap (λ (t : Bool). cond t (sheet (set text at b) (at + 1)) (sheet text at)) (lt-ltb at (length text) h)) }

pub full : (text : List ℕ) (at b : ℕ) → length text ≤ at → Wrote (sheet text at) (b ∷ []) (sheet text at)
unfolding write put1
full text at b h =
    record { is = sym (ap (λ (t : Bool). cond t (sheet (set text at b) (at + 1)) (sheet text at)) (le-ltb at (length text) h)) }

-- A list, byte by byte.
pub more_of : (l : List ℕ) (i : ℕ) {s t u : Sheet} → i < length l → Wrote s (take i l) t → Wrote t (get_or l i 0 ∷ []) u → Wrote s (take (i + 1) l) u
more_of l i h p q = alike (then p q) (rw (add-one) (sym (take-suc l i 0 h)))

pub all_of : (l : List ℕ) (i : ℕ) {s t : Sheet} → length l ≤ i → Wrote s (take i l) t → Wrote s l t
all_of l i h p = alike p (take_all i l h)

-- WHAT A BUFFER HOLDS THEN: the text as far as there is room, and after it what was there.

-- p stands before the place, and rest after it
abbrev filled : List ℕ → List ℕ → List ℕ → Sheet
filled p rest bs = sheet (p ++ (take (length rest) bs ++ drop (length bs) rest)) (length p + min (length rest) (length bs))

write-cons : (s : Sheet) (b : ℕ) (bs : List ℕ) → write s (b ∷ bs) ≡ write (write s (b ∷ [])) bs
unfolding write
write-cons s b bs = refl

write-nil : (s : Sheet) → write s [] ≡ s
unfolding write
write-nil s = refl

fill : (p rest bs : List ℕ) → write (sheet (p ++ rest) (length p)) bs ≡ filled p rest bs
fill p rest [] = rw (write-nil, take-nil, min-zero, add-zero)
fill p [] (b ∷ bs) =
    write-cons _ b bs
    ∙ ap (λ (s : Sheet). write s bs) (sym (full (p ++ []) (length p) b (omega (arith, length-append p []))).is)
    ∙ fill p [] bs
    ∙ simp (drop-nil, zero-min)
fill p (x ∷ rest) (b ∷ bs) =
    write-cons _ b bs
    ∙ ap (λ (s : Sheet). write s bs) (sym (fits (p ++ x ∷ rest) (length p) b (omega (arith, length-append p (x ∷ rest)))).is ∙ moved)
    ∙ fill (p ++ (b ∷ [])) rest bs
    ∙ regrouped
  where
    moved : sheet (set (p ++ x ∷ rest) (length p) b) (length p + 1) ≡ sheet ((p ++ (b ∷ [])) ++ rest) (length (p ++ (b ∷ [])))
    moved = rw (set-append_seam, length-append, append_assoc)

    regrouped : filled (p ++ (b ∷ [])) rest bs ≡ filled p (x ∷ rest) (b ∷ bs)
    regrouped = rw (append_assoc, length-append, suc-min-suc) (ap (sheet _) (omega arith))

-- A text that is written from the buffer's start on.
pub printed : (text old new : List ℕ) (n : ℕ) → Wrote (sheet old 0) text (sheet new n) → Printed text old new n
printed text old new n wrote = record { bytes = ap (λ (s : Sheet). s.text) is; count = ap (λ (s : Sheet). s.at) is }
  where
    is : sheet new n ≡ sheet (take (length old) text ++ drop (length text) old) (min (length old) (length text))
    is = wrote.is ∙ fill [] old text ∙ ap (sheet _) (omega arith)

-- A buffer with room for it holds the whole of it.
pub whole : (text old new : List ℕ) (n : ℕ) → length text ≤ length old → Printed text old new n → PrintedWhole text old new n
whole text old new n room p = record { bytes = bytes; count = count; fits = fits; counted = sym (length-take-le n new fits) }
  where
    bytes : new ≡ text ++ drop (length text) old
    bytes = p.bytes ∙ ap (λ (l : List ℕ). l ++ drop (length text) old) (take_all (length old) text room)

    count : n ≡ length text
    count = p.count ∙ omega (arith, room)

    fits : n ≤ length new
    fits = omega (arith, count, ap length bytes, length-append text (drop (length text) old))
