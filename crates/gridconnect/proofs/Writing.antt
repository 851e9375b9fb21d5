-- Laws of the writer: what it answers by the tests that it makes, and that it promises that then.
use Rattle.std.specs.Prelude.{◌≡◌, refl, ℕ, ◌+◌, ◌*◌, ◌^◌, ◌≤◌, ◌<◌, List, ltb, length, Result, Ok, Err}
use Rattle.std.proofs.Common.{ap, sym, ◌∙◌, lt-ltb, le-ltb, le-leb}
use Rattle.std.proofs.lemmas.Bool.{lt-leb}
use Rattle.headers.specs.Rules.{Answer, accepted, refused, refuse}
use Rattle.text.specs.Rules.{sheet, Wrote}
use Rattle.text.specs.Sheet.{printed, whole}
use Rattle.gridconnect.specs.Rules.{text_of, write, length_of, buffer_of}
use Rattle.gridconnect.specs.Answers.{written_as, Writes}
use Rattle.gridconnect.proofs.Pieces.{length-text}
use Rattle.gridconnect.specs.declared.answer.Refusal.{Refusal}
use Rattle.gridconnect.specs.declared.answer.Refusal.TheVariants.{Malformed, ShortBuffer}

module _ (header len bytes : ℕ) (old : List ℕ) where
  refuses : (r : Result ℕ Refusal) {number : ℕ} → written_as r ≡ refused number → write (length old) header len bytes ≡ refused number
      → Writes header len bytes r old old
  refuses r a e = record { answer = a ∙ ap length_of (sym e); buffer = ap (λ (x : Answer (List ℕ)). buffer_of x old) (sym e) }

  pub long-header : 2 ^ 29 ≤ header → Writes header len bytes (Err Malformed) old old
  long-header h = refuses (Err Malformed) refl (rw (le-leb (2 ^ 29) header h) refl)

  module _ (narrow : header < 2 ^ 29) where
    pub long-data : 8 < len → Writes header len bytes (Err Malformed) old old
    long-data h = refuses (Err Malformed) refl (rw (lt-leb (2 ^ 29) header narrow, lt-ltb 8 len h) refl)

    module _ (few : len ≤ 8) where
      fitting : write (length old) header len bytes ≡ refuse (ltb (length old) (12 + 2 * len)) 17 (accepted (text_of header len bytes))
      fitting = rw (lt-leb (2 ^ 29) header narrow, le-ltb 8 len few, length-text header len bytes few) refl

      pub short : length old < 12 + 2 * len → Writes header len bytes (Err ShortBuffer) old old
      short h = refuses (Err ShortBuffer) refl (fitting ∙ rw (lt-ltb (length old) (12 + 2 * len) h) refl)

      pub gives : {new : List ℕ} {n : ℕ} → 12 + 2 * len ≤ length old → Wrote (sheet old 0) (text_of header len bytes) (sheet new n)
          → Writes header len bytes (Ok (12 + 2 * len)) old new
      gives {new} {n} h p =
          record {
            answer = ap accepted (sym (length-text header len bytes few)) ∙ ap length_of (sym is);
            buffer = (whole _ old new n (rw (length-text header len bytes few) h) (printed _ old new n p)).bytes ∙ ap (λ (x : Answer (List ℕ)). buffer_of x old) (sym is);
          }
        where
          is : write (length old) header len bytes ≡ accepted (text_of header len bytes)
          is = fitting ∙ rw (le-ltb (length old) (12 + 2 * len) h) refl
