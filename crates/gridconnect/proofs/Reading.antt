-- Laws of the reader: what it answers by the tests that it makes, and what is fixed in a text.
use Rattle.std.specs.Prelude.{◌≡◌, ℕ, ◌+◌, ◌-◌, ◌*◌, ◌/◌, ◌%◌, ◌^◌, ◌≤◌, ◌<◌, true, false, List, eqb, length, take, drop, get_or, Option, Some}
use Rattle.std.proofs.Math.Path.{refl}
use Rattle.std.proofs.Common.{ap, sym, subst, ◌∙◌, arith, length-take, length-drop}
use Rattle.std.proofs.Math.Bool.{and-false, or-true}
use borrow.Author.Tests.{le-leb, lt-leb, eq-eqb, ne_eqb, leb-true, eqb-true}
use Rattle.headers.specs.Rules.{accepted, refused}
use Rattle.headers.proofs.Laws.{both}
use Rattle.gridconnect.specs.Rules.{colon, letter_x, letter_n, semicolon, are_digits, number, header_in, data_in, framed, frame_in, read}
use Rattle.gridconnect.specs.Answers.{Stands}
use Rattle.gridconnect.proofs.DigitLaws.{stands-as}

module _ (t : List ℕ) where
  -- What is fixed in a text: how long it can be, and the four bytes that are no digits.
  pub record Fixed : Type 0 where
    pub long : 12 ≤ length t
    pub short : length t ≤ 28
    pub even : length t % 2 ≡ 0
    pub first : get_or t 0 0 ≡ colon
    pub second : get_or t 1 0 ≡ letter_x
    pub middle : get_or t 10 0 ≡ letter_n
    pub last : get_or t (length t - 1) 0 ≡ semicolon

  pub fixed : framed t ≡ true → Fixed
  unfolding framed
  fixed e =
      let a = both _ _ e in
      let s = both _ _ a.0 in
      let b = both _ _ a.1 in
      let c = both _ _ b.1 in
      let d = both _ _ c.1 in
      let f = both _ _ d.1 in
      record {
        long = leb-true _ _ s.0;
        short = leb-true _ _ s.1;
        even = eqb-true _ _ b.0;
        first = eqb-true _ _ c.0;
        second = eqb-true _ _ d.0;
        middle = eqb-true _ _ f.0;
        last = eqb-true _ _ f.1;
      }

  -- One thing that is wrong is enough,
  pub too_few : length t < 12 → false ≡ framed t
  unfolding framed
  too_few h = rw (lt-leb 12 (length t) h) refl

  pub too_many : 28 < length t → false ≡ framed t
  unfolding framed
  too_many h = simp (lt-leb (length t) 28 h, and-false)

  pub odd : (length t % 2 ≡ 0 → ⊥) → false ≡ framed t
  unfolding framed
  odd h = simp (ne_eqb (length t % 2) 0 h, and-false)

  pub no-colon : (get_or t 0 0 ≡ colon → ⊥) → false ≡ framed t
  unfolding framed
  no-colon h = simp (ne_eqb (get_or t 0 0) colon h, and-false)

  pub no-X : (get_or t 1 0 ≡ letter_x → ⊥) → false ≡ framed t
  unfolding framed
  no-X h = simp (ne_eqb (get_or t 1 0) letter_x h, and-false)

  pub no-N : (get_or t 10 0 ≡ letter_n → ⊥) → false ≡ framed t
  unfolding framed
  no-N h = simp (ne_eqb (get_or t 10 0) letter_n h, and-false)

  -- and where nothing else is, the last byte decides.
  pub last-decides : 12 ≤ length t → length t ≤ 28 → length t % 2 ≡ 0 → get_or t 0 0 ≡ colon → get_or t 1 0 ≡ letter_x → get_or t 10 0 ≡ letter_n
      → eqb (get_or t (length t - 1) 0) semicolon ≡ framed t
  unfolding framed
  last-decides a b c d e f =
      rw (le-leb 12 (length t) a, le-leb (length t) 28 b, eq-eqb (length t % 2) 0 c, eq-eqb (get_or t 0 0) colon d, eq-eqb (get_or t 1 0) letter_x e, eq-eqb (get_or t 10 0) letter_n f)
      refl

  pub length-data : framed t ≡ true → length (data_in t) ≡ length t - 12
  length-data e = length-take (length t - 12) (drop 11 t) ∙ omega (arith, length-drop 11 t, (fixed e).long)

  -- The part between `N` and `;` as it is cut out of a text, and what it means that it is read.
  abbrev pub cut : List ℕ
  cut = take (11 + (length t - 12) - 11) (drop 11 t)

  pub data-as : {r s : Option ℕ} → r ≡ s → Stands r cut → Stands s (data_in t)
  data-as {s = s} told p =
      let e : 11 + (length t - 12) - 11 ≡ length t - 12 = omega arith in
      subst (λ (k : ℕ). Stands s (take k (drop 11 t))) e (stands-as cut told p)

  pub data-number : framed t ≡ true → {r : Option ℕ} {n : ℕ} → r ≡ Some n → Stands r cut
      → (are_digits (data_in t) ≡ true) × ((n ≡ number (data_in t)) × (n < 16 ^ (length t - 12)))
  data-number e {n = n} told p =
      let s = data-as told p in
      (s.0, (s.1.0, subst (λ (k : ℕ). n < 16 ^ k) (length-data e) s.1.1))

  -- WHAT IS ANSWERED

  pub unframed : framed t ≡ false → read t ≡ refused 16
  unfolding read
  unframed e = rw e refl

  pub wide : 2 ^ 29 ≤ number (header_in t) → read t ≡ refused 16
  unfolding read
  wide w = rw (le-leb (2 ^ 29) (number (header_in t)) w, or-true) refl

  module _ (e : framed t ≡ true) where
    pub no_header : are_digits (header_in t) ≡ false → read t ≡ refused 16
    unfolding read
    no_header h = rw (e, h) refl

    module _ (h : are_digits (header_in t) ≡ true) where
      pub no-data : are_digits (data_in t) ≡ false → read t ≡ refused 16
      unfolding read
      no-data d = rw (e, h, d) refl

      pub reads : are_digits (data_in t) ≡ true → number (header_in t) < 2 ^ 29 → read t ≡ accepted (frame_in t)
      unfolding read
      reads d n = rw (e, h, d, lt-leb (2 ^ 29) (number (header_in t)) n) refl

      pub reads_as : {header digits bytes : ℕ} → are_digits (data_in t) ≡ true → header < 2 ^ 29 → header ≡ number (header_in t) → digits ≡ number (data_in t)
          → bytes ≡ digits * 16 ^ (16 - (length t - 12))
          → accepted (record { header = header; len = (length t - 12) / 2; bytes = bytes }) ≡ read t
      reads_as {header} {digits} {bytes} d n eh ed eb =
          ap accepted (λ i. record { header = eh i; len = sym (length-data e) i / 2; bytes = (eb ∙ same) i }) ∙ sym (reads d (subst (λ (k : ℕ). k < 2 ^ 29) eh n))
        where
          same : digits * 16 ^ (16 - (length t - 12)) ≡ number (data_in t) * 16 ^ (16 - length (data_in t))
          same = rw (ed, length-data e) refl
