-- A.7's laws: every frame written reads back as itself; every accepted text, once its letters are raised, is what the writer gives.
use Rattle.std.specs.Prelude.{◌≡◌, ℕ, zero, suc, ◌+◌, ◌-◌, ◌*◌, ◌/◌, ◌%◌, ◌^◌, ◌≤◌, ◌<◌, true, false, not, ◌||◌, ltb, eqb, get_or, take, drop}
use Rattle.std.proofs.Math.Path.{refl, ap, sym}
use Rattle.std.proofs.Common.{subst, ◌∙◌, pow-suc, eqb→eq, length-append, length-take, length-drop, take-append-drop, drop_of_length-le, shr_lt, drop-cons, drop-drop}
use mathlib.Core.List.{List, [], ◌∷◌, ◌++◌, map-append}
use native.Mathlib.Omega.{arith}
use Rattle.std.proofs.Math.Nat.{div-add-mod'}
use borrow.Author.Tests.{lt-ltb, le-ltb, lt-leb, eq-eqb, leb-false, ltb-false, not-false}
use Rattle.std.proofs.Math.ListN.{length}
use Rattle.std.proofs.lemmas.Nat.{shl-shr}
use Rattle.std.proofs.Math.Seq.{append_snoc, take_at, drop_at, get_or_at}
use Rattle.headers.specs.Rules.{Answer, accepted, refused}
use Rattle.headers.specs.Frames.{used}
use Rattle.headers.proofs.Laws.{not-accepted, passed, was-accepted, neither, both}
use Rattle.text.specs.Rules.{digit, hex}
use Rattle.text.specs.Hex.{length-hex, first-bytes}
use Rattle.text.specs.Table.{below}
use Rattle.gridconnect.specs.Rules.{colon, letter_x, letter_n, semicolon, text_of, too_long, write, length_of, buffer_of, value, are_digits, number_from, number, header_in, data_in, framed, shaped, Frame, frame_in, read, raised}
use Rattle.gridconnect.specs.Pieces.{front}
use Rattle.gridconnect.proofs.Pieces.{pieces, length-text}
use Rattle.gridconnect.proofs.DigitLaws.{are-append, are-one, number_append, number-one, in-bits}
use Rattle.gridconnect.proofs.Reading.{fixed, length-data, last-decides, reads}
use Rattle.gridconnect.proofs.Raised.{raised-digits}

-- DIGITS THAT ARE WRITTEN

digit_value : (n : ℕ) → n < 16 → value (digit n) ≡ n
unfolding value digit
digit_value n h = eqb→eq (value (digit n)) n (below (λ k. eqb (value (digit k)) k) 16 n tt h)

hex-are : (k n : ℕ) → are_digits (hex k n) ≡ true
unfolding hex are_digits
hex-are zero n = refl
hex-are (suc k) n =
    let v : value (digit (n % 16)) ≡ n % 16 = digit_value (n % 16) (omega arith) in
    rw (are-append, are-one, hex-are k (n / 16), v, lt-ltb (n % 16) 16 (omega arith)) refl

hex-number : (k n : ℕ) → n < 16 ^ k → number (hex k n) ≡ n
unfolding hex number_from
hex-number zero n h = omega arith
hex-number (suc k) n h =
    let p : n < 16 ^ k * 16 = rw pow-suc at h in
    let v : value (digit (n % 16)) ≡ n % 16 = digit_value (n % 16) (omega arith) in
    rw (number_append, number-one, hex-number k (n / 16) (omega arith), v) (omega arith)

last_of : (l : List ℕ) (b : ℕ) → get_or (l ++ (b ∷ [])) (length (l ++ (b ∷ [])) - 1) 0 ≡ b
last_of l b = get_or_at l b [] 0 _ (omega (arith, length-append l (b ∷ [])))

-- A TEXT THAT IS WRITTEN: where its parts stand

module _ (header len bytes : ℕ) (few : len ≤ 8) where
  abbrev text : List ℕ
  text = text_of header len bytes

  abbrev digits : List ℕ
  digits = take (2 * len) (hex 16 bytes)

  count : length digits ≡ 2 * len
  count = length-take (2 * len) (hex 16 bytes) ∙ rw (length-hex 16 bytes) (omega arith)

  header-there : header_in text ≡ hex 8 header
  unfolding text_of
  header-there = take_at (hex 8 header) _ 8 (length-hex 8 header)

  behind : drop 11 text ≡ digits ++ (semicolon ∷ [])
  unfolding text_of
  behind =
      ap (drop 9) (sym (append_snoc (hex 8 header) letter_n (digits ++ (semicolon ∷ []))))
      ∙ drop_at (hex 8 header ++ (letter_n ∷ [])) _ 9 (length-append (hex 8 header) (letter_n ∷ []) ∙ rw (length-hex 8 header) refl)

  data-there : data_in text ≡ digits
  data-there = rw (length-text header len bytes few, behind) (take_at digits _ (12 + 2 * len - 12) (count ∙ omega arith))

  last-there : get_or text (length text - 1) 0 ≡ semicolon
  last-there = subst (λ (l : List ℕ). get_or l (length l - 1) 0 ≡ semicolon) (pieces header len bytes) (last_of (front header len bytes) semicolon)

  middle-there : get_or text 10 0 ≡ letter_n
  unfolding text_of
  middle-there = get_or_at (hex 8 header) letter_n _ 0 8 (length-hex 8 header)

  text-framed : framed text ≡ true
  unfolding text_of
  text-framed =
      let e : length text ≡ 12 + 2 * len = length-text header len bytes few in
      sym (last-decides text (omega (arith, e)) (omega (arith, e)) (rw e (omega arith)) refl refl middle-there) ∙ eq-eqb _ _ last-there

  -- The data is what is left of eight bytes without those that the length does not count.
  abbrev kept : ℕ
  kept = bytes / 2 ^ (64 - 8 * len)

  digits-kept : digits ≡ hex (2 * len) kept
  digits-kept = first-bytes len bytes few

  module _ (narrow : header < 2 ^ 29) (short : bytes < 2 ^ 64) where
    number-kept : number digits ≡ kept
    number-kept =
        let e : 4 * (2 * len) + (64 - 8 * len) ≡ 64 = omega arith in
        rw (digits-kept)
        (hex-number (2 * len) kept (rw (in-bits 4 (2 * len)) (shr_lt (4 * (2 * len)) (64 - 8 * len) (rw e short))))

    used-kept : kept * 16 ^ (16 - 2 * len) ≡ used len bytes
    unfolding used
    used-kept =
        let e : 4 * (16 - 2 * len) ≡ 64 - 8 * len = omega arith in
        let f : 8 * (8 - len) ≡ 64 - 8 * len = omega arith in
        rw (in-bits 4 (16 - 2 * len), e, in-bits 8 (8 - len), f)
        (omega (arith, div-add-mod' bytes (2 ^ (64 - 8 * len))))

    text-read : read text ≡ accepted (record { header = header; len = len; bytes = used len bytes })
    text-read =
        reads text text-framed (rw header-there (hex-are 8 header)) (rw (data-there, digits-kept) (hex-are (2 * len) kept)) (rw eh narrow)
        ∙ ap accepted (λ i. record { header = eh i; len = el i; bytes = eb i })
      where
        eh : number (header_in text) ≡ header
        eh = rw header-there (hex-number 8 header (omega (arith, narrow)))

        el : length (data_in text) / 2 ≡ len
        el = rw (data-there, count) (omega arith)

        eb : number (data_in text) * 16 ^ (16 - length (data_in text)) ≡ used len bytes
        eb = rw (data-there, count, number-kept) used-kept

-- Every frame written reads back as itself: its header, its length, and the data bytes that this counts.
pub written_read : (room header len bytes : ℕ) {text : List ℕ} → bytes < 2 ^ 64 → write room header len bytes ≡ accepted text
    → read text ≡ accepted (record { header = header; len = len; bytes = used len bytes })
written_read room header len bytes short e =
    let p = passed (too_long header || ltb 8 len) 9 _ _ e in
    let q = was-accepted (ltb room (length (text_of header len bytes))) 17 _ _ p.1 in
    let r = neither (too_long header) (ltb 8 len) p.0 in
    subst (λ (t : List ℕ). read t ≡ accepted (record { header = header; len = len; bytes = used len bytes })) q.1
    (text-read header len bytes (ltb-false 8 len r.1) (leb-false (2 ^ 29) header r.0) short)

-- So of as many bytes of a buffer as the writer answers.
pub buffer-read : (before : List ℕ) (header len bytes : ℕ) {n : ℕ} → bytes < 2 ^ 64 → length_of (write (length before) header len bytes) ≡ accepted n
    → read (take n (buffer_of (write (length before) header len bytes) before)) ≡ accepted (record { header = header; len = len; bytes = used len bytes })
buffer-read before header len bytes {n} short e = go (write (length before) header len bytes) refl e
  where
    go : (a : Answer (List ℕ)) → write (length before) header len bytes ≡ a → length_of a ≡ accepted n
        → read (take n (buffer_of a before)) ≡ accepted (record { header = header; len = len; bytes = used len bytes })
    go (accepted text) w l =
        ap read (take_at text (drop (length text) before) n (was-accepted false 0 (length text) n l).1) ∙ written_read (length before) header len bytes short w
    go (refused k) w l = absurd (not-accepted k n l)

-- A TEXT THAT IS READ: it is its parts.

module _ (t : List ℕ) (e : framed t ≡ true) where
  whole : t ≡ colon ∷ letter_x ∷ (header_in t ++ letter_n ∷ (data_in t ++ semicolon ∷ []))
  whole =
      let o = fixed t e in
      drop-cons t 0 0 (omega (arith, o.long))
      ∙ ap (λ (b : ℕ). b ∷ drop 1 t) o.first
      ∙ ap (λ (l : List ℕ). colon ∷ l) (drop-cons t 1 0 (omega (arith, o.long)) ∙ ap (λ (b : ℕ). b ∷ drop 2 t) o.second)
      ∙ ap (λ (l : List ℕ). colon ∷ letter_x ∷ l) (sym (take-append-drop 8 (drop 2 t)) ∙ ap (λ (l : List ℕ). header_in t ++ l) rest)
    where
      end : drop (length t - 12) (drop 11 t) ≡ semicolon ∷ []
      end =
          let o = fixed t e in
          let k : 11 + (length t - 12) ≡ length t - 1 = omega (arith, o.long) in
          drop-drop (length t - 12) 11 t
          ∙ ap (λ (n : ℕ). drop n t) k
          ∙ drop-cons t (length t - 1) 0 (omega (arith, o.long))
          ∙ ap (λ (b : ℕ). b ∷ drop (suc (length t - 1)) t) o.last
          ∙ ap (λ (l : List ℕ). semicolon ∷ l) (drop_of_length-le t {i = suc (length t - 1)} (omega arith))

      rest : drop 8 (drop 2 t) ≡ letter_n ∷ (data_in t ++ semicolon ∷ [])
      rest =
          let o = fixed t e in
          drop-drop 8 2 t
          ∙ drop-cons t 10 0 (omega (arith, o.long))
          ∙ ap (λ (b : ℕ). b ∷ drop 11 t) o.middle
          ∙ ap (λ (l : List ℕ). letter_n ∷ l) (sym (take-append-drop (length t - 12) (drop 11 t)) ∙ ap (λ (l : List ℕ). data_in t ++ l) end)

  header-long : length (header_in t) ≡ 8
  header-long = length-take 8 (drop 2 t) ∙ omega (arith, length-drop 2 t, (fixed t e).long)

  -- Its length in data bytes.
  abbrev len : ℕ
  len = length (data_in t) / 2

  data-long : length (data_in t) ≡ 2 * len
  data-long = omega (arith, length-data t e, (fixed t e).even, (fixed t e).long)

  few : len ≤ 8
  few = omega (arith, length-data t e, (fixed t e).short)

  module _ (hs : are_digits (header_in t) ≡ true) (ds : are_digits (data_in t) ≡ true) where
    raised-header : raised (header_in t) ≡ hex 8 (number (header_in t))
    raised-header = raised-digits (header_in t) hs ∙ ap (λ (k : ℕ). hex k (number (header_in t))) header-long

    raised-data : raised (data_in t) ≡ take (2 * len) (hex 16 (frame_in t).bytes)
    raised-data =
        let k : 4 * (16 - length (data_in t)) ≡ 64 - 8 * len = omega (arith, data-long) in
        raised-digits (data_in t) ds
        ∙ ap (λ (n : ℕ). hex n (number (data_in t))) data-long
        ∙ sym (first-bytes len (frame_in t).bytes few ∙ ap (hex (2 * len)) (rw (in-bits 4 (16 - length (data_in t)), k) (shl-shr (number (data_in t)) (64 - 8 * len))))

    raised-text : raised t ≡ text_of (frame_in t).header (frame_in t).len (frame_in t).bytes
    unfolding text_of
    raised-text =
        ap raised whole
        ∙ ap (λ (l : List ℕ). colon ∷ letter_x ∷ l)
        (map-append _ (header_in t) _
        ∙ ap (λ (l : List ℕ). l ++ raised (letter_n ∷ (data_in t ++ semicolon ∷ []))) raised-header
        ∙ ap (λ (l : List ℕ). hex 8 (number (header_in t)) ++ letter_n ∷ l) (map-append _ (data_in t) _ ∙ ap (λ (l : List ℕ). l ++ semicolon ∷ []) raised-data))

    rewritten : (room : ℕ) → number (header_in t) < 2 ^ 29 → length t ≤ room
        → write room (frame_in t).header (frame_in t).len (frame_in t).bytes ≡ accepted (raised t)
    rewritten room narrow h =
        let k : length (text_of (frame_in t).header (frame_in t).len (frame_in t).bytes) ≡ 12 + 2 * len = length-text (frame_in t).header len (frame_in t).bytes few in
        let r : 12 + 2 * len ≤ room = omega (arith, data-long, length-data t e, (fixed t e).long, h) in
        rw (lt-leb (2 ^ 29) (number (header_in t)) narrow, le-ltb 8 len few, k, le-ltb room (12 + 2 * len) r) (ap accepted (sym raised-text))

-- Every accepted text, once its letters are raised, is what the writer gives for the frame that was read, where there is room for it.
pub read-written : (t : List ℕ) {f : Frame} → read t ≡ accepted f → (room : ℕ) → length t ≤ room
    → write room f.header f.len f.bytes ≡ accepted (raised t)
unfolding read
read-written t e room h =
    let p = was-accepted (not (shaped t) || too_long (number (header_in t))) 16 _ _ e in
    let q = neither (not (shaped t)) (too_long (number (header_in t))) p.0 in
    let s = both (framed t) _ (not-false (shaped t) q.0) in
    let d = both (are_digits (header_in t)) (are_digits (data_in t)) s.1 in
    subst (λ (f : Frame). write room f.header f.len f.bytes ≡ accepted (raised t)) p.1
    (rewritten t s.0 d.0 d.1 room (leb-false (2 ^ 29) (number (header_in t)) q.1) h)
