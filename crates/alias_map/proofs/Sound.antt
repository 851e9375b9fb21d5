-- What is sound of a map's entries: an empty map's are, and every note keeps it, refused ones too.
use Rattle.std.specs.Prelude.{◌≡◌, refl, Bool, true, false, not, cond, ◌&&◌, List, [], ◌∷◌, ◌++◌, ℕ, ◌+◌, ◌^◌, ◌<◌, ◌≤◌, leb, eqb, length, Result, Ok, Err}
use Rattle.std.proofs.Common.{sym, subst, ◌∙◌, arith, length-append, eq-eqb, leb-false}
use Rattle.std.proofs.Math.Path.{ap}
use Rattle.std.proofs.lemmas.Bool.{eqb-false}
use Rattle.headers.specs.Frames.{malformed}
use Rattle.alias_map.specs.Answers.{refusal_as}
use Rattle.headers.specs.declared.frame.Frame.{Frame}
use Rattle.alias_map.specs.declared.answer.Refusal.{Refusal}
use Rattle.alias_map.specs.Rules.{Answer, accepted, refused, refuse, alias_in, kind_in, Kind, cid, rid, amd, ame, amr, error_report, reserved, message, room, has_alias, has_id, has_either, without, add, define, note_kind, entry_in, note, after}
use Rattle.alias_map.specs.Words.{entries_of}
use Rattle.alias_map.specs.Answers.{Gives}
use Rattle.alias_map.specs.Laws.{Implies, count}
use Rattle.alias_map.proofs.Laws.{like-alias, like-id, without-length, count-append, count-without, count-removed}
use Rattle.alias_map.specs.declared.entry.Entry.{Entry}
use Rattle.alias_map.specs.Sound.{Named, AllNamed, Sound, Keeps, Notes}

pub empty-sound : Sound []
unfolding count
empty-sound = record { few = omega arith; aliases = λ a. omega arith; ids = λ i. omega arith; named = tt }

-- No two entries, wherever they stand, have one alias or one Node ID.
module _ (es xs ys zs : List Entry) (e g : Entry) (h : Sound es) (stand : es ≡ xs ++ e ∷ (ys ++ g ∷ zs)) where
  apart : (q : Entry → Bool) → count q es ≤ 1 → q e ≡ true → q g ≡ true → ⊥
  unfolding count
  apart q l a b =
      let all = ap (count q) stand ∙ count-append q xs (e ∷ (ys ++ g ∷ zs)) in
      let more = count-append q ys (g ∷ zs) in
      omega (arith, simp a at all, simp b at more)

  pub aliases-differ : e.alias.0 ≡ g.alias.0 → ⊥
  aliases-differ s = apart (has_alias g.alias.0) (h.aliases g.alias.0) (eq-eqb e.alias.0 g.alias.0 s) (eq-eqb g.alias.0 g.alias.0 refl)

  pub ids-differ : e.id ≡ g.id → ⊥
  ids-differ s = apart (has_id g.id) (h.ids g.id) (eq-eqb e.id g.id s) (eq-eqb g.id g.id refl)

-- REMOVING AND ADDING

named-without : (p : Entry → Bool) (es : List Entry) → AllNamed es → AllNamed (without p es)
unfolding without
named-without p [] h = tt
named-without p (e ∷ es) h = go (p e) (named-without p es h.1)
  where
    go : (b : Bool) → AllNamed (without p es) → AllNamed (cond b (without p es) (e ∷ without p es))
    go true r = r
    go false r = (h.0, r)

pub without-sound : (p : Entry → Bool) (es : List Entry) → Sound es → Sound (without p es)
without-sound p es h = record {
  few = omega (arith, h.few, without-length p es);
  aliases = λ a. omega (arith, h.aliases a, count-without (has_alias a) p es);
  ids = λ i. omega (arith, h.ids i, count-without (has_id i) p es);
  named = named-without p es h.named;
}

named-last : (es : List Entry) (n : Entry) → AllNamed es → Named n → AllNamed (es ++ n ∷ [])
named-last [] n h x = (x, tt)
named-last (e ∷ es) n h x = (h.0, named-last es n h.1 x)

-- a test that holds of one entry at most does so after the new entry has taken the place of all like it
once : (q p : Entry → Bool) (es : List Entry) (n : Entry) → (q n ≡ true → Implies q p) → count q es ≤ 1
    → count q (without p es ++ n ∷ []) ≤ 1
unfolding count
once q p es n h l = go (q n) refl
  where
    all : count q (without p es ++ n ∷ []) ≡ count q (without p es) + (cond (q n) 1 0 + 0)
    all = count-append q (without p es) (n ∷ [])

    go : (b : Bool) → q n ≡ b → count q (without p es ++ n ∷ []) ≤ 1
    go true e = let g = count-removed q p es (h e) in rw all (simp e (omega arith))
    go false e = let g = count-without q p es in rw all (simp e (omega arith))

add-keeps : (es : List Entry) (n : Entry) → Sound es → Named n → Keeps (add es n)
unfolding add
add-keeps es n h x = go (leb room (length (without (has_either n) es))) refl
  where
    go : (b : Bool) → leb room (length (without (has_either n) es)) ≡ b
        → Keeps (refuse b 12 (accepted (without (has_either n) es ++ n ∷ [])))
    go true e = tt
    go false e = record {
      few = omega (arith, length-append (without (has_either n) es) (n ∷ []), leb-false room (length (without (has_either n) es)) e);
      aliases = λ a. once (has_alias a) (has_either n) es n (like-alias n a) (h.aliases a);
      ids = λ i. once (has_id i) (has_either n) es n (like-id n i) (h.ids i);
      named = named-last (without (has_either n) es) n (named-without (has_either n) es h.named) x;
    }

define-keeps : (es : List Entry) (len : ℕ) (n : Entry) → n.alias.0 < 2 ^ 12 → n.id < 2 ^ 48 → Sound es → Keeps (define es len n)
unfolding define
define-keeps es len n ha hi h = go (eqb len 6) (eqb n.alias.0 0) (eqb n.id 0) refl refl
  where
    go : (k a i : Bool) → eqb n.alias.0 0 ≡ a → eqb n.id 0 ≡ i
        → Keeps (cond (k && (not a && not i)) (add es n) (accepted es))
    go false a i p q = h
    go true true i p q = h
    go true false true p q = h
    go true false false p q =
        let na = eqb-false n.alias.0 0 p in
        let ni = eqb-false n.id 0 q in
        add-keeps es n h (record { alias = (omega arith, ha); id = (omega arith, hi) })

pub note-keeps : (es : List Entry) (f : Frame) → f.bytes < 2 ^ 64 → Sound es → Keeps (note es f)
unfolding note note_kind
note-keeps es f hb h = go (malformed f) (eqb f.kind 0) (kind_in f.header)
  where
    kinds : (k : Kind) → Keeps (note_kind k es f.len (entry_in f))
    kinds (cid number section) = h
    kinds rid = h
    kinds amd = define-keeps es f.len (entry_in f) (omega arith) (omega arith) h
    kinds ame = h
    kinds amr = without-sound (has_alias (alias_in f.header)) es h
    kinds (error_report number) = h
    kinds reserved = h
    kinds message = h

    go : (b c : Bool) (k : Kind) → Keeps (refuse b 9 (cond c (note_kind k es f.len (entry_in f)) (accepted es)))
    go true c k = tt
    go false true k = kinds k
    go false false k = h

-- What a note leaves: the entries that the rules give.
pub leaves : (t : List ℕ) (a : Answer (List Entry)) (x : Result (Unit {0}) Refusal) (t' : List ℕ) → Gives t a x t' → entries_of t' ≡ after a (entries_of t)
leaves t (accepted es) (Ok u) t' g = was es g.answer
  where
    was : (es : List Entry) → ◌≡◌ {A = Answer (List Entry)} (accepted (entries_of t')) (accepted es) → entries_of t' ≡ es
    was es e = cc
leaves t (accepted es) (Err r) t' g = clash g.answer
  where
    clash : ◌≡◌ {A = Answer (List Entry)} (refused (refusal_as r)) (accepted es) → entries_of t' ≡ es
    clash e = cc
leaves t (refused number) x t' g = ap entries_of (g.still refl)

-- So are the entries that a note leaves.
pub gives-sound : (t : List ℕ) (a : Answer (List Entry)) (x : Result (Unit {0}) Refusal) (t' : List ℕ) → Gives t a x t' → Keeps a
    → Sound (entries_of t) → Sound (entries_of t')
gives-sound t a x t' g k h = subst Sound (sym (leaves t a x t' g)) (go a k)
  where
    go : (a : Answer (List Entry)) → Keeps a → Sound (after a (entries_of t))
    go (accepted es) s = s
    go (refused number) s = h

pub notes : (t : List ℕ) (f : Frame) (x : Result (Unit {0}) Refusal) (t' : List ℕ) → f.bytes < 2 ^ 64 → Gives t (note (entries_of t) f) x t' → Notes t f x t'
notes t f x t' hb g = record {
  gives = g;
  sound = λ h. gives-sound t (note (entries_of t) f) x t' g (note-keeps (entries_of t) f hb h) h;
}
