-- Laws of the map, proved of the rules: what is removed, what is found, and in which order the entries stand.
use Rattle.std.specs.Prelude.{◌≡◌, Bool, cond, ℕ, ◌+◌, ◌≤◌, leb}
use Rattle.std.proofs.Math.Path.{refl, ap, subst}
use Rattle.std.proofs.Common.{sym, ◌∙◌, arith, length-append}
use Rattle.std.proofs.Math.Bool.{true, false, or-true}
use Rattle.std.proofs.lemmas.Bool.{false≢true}
use mathlib.Core.List.{List, [], ◌∷◌, ◌++◌, append-nil}
use Rattle.std.proofs.Math.ListN.{length}
use borrow.Author.Tests.{eq-eqb, ne_eqb, eqb-true}
use Rattle.headers.specs.Frames.{malformed}
use Rattle.headers.specs.declared.frame.Frame.{Frame}
use Rattle.alias_map.specs.Rules.{Answer, accepted, refused, refuse, alias_in, kind_in, amd, amr, id_in, room, has_alias, has_id, has_either, without, add, define, note_kind, entry_in, note, first, asked, compared, besides, look_up, id_of, alias_of}
use Rattle.alias_map.specs.declared.entry.Entry.{Entry}
use Rattle.alias_map.specs.Laws.{Implies, count, value_of}

-- whoever has the alias of n, or its Node ID, has either
pub like-alias : (n : Entry) (a : ℕ) → has_alias a n ≡ true → Implies (has_alias a) (has_either n)
like-alias n a h e g =
    let same : e.alias.0 ≡ n.alias.0 = eqb-true e.alias.0 a g ∙ sym (eqb-true n.alias.0 a h) in
    simp (eq-eqb e.alias.0 n.alias.0 same)

pub like-id : (n : Entry) (i : ℕ) → has_id i n ≡ true → Implies (has_id i) (has_either n)
like-id n i h e g =
    let same : e.id ≡ n.id = eqb-true e.id i g ∙ sym (eqb-true n.id i h) in
    simp (eq-eqb e.id n.id same, or-true)

-- REMOVING

-- what is removed from two lists one after the other is removed from each
pub without-append : (p : Entry → Bool) (xs ys : List Entry) → without p (xs ++ ys) ≡ without p xs ++ without p ys
unfolding without
without-append p [] ys = refl
without-append p (e ∷ xs) ys = go (p e) (without-append p xs ys)
  where
    go : (b : Bool) → without p (xs ++ ys) ≡ without p xs ++ without p ys
        → cond b (without p (xs ++ ys)) (e ∷ without p (xs ++ ys)) ≡ cond b (without p xs) (e ∷ without p xs) ++ without p ys
    go true r = r
    go false r = ap (λ (l : List Entry). e ∷ l) r

pub without-length : (p : Entry → Bool) (es : List Entry) → length (without p es) ≤ length es
unfolding without
without-length p [] = omega arith
without-length p (e ∷ es) = go (p e) (without-length p es)
  where
    go : (b : Bool) → length (without p es) ≤ length es → length (cond b (without p es) (e ∷ without p es)) ≤ length (e ∷ es)
    go true r = omega arith
    go false r = omega arith

pub count-append : (q : Entry → Bool) (xs ys : List Entry) → count q (xs ++ ys) ≡ count q xs + count q ys
unfolding count
count-append q [] ys = omega arith
count-append q (e ∷ xs) ys = let r = count-append q xs ys in omega arith

-- removing makes them no more
pub count-without : (q p : Entry → Bool) (es : List Entry) → count q (without p es) ≤ count q es
unfolding count without
count-without q p [] = omega arith
count-without q p (e ∷ es) = go (p e) (count-without q p es)
  where
    go : (b : Bool) → count q (without p es) ≤ count q es
        → count q (cond b (without p es) (e ∷ without p es)) ≤ cond (q e) 1 0 + count q es
    go true r = omega arith
    go false r = omega arith

-- and leaves none of those that are removed
pub count-removed : (q p : Entry → Bool) (es : List Entry) → Implies q p → count q (without p es) ≡ 0
unfolding count without
count-removed q p [] h = refl
count-removed q p (e ∷ es) h = go (p e) (q e) refl (h e) (count-removed q p es h)
  where
    go : (b c : Bool) → q e ≡ c → (q e ≡ true → b ≡ true) → count q (without p es) ≡ 0
        → count q (cond b (without p es) (e ∷ without p es)) ≡ 0
    go true c s i r = r
    go false true s i r = absurd (false≢true (i s))
    go false false s i r = simp s (omega arith)

-- LOOKING UP

module _ (q : Entry → Bool) where
  -- where none of the older entries is looked for, the search has compared them all and goes on to the others
  beyond : (older es : List Entry) → count q older ≡ 0
      → (first q (older ++ es) ≡ first q es) × (compared q (older ++ es) ≡ length older + compared q es)
  unfolding count first compared
  beyond [] es h = (refl, omega arith)
  beyond (e ∷ older) es h = go (q e) refl (beyond older es)
    where
      go : (b : Bool) → q e ≡ b
          → (count q older ≡ 0 → (first q (older ++ es) ≡ first q es) × (compared q (older ++ es) ≡ length older + compared q es))
          → (first q ((e ∷ older) ++ es) ≡ first q es) × (compared q ((e ∷ older) ++ es) ≡ length (e ∷ older) + compared q es)
      go true s r = absurd (omega (arith, simp s at h))
      go false s r = let rest = r (omega (arith, simp s at h)) in (simp s rest.0, simp s (omega (arith, rest.1)))

module _ (g : Entry → ℕ) (q : Entry → Bool) where
  -- A.4. The oldest entry of which the test holds is found, and the count is its place from the oldest, which is 1;
  pub found_at : (older newer : List Entry) (e : Entry) → count q older ≡ 0 → q e ≡ true
      → look_up g q (older ++ e ∷ newer) ≡ accepted (record { value = g e; count = length older + 1 })
  unfolding first compared
  found_at older newer e none h =
      let r = beyond q older (e ∷ newer) none in
      let place : compared q (older ++ e ∷ newer) ≡ length older + 1 = r.1 ∙ simp h in
      let hit : first q (older ++ e ∷ newer) ≡ accepted e = r.0 ∙ simp h in
      λ j. besides (place j) (asked g (hit j))

  -- where there is none, 13 alone.
  pub not_found : (es : List Entry) → count q es ≡ 0 → look_up g q es ≡ refused 13
  unfolding first
  not_found es none =
      let absent : first q es ≡ refused 13 = ap (first q) (sym (append-nil es)) ∙ (beyond q es [] none).0 in
      ap (λ (a : Answer Entry). besides (compared q es) (asked g a)) absent

  -- A.4. Otherwise answers remain those of document 01.
  pub otherwise-as-before : (es : List Entry) → value_of (look_up g q es) ≡ asked g (first q es)
  otherwise-as-before es = go (first q es)
    where
      go : (a : Answer Entry) → value_of (besides (compared q es) (asked g a)) ≡ asked g a
      go (accepted e) = refl
      go (refused number) = refl

module _ (n : Entry) where
  -- what was added is found by its alias and by its Node ID, after all others
  abbrev Finds : Answer (List Entry) → Type 0
  Finds (accepted es) =
      (id_of es n.alias.0 ≡ accepted (record { value = n.id; count = length es }))
      × (alias_of es n.id ≡ accepted (record { value = n.alias.0; count = length es }))
  Finds (refused number) = Unit {0}

  add-finds : (es : List Entry) → Finds (add es n)
  unfolding add id_of alias_of
  add-finds es = go (leb room (length others))
    where
      others : List Entry
      others = without (has_either n) es

      last : (g : Entry → ℕ) (q : Entry → Bool) → q n ≡ true → Implies q (has_either n)
          → look_up g q (others ++ n ∷ []) ≡ accepted (record { value = g n; count = length (others ++ n ∷ []) })
      last g q h i =
          found_at g q others [] n (count-removed q (has_either n) es i) h
          ∙ (λ j. accepted (record { value = g n; count = sym (length-append others (n ∷ [])) j }))

      own-alias : has_alias n.alias.0 n ≡ true
      own-alias = eq-eqb n.alias.0 n.alias.0 refl

      own-id : has_id n.id n ≡ true
      own-id = eq-eqb n.id n.id refl

      go : (b : Bool) → Finds (refuse b 12 (accepted (others ++ n ∷ [])))
      go true = tt
      go false = (
        last (λ e. e.id) (has_alias n.alias.0) own-alias (like-alias n n.alias.0 own-alias),
        last (λ e. e.alias.0) (has_id n.id) own-id (like-id n n.id own-id),
      )

module _ (es es' : List Entry) (f : Frame) (extended : f.kind ≡ 0) (e : note es f ≡ accepted es') where
  -- what was noted last is found, either way, after all others
  pub noted-found : kind_in f.header ≡ amd → f.len ≡ 6 → (alias_in f.header ≡ 0 → ⊥) → (id_in f.bytes ≡ 0 → ⊥)
      → (id_of es' (alias_in f.header) ≡ accepted (record { value = id_in f.bytes; count = length es' }))
      × (alias_of es' (id_in f.bytes) ≡ accepted (record { value = alias_in f.header; count = length es' }))
  unfolding note note_kind define
  noted-found k l na ni = subst (Finds (entry_in f)) (sym added ∙ e) (go (malformed f))
    where
      added : note es f ≡ refuse (malformed f) 9 (add es (entry_in f))
      added = simp (eq-eqb f.kind 0 extended, k, eq-eqb f.len 6 l, ne_eqb (alias_in f.header) 0 na, ne_eqb (id_in f.bytes) 0 ni)

      go : (b : Bool) → Finds (entry_in f) (refuse b 9 (add es (entry_in f)))
      go true = tt
      go false = add-finds (entry_in f) es

  -- an alias that was released is absent
  pub released-absent : kind_in f.header ≡ amr → id_of es' (alias_in f.header) ≡ refused 13
  unfolding note note_kind id_of
  released-absent k = subst Gone (sym removed ∙ e) (go (malformed f))
    where
      Gone : Answer (List Entry) → Type 0
      Gone (accepted l) = id_of l (alias_in f.header) ≡ refused 13
      Gone (refused number) = Unit {0}

      rest : List Entry
      rest = without (has_alias (alias_in f.header)) es

      removed : note es f ≡ refuse (malformed f) 9 (accepted rest)
      removed = simp (eq-eqb f.kind 0 extended, k)

      go : (b : Bool) → Gone (refuse b 9 (accepted rest))
      go true = tt
      go false =
          not_found (λ e. e.id) (has_alias (alias_in f.header)) rest
          (count-removed (has_alias (alias_in f.header)) (has_alias (alias_in f.header)) es (λ x h. h))
