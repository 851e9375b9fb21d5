-- Document 01, "The map", and document 02, A.4. This is the file to believe of the crate.
use Rattle.std.specs.Prelude.{ℕ, ◌+◌, Bool, not, cond, ◌&&◌, ◌||◌, List, [], ◌∷◌, ◌++◌, leb, eqb, length}
use Rattle.headers.specs.Frames.{malformed}
pub use Rattle.headers.specs.Rules.{
  Answer,
  accepted,
  refused,
  refuse,
  alias_in,
  kind_in,
  Kind,
  cid,
  rid,
  amd,
  ame,
  amr,
  error_report,
  reserved,
  message,
  id_in,
}
use Rattle.headers.specs.declared.frame.Frame.{Frame}
use Rattle.alias_map.specs.declared.entry.Entry.{Entry}

-- 64 entries, alias with Node ID, oldest first.
abbrev pub room : ℕ
room = 64

abbrev pub has_alias : ℕ → Entry → Bool
has_alias a e = eqb e.alias.0 a

abbrev pub has_id : ℕ → Entry → Bool
has_id i e = eqb e.id i

-- With that alias or that Node ID.
abbrev pub has_either : Entry → Entry → Bool
has_either n e = has_alias n.alias.0 e || has_id n.id e

-- The entries with those removed of which the test holds; the others stay in their order.
unfoldable pub without : (Entry → Bool) → List Entry → List Entry
without p [] = []
without p (e ∷ es) = cond (p e) (without p es) (e ∷ without p es)

-- NOTE a frame. Accepted, it gives the entries that there are then; a refusal changes nothing.

-- An AMD removes entries with that alias or that Node ID and adds itself last, 12 if 64 others remain:
unfoldable pub add : List Entry → Entry → Answer (List Entry)
add es n =
    refuse (leb room (length (without (has_either n) es))) 12
    (accepted (without (has_either n) es ++ n ∷ []))

-- one of 6 data bytes with alias and Node ID not 0.
unfoldable pub define : List Entry → (len : ℕ) → Entry → Answer (List Entry)
define es len n =
    cond (eqb len 6 && (not (eqb n.alias.0 0) && not (eqb n.id 0))) (add es n) (accepted es)

-- An AMR removes its alias, whatever its data; others change nothing.
unfoldable pub note_kind : Kind → List Entry → (len : ℕ) → Entry → Answer (List Entry)
note_kind (cid number section) es len n = accepted es
note_kind rid es len n = accepted es
note_kind amd es len n = define es len n
note_kind ame es len n = accepted es
note_kind amr es len n = accepted (without (has_alias n.alias.0) es)
note_kind (error_report number) es len n = accepted es
note_kind reserved es len n = accepted es
note_kind message es len n = accepted es

-- A frame's alias with the Node ID in its first 6 data bytes.
abbrev pub entry_in : Frame → Entry
entry_in f = record { alias = record { 0 = alias_in f.header }; id = id_in f.bytes }

-- Malformed is 9, as for a foreign frame. AMD and AMR are extended frames; remote and 11-bit ones are among the others.
unfoldable pub note : List Entry → Frame → Answer (List Entry)
note es f =
    refuse (malformed f) 9
    (cond (eqb f.kind 0) (note_kind (kind_in f.header) es f.len (entry_in f)) (accepted es))

-- The entries after a note that was answered so.
abbrev pub after : Answer (List Entry) → (before : List Entry) → List Entry
after (accepted es) before = es
after (refused number) before = before

-- LOOK UP either way: 13 if absent.

-- The oldest entry of which the test holds,
unfoldable pub first : (Entry → Bool) → List Entry → Answer Entry
first p [] = refused 13
first p (e ∷ es) = cond (p e) (accepted e) (first p es)

-- and what is asked of it.
abbrev pub asked : (Entry → ℕ) → Answer Entry → Answer ℕ
asked g (accepted e) = accepted (g e)
asked g (refused number) = refused number

-- A.4. Either look-up ends at its hit; how many entries it compared, counted as they are: the hit's place from the oldest,
-- which is 1.
unfoldable pub compared : (Entry → Bool) → List Entry → ℕ
compared p [] = 0
compared p (e ∷ es) = 1 + cond (p e) 0 (compared p es)

-- A.4. What either look-up answers: what is asked of its hit, and besides how many entries it compared.
pub record Finding : Type 0 where
  pub value : ℕ
  pub count : ℕ

-- A.4. Otherwise answers, 13 included, remain those of document 01.
abbrev pub besides : (count : ℕ) → Answer ℕ → Answer Finding
besides n (accepted x) = accepted (record { value = x; count = n })
besides n (refused number) = refused number

-- A.4. So a look-up answers, for what is asked of an entry and the test by which it is looked for;
abbrev pub look_up : (Entry → ℕ) → (Entry → Bool) → List Entry → Answer Finding
look_up g p es = besides (compared p es) (asked g (first p es))

-- either way, the Node ID of an alias and the alias of a Node ID.
unfoldable pub id_of : List Entry → ℕ → Answer Finding
id_of es a = look_up (λ e. e.id) (has_alias a) es

unfoldable pub alias_of : List Entry → ℕ → Answer Finding
alias_of es i = look_up (λ e. e.alias.0) (has_id i) es
