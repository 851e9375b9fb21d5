-- The entries stand in the order in which they were noted: what a note does to their order.
use Rattle.std.proofs.Common.{subst}
use Rattle.std.specs.Prelude.{Bool, true, false, not, cond, ◌&&◌, leb, eqb, length}
use mathlib.Core.List.{List, [], ◌∷◌, ◌++◌, append-nil}
use Rattle.headers.specs.Frames.{malformed}
use Rattle.headers.specs.declared.frame.Frame.{Frame}
use Rattle.alias_map.specs.Rules.{Answer, accepted, refuse, kind_in, Kind, cid, rid, amd, ame, amr, error_report, reserved, message, room, has_alias, has_either, without, add, define, note_kind, entry_in, note, after}
use Rattle.alias_map.specs.declared.entry.Entry.{Entry}
use Rattle.alias_map.specs.Order.{Within, skips, takes, none}

pub all : (xs : List Entry) → Within xs xs
all [] = none
all (x ∷ xs) = takes (all xs)

pub some-of-some : {xs ys zs : List Entry} → Within xs ys → Within ys zs → Within xs zs
some-of-some h none = h
some-of-some h (skips k) = skips (some-of-some h k)
some-of-some (skips h) (takes k) = skips (some-of-some h k)
some-of-some (takes h) (takes k) = takes (some-of-some h k)

pub both : {xs ys us vs : List Entry} → Within xs ys → Within us vs → Within (xs ++ us) (ys ++ vs)
both none k = k
both (skips h) k = skips (both h k)
both (takes h) k = takes (both h k)

no-entry : (ys : List Entry) → Within [] ys
no-entry [] = none
no-entry (y ∷ ys) = skips (no-entry ys)

pub without-within : (p : Entry → Bool) (es : List Entry) → Within (without p es) es
unfolding without
without-within p [] = none
without-within p (e ∷ es) = go (p e) (without-within p es)
  where
    go : (b : Bool) → Within (without p es) es → Within (cond b (without p es) (e ∷ without p es)) (e ∷ es)
    go true h = skips h
    go false h = takes h

-- A note leaves some of the entries in their order, and the frame's own, if it is there, last.
module _ (es : List Entry) (f : Frame) where
  abbrev Follows : Answer (List Entry) → Type 0
  Follows a = Within (after a es) (es ++ entry_in f ∷ [])

  fewer : {xs : List Entry} → Within xs es → Within xs (es ++ entry_in f ∷ [])
  fewer {xs} h = subst (λ (l : List Entry). Within l (es ++ entry_in f ∷ [])) (append-nil xs) (both h (no-entry (entry_in f ∷ [])))

  pub note-follows : Follows (note es f)
  unfolding note note_kind define add
  note-follows = go (malformed f) (eqb f.kind 0) (kind_in f.header)
    where
      kept : List Entry
      kept = without (has_either (entry_in f)) es

      adds : (k a i b : Bool)
          → Follows (cond (k && (not a && not i)) (refuse b 12 (accepted (kept ++ entry_in f ∷ []))) (accepted es))
      adds false a i b = fewer (all es)
      adds true true i b = fewer (all es)
      adds true false true b = fewer (all es)
      adds true false false true = fewer (all es)
      adds true false false false = both (without-within (has_either (entry_in f)) es) (all (entry_in f ∷ []))

      kinds : (k : Kind) → Follows (note_kind k es f.len (entry_in f))
      kinds (cid number section) = fewer (all es)
      kinds rid = fewer (all es)
      kinds amd = adds (eqb f.len 6) (eqb (entry_in f).alias.0 0) (eqb (entry_in f).id 0) (leb room (length kept))
      kinds ame = fewer (all es)
      kinds amr = fewer (without-within (has_alias (entry_in f).alias.0) es)
      kinds (error_report number) = fewer (all es)
      kinds reserved = fewer (all es)
      kinds message = fewer (all es)

      go : (b c : Bool) (k : Kind) → Follows (refuse b 9 (cond c (note_kind k es f.len (entry_in f)) (accepted es)))
      go true c k = fewer (all es)
      go false true k = kinds k
      go false false k = fewer (all es)
