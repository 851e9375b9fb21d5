use Rattle.std.proofs.Common.{rules, ◌≡◌, sym, ◌∙◌}
use Rattle.alias_map.specs.Rules.{has_either}
use Rattle.alias_map.proofs.Given.{no_room, there-last, gives-added}
use Rattle.alias_map.proofs.note.add.Goals.{else-i-n-via-then-i-n+else-eq, else-i-n-via-else-i-n}
use Rattle.alias_map.proofs.note.add.Goals as goal

pub returns-then-i-ge-ROOM : goal.returns-then-i-ge-ROOM
returns-then-i-ge-ROOM c =
    let f = c.find.ensures.first (has_either c.entry_in-new.result) (λ w b h. search rules) in
    no_room _ _ c.len-n.ensures _ _ c.entry_in-new.ensures _ (rw (← c.unwrap_or-i.ensures) at f) c.if-i-ge-ROOM.true

pub returns-then-eq : goal.returns-then-eq
returns-then-eq c =
    let f = c.find.ensures.first (has_either c.entry_in-new.result) (λ w b h. search rules) in
    let is : c.entry_in.result ≡ c.entry_in-new.result = search rules in
    there-last _ _ c.len-n.ensures _ _ c.entry_in-new.ensures _ (rw (← c.unwrap_or-i.ensures) at f) c.if-i-ge-ROOM.false c.if-i-n.true (sym c.entry_in.ensures ∙ is)

pub returns : goal.returns
returns c =
    let f = c.find.ensures.first (has_either c.entry_in-new.result) (λ w b h. search rules) in
    let r = c.remove-others.ensures.rest (has_either c.entry_in-new.result) (λ w b h. search rules) in
    gives-added _ _ c.len-n.ensures _ _ c.entry_in-new.ensures _ (rw (← c.unwrap_or-i.ensures) at f) _ _ r c.if-i-ge-ROOM.false (λ a b. elim c.else-i-n.branch [
      | else-i-n-via-then-i-n+else-eq w ↦ let e : w.entry_in.result ≡ c.entry_in-new.result = w.entry_in.ensures ∙ b in search rules
      | else-i-n-via-else-i-n w ↦ w.if-i-n.false a
    ])
