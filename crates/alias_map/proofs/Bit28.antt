-- A.5: the map ignores bit 28.
use Rattle.std.specs.Prelude.{◌≡◌, cond, List, eqb}
use Rattle.headers.specs.Bit28.{But28}
use Rattle.headers.proofs.Bit28.{alias-but-28, kind-but-28, malformed-but-28}
use Rattle.headers.specs.declared.frame.Frame.{Frame}
use Rattle.alias_map.specs.Rules.{accepted, refuse, id_in, note_kind, note}
use Rattle.alias_map.specs.declared.entry.Entry.{Entry}

-- Two frames that differ in bit 28 alone do the same to every map: the answer, and the entries that there are then.
pub ignores-28 : (es : List Entry) (f g : Frame) → But28 f g → note es f ≡ note es g
unfolding note
ignores-28 es f g b =
    let a = alias-but-28 f.header g.header b.header in
    let k = kind-but-28 f.header g.header b.header in
    λ i. refuse (malformed-but-28 f g b i) 9
    (cond (eqb (b.kind i) 0)
    (note_kind (k i) es (b.len i) (record { alias = record { 0 = a i }; id = id_in (b.bytes i) }))
    (accepted es))
