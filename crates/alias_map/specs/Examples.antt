-- What the theorems of proofs/Examples.antt speak of; these definitions are to be believed.
use Rattle.std.specs.Prelude.{List, [], ◌∷◌, ℕ, ◌+◌, ◌*◌, ◌^◌}
use Rattle.alias_map.specs.Rules.{accepted, refused}
use Rattle.alias_map.specs.Lists.{Call, noting, by_alias, by_id, Answered, noted, looked_up}
use Rattle.alias_map.specs.declared.entry.Entry.{Entry}

-- Three nodes that are seen on the bus.
abbrev a : Entry
a = record { alias = record { 0 = 0x263 }; id = 0x050101010101 }

abbrev b : Entry
b = record { alias = record { 0 = 0x264 }; id = 0x050101010102 }

abbrev c : Entry
c = record { alias = record { 0 = 0x265 }; id = 0x050101010103 }

-- Their AMDs and AMRs, as frames come from the bus.
abbrev amd_of : Entry → Call
amd_of e = noting (record { kind = 0; header = 0x10701000 + e.alias.0; len = 6; bytes = e.id * 2 ^ 16 })

abbrev amr_of : Entry → Call
amr_of e = noting (record { kind = 0; header = 0x10703000 + e.alias.0; len = 0; bytes = 0 })

-- What is answered: a note these entries, a look-up this and how many entries it compared, or 13.
abbrev now : List Entry → Answered
now es = noted (accepted es)

abbrev found : (value count : ℕ) → Answered
found value count = looked_up (accepted (record { value = value; count = count }))

abbrev absent : Answered
absent = looked_up (refused 13)

pub record Line : Type 0 where
  pub call : Call
  pub answered : Answered

abbrev line : Call → Answered → Line
line call answered = record { call = call; answered = answered }

abbrev pub example : List Line
example =
    -- in an empty map nothing is found
    line (by_alias 0x263) absent
    ∷ line (by_id a.id) absent
    -- the oldest entry is found at 1, the next at 2, the newest at 3
    ∷ line (amd_of a) (now (a ∷ []))
    ∷ line (by_alias 0x263) (found a.id 1)
    ∷ line (amd_of b) (now (a ∷ b ∷ []))
    ∷ line (amd_of c) (now (a ∷ b ∷ c ∷ []))
    ∷ line (by_alias 0x263) (found a.id 1)
    ∷ line (by_alias 0x264) (found b.id 2)
    ∷ line (by_alias 0x265) (found c.id 3)
    ∷ line (by_id a.id) (found 0x263 1)
    ∷ line (by_id b.id) (found 0x264 2)
    ∷ line (by_id c.id) (found 0x265 3)
    -- what nobody has is absent, and so is what nobody can have
    ∷ line (by_alias 0x266) absent
    ∷ line (by_id (c.id + 1)) absent
    ∷ line (by_alias 0x1263) absent
    -- where an entry goes, those after it come one place nearer
    ∷ line (amr_of a) (now (b ∷ c ∷ []))
    ∷ line (by_alias 0x263) absent
    ∷ line (by_alias 0x264) (found b.id 1)
    ∷ line (by_id c.id) (found 0x265 2)
    -- an entry that is noted again is the newest
    ∷ line (amd_of b) (now (c ∷ b ∷ []))
    ∷ line (by_alias 0x264) (found b.id 2)
    ∷ line (by_id c.id) (found 0x265 1)
    ∷ []
