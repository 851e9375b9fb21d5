-- Headers and aliases for C: what the words of a header's parts are, and header writing with any numbers as bit 28 and type.
use Rattle.std.specs.Prelude.{◌||◌, List, [], ◌∷◌, ℕ, leb}
use Rattle.headers.specs.Rules.{Answer, refuse, write, Kind, cid, rid, amd, ame, amr, error_report, reserved, message, Parts, Next}

abbrev pub kind_code : Kind → ℕ
kind_code (cid number section) = 0
kind_code rid = 1
kind_code amd = 2
kind_code ame = 3
kind_code amr = 4
kind_code (error_report number) = 5
kind_code reserved = 6
kind_code message = 7

-- The number of a CID or an error report, else 0.
abbrev pub kind_number : Kind → ℕ
kind_number (cid number section) = number
kind_number rid = 0
kind_number amd = 0
kind_number ame = 0
kind_number amr = 0
kind_number (error_report number) = number
kind_number reserved = 0
kind_number message = 0

-- The section of a CID, else 0.
abbrev pub kind_section : Kind → ℕ
kind_section (cid number section) = section
kind_section rid = 0
kind_section amd = 0
kind_section ame = 0
kind_section amr = 0
kind_section (error_report number) = 0
kind_section reserved = 0
kind_section message = 0

-- Type, field, alias; kind, its number, its section; bit 28 last (A.5).
abbrev pub parts_words : Parts → List ℕ
parts_words p = p.type ∷ p.field ∷ p.alias ∷ kind_code p.kind ∷ kind_number p.kind ∷ kind_section p.kind ∷ p.bit ∷ []

abbrev pub next_words : Next → List ℕ
next_words d = d.state ∷ d.alias ∷ []

-- Bit 28 and the type are one bit each of a header: above 1 they are out of range too.
abbrev pub write_any : (bit type field alias : ℕ) → Answer ℕ
write_any bit type field alias = refuse (leb 2 bit || leb 2 type) 9 (write bit type field alias)
