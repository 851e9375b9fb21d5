-- Document 01's script and its whole output, of the rules; a line of each kind that the script does not meet; and A.9's command.
use Rattle.std.specs.Prelude.{◌≡◌, refl, List, [], ◌∷◌, ℕ, take}
use Rattle.text.specs.Rules.{digit, hex, decimal_up_to}
use Rattle.headers.specs.Rules.{kind_in, mixed}
use Rattle.node.specs.Rules.{off_node, fresh, restart, moved, counted, waits, cid_frame, rid_frame, amd_frame, amr_frame, report_frame, first_waiting, due_of, sent_of, failed_of, on_power_on, on_warm_on, on_leave, accepted, refused, left}
use Rattle.segment_rules.specs.Rules.{some_other, old, kept}
use Rattle.script.specs.Rules.{number, form, refusal, read_of, onward, read_up_to, listed, data_text, answer_text, line, lines, last_line, output_of, output}

-- 01 00 05 01 01 01 01 01 04 00 02 00 02 18
pub script : List ℕ
script = 0x01 ∷ 0x00 ∷ 0x05 ∷ 0x01 ∷ 0x01 ∷ 0x01 ∷ 0x01 ∷ 0x01 ∷ 0x04 ∷ 0x00 ∷ 0x02 ∷ 0x00 ∷ 0x02 ∷ 0x18 ∷ []

-- 1 01 ok
-- 2 04 refused 6
-- 3 02 ok 17050263
-- 4 02 refused 1
-- kept
pub text : List ℕ
text =
    49 ∷ 32 ∷ 48 ∷ 49 ∷ 32 ∷ 111 ∷ 107 ∷ 10
    ∷ 50 ∷ 32 ∷ 48 ∷ 52 ∷ 32 ∷ 114 ∷ 101 ∷ 102 ∷ 117 ∷ 115 ∷ 101 ∷ 100 ∷ 32 ∷ 54 ∷ 10
    ∷ 51 ∷ 32 ∷ 48 ∷ 50 ∷ 32 ∷ 111 ∷ 107 ∷ 32 ∷ 49 ∷ 55 ∷ 48 ∷ 53 ∷ 48 ∷ 50 ∷ 54 ∷ 51 ∷ 10
    ∷ 52 ∷ 32 ∷ 48 ∷ 50 ∷ 32 ∷ 114 ∷ 101 ∷ 102 ∷ 117 ∷ 115 ∷ 101 ∷ 100 ∷ 32 ∷ 49 ∷ 10
    ∷ 107 ∷ 101 ∷ 112 ∷ 116 ∷ 10
    ∷ []

pub example : output script ≡ text
unfolding script text number form read_of onward read_up_to listed digit hex decimal_up_to data_text answer_text line lines last_line output_of output some_other old kept off_node fresh restart moved counted waits cid_frame rid_frame amd_frame amr_frame report_frame first_waiting due_of sent_of failed_of on_power_on on_leave kind_in mixed
example = refl

-- 12345 FF refused 10
pub refusal-line : line 12345 0xFF (refused 10) ≡ 49 ∷ 50 ∷ 51 ∷ 52 ∷ 53 ∷ 32 ∷ 70 ∷ 70 ∷ 32 ∷ 114 ∷ 101 ∷ 102 ∷ 117 ∷ 115 ∷ 101 ∷ 100 ∷ 32 ∷ 49 ∷ 48 ∷ 10 ∷ []
unfolding digit hex decimal_up_to data_text answer_text line
refusal-line = refl

-- 6 02 ok 10701263 050101010101, an AMD: of the eight bytes those that its length counts
pub amd-line : line 6 0x02 (accepted (left (amd_frame 0x050101010101 0x263)))
    ≡ 54 ∷ 32 ∷ 48 ∷ 50 ∷ 32 ∷ 111 ∷ 107 ∷ 32 ∷ 49 ∷ 48 ∷ 55 ∷ 48 ∷ 49 ∷ 50 ∷ 54 ∷ 51 ∷ 32
    ∷ 48 ∷ 53 ∷ 48 ∷ 49 ∷ 48 ∷ 49 ∷ 48 ∷ 49 ∷ 48 ∷ 49 ∷ 48 ∷ 49 ∷ 10 ∷ []
unfolding amd_frame digit hex decimal_up_to data_text answer_text line
amd-line = refl

-- A.2: 7 02 ok 195B4263 0101000000000201, the duplicate report of a node with alias 263
pub report-line : line 7 0x02 (accepted (left (report_frame 0x263)))
    ≡ 55 ∷ 32 ∷ 48 ∷ 50 ∷ 32 ∷ 111 ∷ 107 ∷ 32 ∷ 49 ∷ 57 ∷ 53 ∷ 66 ∷ 52 ∷ 50 ∷ 54 ∷ 51 ∷ 32
    ∷ 48 ∷ 49 ∷ 48 ∷ 49 ∷ 48 ∷ 48 ∷ 48 ∷ 48 ∷ 48 ∷ 48 ∷ 48 ∷ 48 ∷ 48 ∷ 50 ∷ 48 ∷ 49 ∷ 10 ∷ []
unfolding report_frame digit hex decimal_up_to data_text answer_text line
report-line = refl

-- A.9: 0A 03 05 01 01 01 01 01 01 22 0F A6 7D 4E AA, a send, and 0B, which stays unknown
pub warm-script : List ℕ
warm-script =
    0x0A ∷ 0x03 ∷ 0x05 ∷ 0x01 ∷ 0x01 ∷ 0x01 ∷ 0x01 ∷ 0x01 ∷ 0x01 ∷ 0x22 ∷ 0x0F ∷ 0xA6 ∷ 0x7D ∷ 0x4E ∷ 0xAA
    ∷ 0x02 ∷ 0x03 ∷ 0x0B ∷ []

-- 1 0A ok
-- 2 02 ok 170504F8
-- 3 0B refused 10
-- kept
pub warm-text : List ℕ
warm-text =
    49 ∷ 32 ∷ 48 ∷ 65 ∷ 32 ∷ 111 ∷ 107 ∷ 10
    ∷ 50 ∷ 32 ∷ 48 ∷ 50 ∷ 32 ∷ 111 ∷ 107 ∷ 32 ∷ 49 ∷ 55 ∷ 48 ∷ 53 ∷ 48 ∷ 52 ∷ 70 ∷ 56 ∷ 10
    ∷ 51 ∷ 32 ∷ 48 ∷ 66 ∷ 32 ∷ 114 ∷ 101 ∷ 102 ∷ 117 ∷ 115 ∷ 101 ∷ 100 ∷ 32 ∷ 49 ∷ 48 ∷ 10
    ∷ 107 ∷ 101 ∷ 112 ∷ 116 ∷ 10
    ∷ []

pub warm-example : output warm-script ≡ warm-text
unfolding warm-script warm-text number form read_of onward read_up_to listed digit hex decimal_up_to data_text answer_text line lines last_line output_of output some_other old kept off_node fresh counted cid_frame due_of sent_of on_warm_on on_leave kind_in mixed
warm-example = refl

-- without its last operand byte: 1 0A refused 11
pub warm-cut-short : read_of (take 14 warm-script) ≡ refusal 0x0A 11
unfolding warm-script number form read_of
warm-cut-short = refl
