-- Document 01, "The program `segment`": how a script's bytes are read, and what is written. This is the file to believe of
-- the crate, with the segment's rules and those of text.
use Rattle.std.specs.Prelude.{ℕ, zero, suc, ◌+◌, ◌*◌, Bool, cond, List, [], ◌∷◌, ◌++◌, leb, eqb, length, get_or, take, drop}
use Rattle.text.specs.Rules.{hex, decimal, space, feed}
use Rattle.headers.specs.Rules.{id_bytes, packed}
use Rattle.node.specs.Rules.{Answer, accepted, refused, Value, done, left}
use Rattle.headers.specs.declared.frame.Frame.{Frame}
use Rattle.segment_rules.specs.Rules.{
  limit,
  Segment,
  start,
  Command,
  power_on,
  send,
  fail,
  deliver,
  tick,
  foreign,
  message,
  enquiry,
  release,
  warm_on,
  answer,
  step,
  is_kept,
}

-- THE OPERANDS

-- Highest byte first: the number that the k bytes of s from a place on make.
unfoldable pub number : List ℕ → (from k : ℕ) → ℕ
number s from zero = 0
number s from (suc k) = number s from k * 256 + get_or s (from + k) 0

-- What follows a command's byte: operands of so many bytes, in order, and the command that they make.
pub data Form : Type 0 where
  operand : (width : ℕ) → (ℕ → Form) → Form
  makes : Command → Form
  unknown : Form

abbrev pub frame : (kind header len bytes : ℕ) → Frame
frame kind header len bytes = record { kind = kind; header = header; len = len; bytes = bytes }

-- The commands by their bytes, with their operands as document 01 lists them, and for 0A A.9.
unfoldable pub form : (byte : ℕ) → Form
form b =
    cond (eqb b 0x01) (operand 1 λ index. operand 6 λ id. makes (power_on index id))
    (cond (eqb b 0x02) (operand 1 λ index. makes (send index))
    (cond (eqb b 0x03) (operand 1 λ index. makes (fail index))
    (cond (eqb b 0x04) (operand 1 λ index. makes (deliver index))
    (cond (eqb b 0x05) (makes tick)
    (cond (eqb b 0x06) (operand 1 λ kind. operand 4 λ header. operand 1 λ len. operand 8 λ bytes. makes (foreign (frame kind header len bytes)))
    (cond (eqb b 0x07) (operand 1 λ index. operand 2 λ field. operand 1 λ len. operand 8 λ bytes. makes (message index field len bytes))
    (cond (eqb b 0x08) (operand 1 λ index. operand 1 λ len. operand 6 λ id. makes (enquiry index len (packed (id_bytes id))))
    (cond (eqb b 0x09) (operand 1 λ index. makes (release index))
    (cond (eqb b 0x0A) (operand 1 λ index. operand 6 λ id. operand 1 λ flag. operand 6 λ state. makes (warm_on index id flag state))
    unknown)))))))))

-- What stands at the head of the rest of a script: a command with its byte and the bytes that it takes, or a refusal.
pub data Found : Type 0 where
  command : (byte : ℕ) → Command → (took : ℕ) → Found
  refusal : (byte number : ℕ) → Found
  nothing : Found

-- The operands are read in order from a place on. An unknown command is 10, one cut short 11.
abbrev pub found : (byte : ℕ) → Form → (from : ℕ) → List ℕ → Found
found b (operand width then) from s = found b (then (number s from width)) (from + width) s
found b (makes c) from s = cond (leb from (length s)) (command b c from) (refusal b 11)
found b unknown from s = refusal b 10

-- They follow the command's byte.
unfoldable pub read_of : List ℕ → Found
read_of [] = nothing
read_of (b ∷ s) = found b (form b) 1 (b ∷ s)

-- A script: its commands in order, each with its byte; then the refusal that ends the run, or the end of the bytes.
pub data Script : Type 0 where
  next : (byte : ℕ) → Command → Script → Script
  stop : (byte number : ℕ) → Script
  end : Script

-- Only the rest after each command is passed on.
unfoldable pub onward : Found → (rest : ℕ → Script) → Script
onward (command b c took) rest = next b c (rest took)
onward (refusal b n) rest = stop b n
onward nothing rest = end

-- k bounds the commands. Each takes a byte or more, so that one more than there are bytes ends no script: the law
-- `goes_on` of Scripts.antt.
unfoldable pub read_up_to : (k : ℕ) → List ℕ → Script
read_up_to zero s = end
read_up_to (suc k) s = onward (read_of s) (λ took. read_up_to k (drop took s))

abbrev pub script_of : List ℕ → Script
script_of s = read_up_to (length s + 1) s

-- The commands that are carried out.
unfoldable pub listed : Script → List Command
listed (next b c s) = c ∷ listed s
listed (stop b n) = []
listed end = []

-- THE LINES, as bytes

-- "ok" and "refused ".
abbrev pub ok : List ℕ
ok = 111 ∷ 107 ∷ []

abbrev pub refused_word : List ℕ
refused_word = 114 ∷ 101 ∷ 102 ∷ 117 ∷ 115 ∷ 101 ∷ 100 ∷ 32 ∷ []

-- The data of a frame, if any, unbroken: two digits for each byte that the length counts.
unfoldable pub data_text : (len bytes : ℕ) → List ℕ
data_text len bytes = cond (eqb len 0) [] (space ++ take (2 * len) (hex 16 bytes))

-- `ok` or `refused N`; for an accepted send also the header and the data of the frame that left.
unfoldable pub answer_text : Answer Value → List ℕ
answer_text (accepted done) = ok
answer_text (accepted (left f)) = ok ++ space ++ hex 8 f.header ++ data_text f.len f.bytes
answer_text (refused n) = refused_word ++ decimal n

-- Count, command byte and answer, parted by single spaces.
unfoldable pub line : (count byte : ℕ) → Answer Value → List ℕ
line count byte a = decimal count ++ space ++ hex 2 byte ++ space ++ answer_text a ++ feed

-- Per command one line, in a script that goes on from the segment S with this count.
unfoldable pub lines : Segment → (count : ℕ) → Script → List ℕ
lines S count (next b c s) = line count b (answer S c) ++ lines (step S c) (count + 1) s
lines S count (stop b n) = line count b (refused n)
lines S count end = []

-- "kept" or "late", and a line feed.
unfoldable pub last_line : (is_kept : Bool) → List ℕ
last_line is_kept = cond is_kept (107 ∷ 101 ∷ 112 ∷ 116 ∷ feed) (108 ∷ 97 ∷ 116 ∷ 101 ∷ feed)

-- THE OUTPUT of a whole script, from all nodes Off: its lines counted from 1, and the last one.
unfoldable pub output_of : Script → List ℕ
output_of s = lines start 1 s ++ last_line (is_kept limit limit (listed s))

unfoldable pub output : List ℕ → List ℕ
output bytes = output_of (script_of bytes)

-- A longer input is used to this length.
abbrev pub used : List ℕ → List ℕ
used bytes = take 65536 bytes
