-- Document 01, "One node": its states, what waits at it, the frames it sends and what of a frame it asks, each told without the
-- whole node. This is the file to believe of the crate.
use Rattle.std.specs.Prelude.{Option, Some, None, ℕ, ◌+◌, ◌*◌, ◌/◌, ◌%◌, ◌^◌, Bool, true, false, cond, ◌&&◌, [], ◌∷◌, ltb, eqb}
pub use Rattle.headers.specs.Rules.{
  Answer,
  accepted,
  refused,
  refuse,
  header,
  alias_in,
  kind_in,
  Kind,
  cid,
  rid,
  amd,
  ame,
  amr,
  error_report,
  reserved,
  message as message_kind,
  id_bytes,
  packed,
  id_in,
}
use Rattle.headers.specs.declared.frame.Frame.{Frame}
use Rattle.state.specs.declared.Phase.{Phase}
use Rattle.state.specs.declared.Phase.TheVariants.{Off, Testing, Reserved, Permitted, Leaving, Resting, Silent}
use Rattle.state.specs.declared.Waiting.{Waiting}
use Rattle.state.specs.declared.Link.{Link}
use Rattle.state.specs.declared.Link.TheVariants.{ErrorActive, ErrorPassive, BusOff}
use Rattle.state.specs.declared.Error.{Error}
use Rattle.state.specs.declared.Error.TheVariants.{Report0, Report1, Report2, Report3}
use Rattle.state.specs.declared.Host.{Host}
use Rattle.state.specs.declared.Host.TheVariants.{Message, Enquiry}
use Rattle.state.specs.declared.Timed.{Timed}
use Rattle.state.specs.declared.Timed.TheVariants.{Reply, Amr}

-- THE STATES

abbrev pub is_off : Phase → Bool
is_off Off = true
is_off (Testing sent ticks) = false
is_off Reserved = false
is_off Permitted = false
is_off (Leaving why) = false
is_off Resting = false
is_off Silent = false

abbrev pub is_permitted : Phase → Bool
is_permitted Off = false
is_permitted (Testing sent ticks) = false
is_permitted Reserved = false
is_permitted Permitted = true
is_permitted (Leaving why) = false
is_permitted Resting = false
is_permitted Silent = false

-- Which frame with an age waits at a node: a reply RID, or an AMR.
abbrev pub timed_at : Phase → (reply : Bool) → Option Timed
timed_at Off reply = None
timed_at (Testing sent ticks) reply = None
timed_at Reserved reply = cond reply (Some Reply) None
timed_at Permitted reply = cond reply (Some Reply) None
timed_at (Leaving why) reply = Some Amr
timed_at Resting reply = None
timed_at Silent reply = None

-- The wait, in ticks. The rules that ask for a wait take any.
abbrev pub wait : ℕ
wait = 201

-- WHAT WAITS

-- Of each sort one waits at most.
abbrev pub none_waiting : Waiting
none_waiting = record { reply = false; amd = false; report = false; error = None; host = None }

abbrev pub with_reply : Waiting → Bool → Waiting
with_reply w b = record { reply = b; amd = w.amd; report = w.report; error = w.error; host = w.host }

abbrev pub with_amd : Waiting → Bool → Waiting
with_amd w b = record { reply = w.reply; amd = b; report = w.report; error = w.error; host = w.host }

abbrev pub with_report : Waiting → Bool → Waiting
with_report w b = record { reply = w.reply; amd = w.amd; report = b; error = w.error; host = w.host }

abbrev pub with_error : Waiting → Option Error → Waiting
with_error w e = record { reply = w.reply; amd = w.amd; report = w.report; error = e; host = w.host }

abbrev pub with_host : Waiting → Option Host → Waiting
with_host w h = record { reply = w.reply; amd = w.amd; report = w.report; error = w.error; host = h }

abbrev pub host_waits : Option Host → Bool
host_waits None = false
host_waits (Some h) = true

abbrev pub error_waits : Option Error → Bool
error_waits None = false
error_waits (Some e) = true

-- THE LINK STATE (A.1)

-- The host tells a node its link state: 0 Error Active, 1 Error Passive, 2 Bus Off. A number above 2 is refused.
abbrev pub link_of : ℕ → Link
link_of state = cond (eqb state 0) ErrorActive (cond (eqb state 1) ErrorPassive BusOff)

-- A Permitted node has error report 0 to 3 waiting as 002, 6.2.7, names the change: which state it enters, and from which. A
-- later one replaces it. Entering Bus Off and an unchanged state give none.
abbrev pub error_on : (enters from : Link) → (waiting : Option Error) → Option Error
error_on ErrorPassive ErrorActive e = Some Report0
error_on ErrorPassive BusOff e = Some Report1
error_on ErrorActive ErrorPassive e = Some Report2
error_on ErrorActive BusOff e = Some Report3
error_on BusOff from e = e
error_on ErrorActive ErrorActive e = e
error_on ErrorPassive ErrorPassive e = e

-- THE FRAMES, by the Node ID and the alias of their sender

-- Nodes send bit 28 as 1 (A.5).
abbrev pub sent_header : (type field alias : ℕ) → ℕ
sent_header type field alias = header 1 type field alias

-- CID and RID carry no data; AMD and AMR the Node ID.
abbrev pub bare : ℕ → Frame
bare h = record { kind = 0; header = h; len = 0; bytes = 0 }

abbrev pub with_id : ℕ → ℕ → Frame
with_id h id = record { kind = 0; header = h; len = 6; bytes = packed (id_bytes id) }

-- CID 7, 6, 5, 4, with Node ID bits 47-36, 35-24, 23-12, 11-0: after so many that were sent
abbrev pub section_of : (id sent : ℕ) → ℕ
section_of id sent =
    cond (ltb sent 1) (id / 2 ^ 36 % 2 ^ 12)
    (cond (ltb sent 2) (id / 2 ^ 24 % 2 ^ 12)
    (cond (ltb sent 3) (id / 2 ^ 12 % 2 ^ 12)
    (id % 2 ^ 12)))

abbrev pub number_of : (sent : ℕ) → ℕ
number_of sent = cond (ltb sent 1) 7 (cond (ltb sent 2) 6 (cond (ltb sent 3) 5 4))

abbrev pub cid_field : (id sent : ℕ) → ℕ
cid_field id sent = number_of sent * 2 ^ 12 + section_of id sent

unfoldable pub cid_frame : (id alias sent : ℕ) → Frame
cid_frame id a sent = bare (sent_header 0 (cid_field id sent) a)

unfoldable pub rid_frame : (alias : ℕ) → Frame
rid_frame a = bare (sent_header 0 0x0700 a)

unfoldable pub amd_frame : (id alias : ℕ) → Frame
amd_frame id a = with_id (sent_header 0 0x0701 a) id

unfoldable pub amr_frame : (id alias : ℕ) → Frame
amr_frame id a = with_id (sent_header 0 0x0703 a) id

-- The report is field 0x15B4, type 1. A.2: its data is 01 01 00 00 00 00 02 01.
unfoldable pub report_frame : (alias : ℕ) → Frame
report_frame a = record {
  kind = 0;
  header = sent_header 1 0x15B4 a;
  len = 8;
  bytes = packed (0x01 ∷ 0x01 ∷ 0x00 ∷ 0x00 ∷ 0x00 ∷ 0x00 ∷ 0x02 ∷ 0x01 ∷ []);
}

-- The due frame, document 01's term: the one that leaves next, if any.
pub data Due : Type 0 where
  nothing : Due
  next : Frame → Due

abbrev pub is_due : Due → Bool
is_due nothing = false
is_due (next f) = true

-- A.1: the error report, type 0, field 0x0710 and its number, carries the Node ID.
unfoldable pub error_frame : (number id alias : ℕ) → Frame
error_frame number id a = with_id (sent_header 0 (0x0710 + number) a) id

abbrev pub error_due : Option Error → (id alias : ℕ) → Due
error_due None id a = nothing
error_due (Some Report0) id a = next (error_frame 0 id a)
error_due (Some Report1) id a = next (error_frame 1 id a)
error_due (Some Report2) id a = next (error_frame 2 id a)
error_due (Some Report3) id a = next (error_frame 3 id a)

-- The host frame is type 1 with a message's field and data, or an AME with an enquiry's data.
abbrev pub host_due : Option Host → (alias : ℕ) → Due
host_due None a = nothing
host_due (Some (Message field len bytes)) a = next (record { kind = 0; header = sent_header 1 field a; len = len; bytes = bytes })
host_due (Some (Enquiry len bytes)) a = next (record { kind = 0; header = sent_header 0 0x0702 a; len = len; bytes = bytes })

-- A DELIVERED FRAME

abbrev pub is_cid : Kind → Bool
is_cid (cid number section) = true
is_cid rid = false
is_cid amd = false
is_cid ame = false
is_cid amr = false
is_cid (error_report number) = false
is_cid reserved = false
is_cid message_kind = false

-- exactly the own Node ID
unfoldable pub is_own : (id : ℕ) → Frame → Bool
is_own id f = eqb f.len 6 && eqb (id_in f.bytes) id

-- ANSWERS

-- What an accepted event answers: a send the frame that left, every other nothing.
pub data Value : Type 0 where
  done : Value
  left : Frame → Value
