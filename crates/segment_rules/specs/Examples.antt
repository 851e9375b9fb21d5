-- What the theorems of proofs/Examples.antt speak of; these definitions are to be believed.
use Rattle.std.specs.Prelude.{◌≡◌, Bool, true, false, cond, List, [], ◌∷◌, map, ℕ, eqb, replicate, Option, Some}
use Rattle.node.specs.Rules.{Answer, accepted, refused, Value, done, left, Due, nothing, next, bare, with_id, none_waiting, with_reply, with_amd, with_report, with_error, with_host, off_node, generator, fresh, restart, moved, counted, waits, linked}
use Rattle.headers.specs.declared.frame.Frame.{Frame}
use Rattle.node.specs.declared.Node.{Node}
use Rattle.state.specs.declared.Phase.{Phase}
use Rattle.state.specs.declared.Phase.TheVariants.{Off, Testing, Reserved, Permitted, Leaving, Resting, Silent}
use Rattle.state.specs.declared.Reason.TheVariants.{Collision, Release}
use Rattle.state.specs.declared.Waiting.{Waiting}
use Rattle.state.specs.declared.Link.{Link}
use Rattle.state.specs.declared.Link.TheVariants.{ErrorActive, ErrorPassive, BusOff}
use Rattle.state.specs.declared.Error.{Error}
use Rattle.state.specs.declared.Error.TheVariants.{Report0, Report1, Report2, Report3}
use Rattle.state.specs.declared.Host.TheVariants.{Message, Enquiry}
use Rattle.segment_rules.specs.Rules.{limit, place, Segment, segment, blank, first_mark, start, Command, send, tick, foreign, choose, read_out, power_on, fail, deliver, message, enquiry, release, link, warm_on, names, nobody, answer, Besides, plain, chose, gave, step, run, answers, Ages, ages, none, ticks, aged, kept, no_ages, is_kept}
use Rattle.segment_rules.specs.Looks.{Seen, looks, looks_in}

pub data Example : Type 0 where
  -- on this segment, this command is answered so
  says : Segment → Command → Answer Value → Example
  -- after this command, this node and inbox stand at this index
  makes : Segment → Command → (index : ℕ) → Node → (inbox : List Frame) → Example
  -- these commands, from all nodes Off, are answered so, and then this node and inbox stand at this index
  lists : List Command → List (Answer Value) → (index : ℕ) → Node → (inbox : List Frame) → Example
  -- after these commands, with these ages before them, at this index: the ages in the inbox, and of what waits for alias 263
  ageing : Segment → (ℕ → Ages) → List Command → (index : ℕ) → (inbox : List ℕ) → (waiting : ℕ) → Example
  -- these commands, with these ages before them, make a list that is kept, or late
  judges : Segment → (ℕ → Ages) → List Command → Bool → Example
  -- these commands, from all nodes Off, make a list that is kept, or late
  keeps : List Command → Bool → Example
  -- a look at the node at this index is answered so, and one at this frame of its inbox
  shows : Segment → (index : ℕ) → Answer Seen → Example
  finds : Segment → (index place : ℕ) → Answer Frame → Example
  -- these commands, with this mark before them, answer so besides, and then this mark stands
  chooses : Segment → (mark : ℕ) → List Command → List Besides → (mark : ℕ) → Example

-- A segment with another mark.
abbrev pub with_mark : Segment → (mark : ℕ) → Segment
with_mark S m = segment S.at m

abbrev pub Holds : Example → Type 0
Holds (says S c a) = answer S c ≡ a
Holds (makes S c k n xs) = (step S c).at k ≡ place n xs
Holds (lists cs ys k n xs) = (map (λ x. x.answer) (answers start cs) ≡ ys) × ((run start cs).at k ≡ place n xs)
Holds (ageing S G cs k xs w) = ((aged ticks S G cs k).inbox ≡ xs) × ((aged ticks S G cs k).waiting 0x263 ≡ w)
Holds (judges S G cs b) = kept ticks limit limit S G cs ≡ b
Holds (keeps cs b) = is_kept limit limit cs ≡ b
Holds (shows S k a) = looks S k ≡ a
Holds (finds S k j a) = looks_in S k j ≡ a
Holds (chooses S m cs xs m') = (map (λ x. x.besides) (answers (with_mark S m) cs) ≡ xs) × ((run (with_mark S m) cs).mark ≡ m')

abbrev pub All : List Example → Type 0
All [] = Unit
All (e ∷ es) = Holds e × All es

abbrev pub AllOf : List (List Example) → Type 0
AllOf [] = Unit
AllOf (es ∷ rest) = All es × AllOf rest

-- WHAT THEY ARE ABOUT

-- the node with Node ID 050101010101 and its first alias, 263, in a state, nothing waiting
abbrev pub in_state : Phase → Node
in_state p = moved (fresh 0x050101010101 (record { 0 = 0x263 }) (generator 0x050101010101 false)) p

abbrev pub testing : Node
testing = in_state (Testing 0 0)

abbrev pub permitted : Node
permitted = in_state Permitted

abbrev pub leaving : Node
leaving = in_state (Leaving Collision)

-- with a reply RID waiting; with a message that the host has ordered
abbrev pub replying : Node
replying = waits permitted (with_reply none_waiting true)

abbrev pub host_waiting : Node
host_waiting = waits permitted (with_host none_waiting (Some (Message 0x5B4 2 0xABCD000000000000)))

-- its first frame, which is also a CID with its alias; a message with its alias
abbrev pub own_cid : Frame
own_cid = bare 0x17050263

abbrev pub own_message : Frame
own_message = bare 0x195B4263

-- its duplicate report, by A.2's eight bytes
abbrev pub report : Frame
report = record { kind = 0; header = 0x195B4263; len = 8; bytes = 0x0101000000000201 }

-- frames that have no effect on it
abbrev pub frame1 : Frame
frame1 = bare 0x10700111

abbrev pub frame2 : Frame
frame2 = bare 0x10700222

abbrev pub frame3 : Frame
frame3 = bare 0x10700333

abbrev pub many : ℕ → List Frame
many n = replicate n frame1

-- a frame of one data byte, of eight that came
abbrev pub one_byte : ℕ → Frame
one_byte bytes = record { kind = 0; header = 0x195B4111; len = 1; bytes = bytes }

-- the same under a Node ID that is 4095 higher, so that the first alias is the same
abbrev pub beside : Node → Node
beside n = record {
  own = record { id = 0x050101011100; link = n.own.link };
  alias = n.alias;
  generator = generator 0x050101011100 false;
  phase = n.phase;
  waiting = n.waiting;
}

-- all nodes Off but one; but two, the second under that other Node ID
abbrev pub alone : (index : ℕ) → Node → (inbox : List Frame) → Segment
alone i n xs = segment (λ k. cond (eqb k i) (place n xs) blank) first_mark

abbrev pub two : (index : ℕ) → Node → (inbox : List Frame) → (index : ℕ) → Node → (inbox : List Frame) → Segment
two i n xs j m ys = segment (λ k. cond (eqb k i) (place n xs) (cond (eqb k j) (place (beside m) ys) blank)) first_mark

-- ages at an index, of inbox frames and of what waits for any alias; elsewhere none
abbrev pub ages_at : (index : ℕ) → List ℕ → ℕ → ℕ → Ages
ages_at i xs w k = cond (eqb k i) (ages xs (λ a. w)) none

-- what is seen of that node
abbrev pub sees : (state alias : ℕ) → Due → (count : ℕ) → Answer Seen
sees s a d n = accepted (record { state = s; id = 0x050101010101; alias = a; due = d; count = n })

-- THE ANSWERS, each refusal in its order

abbrev pub of_answers : List Example
of_answers =
    -- index above 23 is refusal 1, and 23 is not
    says start (deliver 24) (refused 1)
    ∷ says start (send 24) (refused 1)
    -- deliver: Off is 2, though the inbox is empty
    ∷ says start (deliver 23) (refused 2)
    -- empty inbox is 6
    ∷ says (alone 3 testing []) (deliver 3) (refused 6)
    ∷ says (alone 3 testing (frame1 ∷ [])) (deliver 3) (accepted done)
    -- send: Off is 2, though another inbox is full
    ∷ says (alone 3 testing (many 32)) (send 0) (refused 2)
    -- no due frame is 4, though another inbox is full
    ∷ says (two 0 (in_state Resting) [] 3 testing (many 32)) (send 0) (refused 4)
    -- some other node's inbox full is 5, the first or the last; 31 frames are not full
    ∷ says (two 3 testing [] 0 testing (many 32)) (send 3) (refused 5)
    ∷ says (two 3 testing [] 23 testing (many 32)) (send 3) (refused 5)
    ∷ says (two 3 testing [] 23 testing (many 31)) (send 3) (accepted (left own_cid))
    -- the own inbox full is no refusal
    ∷ says (alone 3 testing (many 32)) (send 3) (accepted (left own_cid))
    -- after CID 4 has left, none until the 201st tick since; then the reserving RID
    ∷ says (alone 3 (in_state (Testing 4 200)) []) (send 3) (refused 4)
    ∷ says (alone 3 (in_state (Testing 4 201)) []) (send 3) (accepted (left (bare 0x10700263)))
    -- failed send: no 5
    ∷ says (two 3 testing [] 0 testing (many 32)) (fail 3) (accepted done)
    ∷ says (alone 3 (in_state (Testing 4 200)) []) (fail 3) (refused 4)
    -- tick: never refused
    ∷ says (two 0 testing (many 32) 23 testing (many 32)) tick (accepted done)
    -- foreign frame: malformed is 9, though an inbox is full
    ∷ says (alone 3 testing (many 32)) (foreign (record { kind = 3; header = 0; len = 0; bytes = 0 })) (refused 9)
    -- then 5 if any inbox is full
    ∷ says (alone 0 testing (many 32)) (foreign frame2) (refused 5)
    ∷ says (alone 23 testing (many 32)) (foreign frame2) (refused 5)
    ∷ says (alone 23 testing (many 31)) (foreign frame2) (accepted done)
    -- power-on: 1, then 3
    ∷ says start (power_on 24 0) (refused 1)
    ∷ says start (power_on 23 0) (refused 3)
    -- message: 1; 2; a field above 15 bits or a length above 8 is 9; not Permitted is 7; host frame waiting is 8
    ∷ says start (message 24 0x8000 9 0) (refused 1)
    ∷ says start (message 3 0x8000 9 0) (refused 2)
    ∷ says (alone 3 testing []) (message 3 0x8000 8 0) (refused 9)
    ∷ says (alone 3 testing []) (message 3 0x7FFF 9 0) (refused 9)
    ∷ says (alone 3 testing []) (message 3 0x7FFF 8 0) (refused 7)
    ∷ says (alone 3 host_waiting []) (message 3 0x7FFF 8 0) (refused 8)
    -- enquiry: 9 where the length is neither 0 nor 6
    ∷ says (alone 3 permitted []) (enquiry 3 5 0) (refused 9)
    ∷ says (alone 3 host_waiting []) (enquiry 3 6 0) (refused 8)
    -- release: 2, 7
    ∷ says start (release 3) (refused 2)
    ∷ says (alone 3 testing []) (release 3) (refused 7)
    ∷ []

-- WHAT AN ACCEPTED COMMAND DOES, and a refused one

abbrev pub of_places : List Example
of_places =
    -- first in first out: a delivery takes the oldest frame, and the others stay in order
    makes (alone 3 permitted (own_message ∷ frame1 ∷ frame2 ∷ [])) (deliver 3) 3 leaving (frame1 ∷ frame2 ∷ [])
    -- and it concerns no other place
    ∷ makes (two 3 permitted (own_message ∷ []) 4 permitted (own_message ∷ [])) (deliver 3) 4 (beside permitted) (own_message ∷ [])
    -- a foreign frame joins the inbox of every node not Off, behind the others
    ∷ makes (two 0 testing [] 23 testing (frame1 ∷ [])) (foreign frame2) 0 testing (frame2 ∷ [])
    ∷ makes (two 0 testing [] 23 testing (frame1 ∷ [])) (foreign frame2) 23 (beside testing) (frame1 ∷ frame2 ∷ [])
    ∷ makes (two 0 testing [] 23 testing (frame1 ∷ [])) (foreign frame2) 3 off_node []
    -- a Resting node is not Off
    ∷ makes (alone 3 (in_state Resting) []) (foreign frame2) 3 (in_state Resting) (frame2 ∷ [])
    -- unused data bytes are ignored
    ∷ makes (alone 3 testing []) (foreign (one_byte 0xAB123456789ABCDE)) 3 testing (one_byte 0xAB00000000000000 ∷ [])
    -- a frame that leaves joins the inbox of every other node not Off, and not the sender's
    ∷ makes (two 3 testing (frame1 ∷ []) 4 permitted (frame1 ∷ [])) (send 3) 3 (in_state (Testing 1 0)) (frame1 ∷ [])
    ∷ makes (two 3 testing (frame1 ∷ []) 4 permitted (frame1 ∷ [])) (send 3) 4 (beside permitted) (frame1 ∷ own_cid ∷ [])
    ∷ makes (two 3 testing (frame1 ∷ []) 4 permitted (frame1 ∷ [])) (send 3) 5 off_node []
    -- a tick goes to each node, and to no inbox
    ∷ makes (two 0 (in_state (Testing 4 0)) (frame1 ∷ []) 23 (in_state (Testing 4 7)) []) tick 0 (in_state (Testing 4 1)) (frame1 ∷ [])
    ∷ makes (two 0 (in_state (Testing 4 0)) (frame1 ∷ []) 23 (in_state (Testing 4 7)) []) tick 23 (beside (in_state (Testing 4 8))) []
    -- the 201st tick is the last that counts
    ∷ makes (alone 3 (in_state (Testing 4 200)) []) tick 3 (in_state (Testing 4 201)) []
    ∷ makes (alone 3 (in_state (Testing 4 201)) []) tick 3 (in_state (Testing 4 201)) []
    -- power-on, in any state: Testing with its first alias, nothing waiting and an empty inbox
    ∷ makes (alone 3 replying (frame1 ∷ [])) (power_on 3 0x050101010101) 3 testing []
    -- a failed send restarts a Testing node; its inbox stays
    ∷ makes (alone 3 testing (frame1 ∷ [])) (fail 3) 3 (restart testing) (frame1 ∷ [])
    -- the host frame waits
    ∷ makes (alone 3 permitted (frame1 ∷ [])) (message 3 0x5B4 2 0xABCD000000000000) 3 host_waiting (frame1 ∷ [])
    ∷ makes (alone 3 permitted (frame1 ∷ [])) (enquiry 3 6 0x0501010101020000) 3 (waits permitted (with_host none_waiting (Some (Enquiry 6 0x0501010101020000)))) (frame1 ∷ [])
    -- release: Permitted becomes Leaving, waiting frames dropped; its inbox stays
    ∷ makes (alone 3 replying (frame1 ∷ [])) (release 3) 3 (in_state (Leaving Release)) (frame1 ∷ [])
    -- a refusal changes nothing: by 3; by 5, though the place has room
    ∷ makes (alone 3 replying (frame1 ∷ [])) (power_on 3 0) 3 replying (frame1 ∷ [])
    ∷ makes (two 3 testing [] 4 testing (many 32)) (foreign frame2) 3 testing []
    -- there are 24 places: nothing comes to another
    ∷ makes (alone 24 testing []) (foreign frame2) 24 testing []
    -- one after another from all nodes Off: document 01's script, and the place then
    ∷ lists (power_on 0 0x050101010101 ∷ deliver 0 ∷ send 0 ∷ send 24 ∷ []) (accepted done ∷ refused 6 ∷ accepted (left own_cid) ∷ refused 1 ∷ []) 0 (in_state (Testing 1 0)) []
    -- two nodes with one first alias: the second meets the first's CID, and starts again
    ∷ lists (power_on 0 0x050101010101 ∷ power_on 1 0x050101011100 ∷ send 0 ∷ deliver 1 ∷ []) (accepted done ∷ accepted done ∷ accepted (left own_cid) ∷ accepted done ∷ []) 1 (restart (beside testing)) []
    ∷ []

-- AGES

abbrev pub of_ages : List Example
of_ages =
    -- a delivery ends the age of its frame, and those behind it keep theirs
    ageing (alone 3 permitted (frame1 ∷ frame2 ∷ frame3 ∷ [])) (ages_at 3 (9 ∷ 5 ∷ 2 ∷ []) 0) (deliver 3 ∷ []) 3 (5 ∷ 2 ∷ []) 0
    -- a frame that joins an inbox begins at 0: a foreign one, and one that leaves
    ∷ ageing (alone 3 permitted (frame1 ∷ [])) (ages_at 3 (9 ∷ []) 0) (foreign frame2 ∷ []) 3 (9 ∷ 0 ∷ []) 0
    ∷ ageing (two 3 permitted (frame1 ∷ []) 4 testing []) (ages_at 3 (9 ∷ []) 0) (send 4 ∷ []) 3 (9 ∷ 0 ∷ []) 0
    -- what waits goes on with its own
    ∷ ageing (alone 3 replying []) (ages_at 3 [] 7) (foreign frame2 ∷ []) 3 (0 ∷ []) 7
    -- at the sender none begins, and at a node that is Off none
    ∷ ageing (two 3 permitted (frame1 ∷ []) 4 testing []) (ages_at 4 (9 ∷ []) 0) (send 4 ∷ []) 4 (9 ∷ []) 0
    ∷ ageing (alone 3 permitted []) no_ages (foreign frame2 ∷ []) 4 [] 0
    -- a tick: each inbox frame, reply RID and AMR is one tick older
    ∷ ageing (alone 0 replying (frame1 ∷ frame2 ∷ [])) (ages_at 0 (9 ∷ 5 ∷ []) 7) (tick ∷ []) 0 (10 ∷ 6 ∷ []) 8
    ∷ ageing (alone 23 leaving (frame1 ∷ [])) (ages_at 23 (9 ∷ []) 7) (tick ∷ []) 23 (10 ∷ []) 8
    -- where neither waits, nothing grows older; the reserving RID has no age
    ∷ ageing (alone 3 permitted []) no_ages (tick ∷ []) 3 [] 0
    ∷ ageing (alone 3 (in_state (Testing 4 201)) []) no_ages (tick ∷ []) 3 [] 0
    -- a reply RID begins at 0, and a later CID does not renew it
    ∷ ageing (alone 3 permitted (own_cid ∷ [])) (ages_at 3 (9 ∷ []) 5) (deliver 3 ∷ []) 3 [] 0
    ∷ ageing (alone 3 permitted (own_cid ∷ [])) (ages_at 3 (9 ∷ []) 0) (deliver 3 ∷ tick ∷ tick ∷ []) 3 [] 2
    ∷ ageing (alone 3 replying (own_cid ∷ [])) (ages_at 3 (9 ∷ []) 7) (deliver 3 ∷ []) 3 [] 7
    -- it ends when the reply leaves
    ∷ ageing (alone 3 replying []) (ages_at 3 [] 7) (send 3 ∷ []) 3 [] 0
    -- an AMR begins at 0 when the reply is dropped, by a frame and by a release
    ∷ ageing (alone 3 replying (own_message ∷ [])) (ages_at 3 (9 ∷ []) 7) (deliver 3 ∷ []) 3 [] 0
    ∷ ageing (alone 3 replying []) (ages_at 3 [] 7) (release 3 ∷ []) 3 [] 0
    -- a CID in Leaving does not renew it; it ends when the AMR leaves
    ∷ ageing (alone 3 leaving (own_cid ∷ [])) (ages_at 3 (9 ∷ []) 7) (deliver 3 ∷ []) 3 [] 7
    ∷ ageing (alone 3 leaving []) (ages_at 3 [] 7) (send 3 ∷ []) 3 [] 0
    -- power-on ends all
    ∷ ageing (alone 3 replying (frame1 ∷ [])) (ages_at 3 (9 ∷ []) 7) (power_on 3 0x050101010101 ∷ []) 3 [] 0
    -- a command at another index changes none
    ∷ ageing (two 3 replying (frame1 ∷ []) 4 testing []) (ages_at 3 (9 ∷ []) 7) (power_on 4 0x050101010102 ∷ []) 3 (9 ∷ []) 7
    -- a refused command changes none
    ∷ ageing (alone 3 replying (frame1 ∷ [])) (ages_at 3 (9 ∷ []) 7) (power_on 3 0 ∷ []) 3 (9 ∷ []) 7
    ∷ []

-- KEPT AND LATE

abbrev pub of_kept : List Example
of_kept =
    -- a list is kept when no age in it reaches 41: of an inbox frame, at the first place and at the last
    judges (alone 0 permitted (frame1 ∷ [])) (ages_at 0 (39 ∷ []) 0) (tick ∷ []) true
    ∷ judges (alone 0 permitted (frame1 ∷ [])) (ages_at 0 (40 ∷ []) 0) (tick ∷ []) false
    ∷ judges (alone 23 permitted (frame1 ∷ [])) (ages_at 23 (39 ∷ []) 0) (tick ∷ []) true
    ∷ judges (alone 23 permitted (frame1 ∷ [])) (ages_at 23 (40 ∷ []) 0) (tick ∷ []) false
    -- of a frame behind another
    ∷ judges (alone 3 permitted (frame1 ∷ frame2 ∷ [])) (ages_at 3 (0 ∷ 40 ∷ []) 0) (tick ∷ []) false
    -- of a reply RID, of an AMR
    ∷ judges (alone 3 replying []) (ages_at 3 [] 39) (tick ∷ []) true
    ∷ judges (alone 3 replying []) (ages_at 3 [] 40) (tick ∷ []) false
    ∷ judges (alone 3 leaving []) (ages_at 3 [] 39) (tick ∷ []) true
    ∷ judges (alone 3 leaving []) (ages_at 3 [] 40) (tick ∷ []) false
    -- else late for good
    ∷ judges (alone 3 permitted (frame1 ∷ [])) (ages_at 3 (40 ∷ []) 0) (tick ∷ deliver 3 ∷ []) false
    ∷ judges (alone 3 permitted (frame1 ∷ [])) (ages_at 3 (40 ∷ []) 0) (deliver 3 ∷ tick ∷ []) true
    -- a list of no command is kept
    ∷ keeps [] true
    -- from power-on: a foreign frame that stands for 40 ticks, for 41
    ∷ keeps (power_on 0 0x050101010101 ∷ foreign frame1 ∷ replicate 40 tick) true
    ∷ keeps (power_on 0 0x050101010101 ∷ foreign frame1 ∷ replicate 41 tick) false
    ∷ []

-- LOOKING

abbrev pub of_looks : List Example
of_looks =
    -- look: index above 23 is 1; Off: all of it 0
    shows start 24 (refused 1)
    ∷ shows start 23 (accepted (record { state = 0; id = 0; alias = 0; due = nothing; count = 0 }))
    -- the alias in Testing and where it is used, the due frame, how many frames the inbox has
    ∷ shows (alone 3 testing (frame1 ∷ frame2 ∷ [])) 3 (sees 1 0x263 (next own_cid) 2)
    ∷ shows (alone 3 (in_state (Testing 4 200)) []) 3 (sees 1 0x263 nothing 0)
    ∷ shows (alone 3 (waits (in_state Reserved) (with_reply none_waiting true)) []) 3 (sees 2 0x263 (next (bare 0x10700263)) 0)
    ∷ shows (alone 3 permitted []) 3 (sees 3 0x263 nothing 0)
    ∷ shows (alone 3 leaving []) 3 (sees 4 0x263 (next (with_id 0x10703263 0x050101010101)) 0)
    -- a Resting and a Silent node use none
    ∷ shows (alone 3 (in_state Resting) []) 3 (sees 5 0 nothing 0)
    ∷ shows (alone 3 (in_state Silent) []) 3 (sees 6 0 nothing 0)
    -- a frame of an inbox: place 0 is the oldest; 6 beyond the last; 1 first
    ∷ finds (alone 3 testing (frame1 ∷ frame2 ∷ [])) 3 0 (accepted frame1)
    ∷ finds (alone 3 testing (frame1 ∷ frame2 ∷ [])) 3 1 (accepted frame2)
    ∷ finds (alone 3 testing (frame1 ∷ frame2 ∷ [])) 3 2 (refused 6)
    ∷ finds start 24 0 (refused 1)
    ∷ []

-- THE LINK STATE (A.1)

-- with error report 0 waiting; Permitted in a link state, with an error report waiting
abbrev pub error0 : Waiting
error0 = with_error none_waiting (Some Report0)

abbrev pub reporting : Link → Option Error → Node
reporting l e = waits (linked permitted l) (with_error none_waiting e)

abbrev pub of_links : List Example
of_links =
    -- 0 at power-on
    makes (alone 3 (linked permitted BusOff) []) (power_on 3 0x050101010101) 3 testing []
    -- a Permitted node: Error Passive from Error Active, from Bus Off; Error Active from Error Passive, from Bus Off; its inbox stays
    ∷ makes (alone 3 permitted (frame1 ∷ [])) (link 3 1) 3 (reporting ErrorPassive (Some Report0)) (frame1 ∷ [])
    ∷ makes (alone 3 (linked permitted BusOff) []) (link 3 1) 3 (reporting ErrorPassive (Some Report1)) []
    ∷ makes (alone 3 (linked permitted ErrorPassive) []) (link 3 0) 3 (reporting ErrorActive (Some Report2)) []
    ∷ makes (alone 3 (linked permitted BusOff) []) (link 3 0) 3 (reporting ErrorActive (Some Report3)) []
    -- entering Bus Off gives none, and what waited stays
    ∷ makes (alone 3 permitted []) (link 3 2) 3 (linked permitted BusOff) []
    ∷ makes (alone 3 (linked permitted ErrorPassive) []) (link 3 2) 3 (linked permitted BusOff) []
    ∷ makes (alone 3 (reporting ErrorPassive (Some Report0)) []) (link 3 2) 3 (reporting BusOff (Some Report0)) []
    -- nor does an unchanged state
    ∷ makes (alone 3 permitted []) (link 3 0) 3 permitted []
    ∷ makes (alone 3 (reporting ErrorPassive (Some Report0)) []) (link 3 1) 3 (reporting ErrorPassive (Some Report0)) []
    ∷ makes (alone 3 (linked permitted BusOff) []) (link 3 2) 3 (linked permitted BusOff) []
    -- in other states the change is only remembered
    ∷ makes (alone 3 testing []) (link 3 1) 3 (linked testing ErrorPassive) []
    ∷ makes (alone 3 (in_state Reserved) []) (link 3 1) 3 (linked (in_state Reserved) ErrorPassive) []
    ∷ makes (alone 3 leaving []) (link 3 1) 3 (linked leaving ErrorPassive) []
    ∷ makes (alone 3 (in_state Resting) []) (link 3 1) 3 (linked (in_state Resting) ErrorPassive) []
    ∷ makes (alone 3 (in_state Silent) []) (link 3 1) 3 (linked (in_state Silent) ErrorPassive) []
    -- and a node that becomes Permitted later has none waiting
    ∷ makes (alone 3 (linked (in_state Reserved) ErrorPassive) []) (send 3) 3 (linked permitted ErrorPassive) []
    -- the report carries the Node ID; once it has left it waits no more
    ∷ says (alone 3 (reporting ErrorPassive (Some Report0)) []) (send 3) (accepted (left (with_id 0x10710263 0x050101010101)))
    ∷ says (alone 3 (reporting ErrorPassive (Some Report1)) []) (send 3) (accepted (left (with_id 0x10711263 0x050101010101)))
    ∷ says (alone 3 (reporting ErrorActive (Some Report2)) []) (send 3) (accepted (left (with_id 0x10712263 0x050101010101)))
    ∷ says (alone 3 (reporting ErrorActive (Some Report3)) []) (send 3) (accepted (left (with_id 0x10713263 0x050101010101)))
    ∷ makes (alone 3 (reporting ErrorPassive (Some Report0)) []) (send 3) 3 (linked permitted ErrorPassive) []
    -- it stands after reply RID, AMD and duplicate report and before the host frame
    ∷ shows (alone 3 (waits permitted (with_reply error0 true)) []) 3 (sees 3 0x263 (next (bare 0x10700263)) 0)
    ∷ shows (alone 3 (waits permitted (with_amd error0 true)) []) 3 (sees 3 0x263 (next (with_id 0x10701263 0x050101010101)) 0)
    ∷ shows (alone 3 (waits permitted (with_report error0 true)) []) 3 (sees 3 0x263 (next report) 0)
    ∷ shows (alone 3 (waits permitted (with_host error0 (Some (Enquiry 0 0)))) []) 3 (sees 3 0x263 (next (with_id 0x10710263 0x050101010101)) 0)
    ∷ makes (alone 3 (waits permitted (with_host error0 (Some (Enquiry 0 0)))) []) (send 3) 3 (waits permitted (with_host none_waiting (Some (Enquiry 0 0)))) []
    -- a later one replaces it
    ∷ makes (alone 3 (reporting ErrorPassive (Some Report0)) []) (link 3 0) 3 (reporting ErrorActive (Some Report2)) []
    -- whatever leaves nothing waiting drops it, and the link state stays: a collision, a release, the duplicate report
    ∷ makes (alone 3 (reporting ErrorPassive (Some Report0)) (own_message ∷ [])) (deliver 3) 3 (linked leaving ErrorPassive) []
    ∷ makes (alone 3 (reporting ErrorPassive (Some Report0)) []) (release 3) 3 (linked (in_state (Leaving Release)) ErrorPassive) []
    ∷ makes (alone 3 (waits (linked permitted BusOff) (with_report error0 true)) []) (send 3) 3 (linked (in_state Silent) BusOff) []
    -- and so it does through a restart and when a released node rests
    ∷ makes (alone 3 (linked testing BusOff) (own_cid ∷ [])) (deliver 3) 3 (linked (restart testing) BusOff) []
    ∷ makes (alone 3 (linked (in_state (Leaving Release)) BusOff) []) (send 3) 3 (linked (in_state Resting) BusOff) []
    -- a state above 2 is 14, tested after index and Off, and changes nothing
    ∷ says (alone 3 permitted []) (link 3 2) (accepted done)
    ∷ says (alone 3 permitted []) (link 3 3) (refused 14)
    ∷ says start (link 24 3) (refused 1)
    ∷ says start (link 23 3) (refused 2)
    ∷ makes (alone 3 (reporting ErrorPassive (Some Report0)) []) (link 3 3) 3 (reporting ErrorPassive (Some Report0)) []
    -- it has no age
    ∷ judges (alone 3 (reporting ErrorPassive (Some Report0)) []) no_ages (replicate 41 tick) true
    ∷ []

-- THE DUPLICATE REPORT (A.2)

-- with the report waiting
abbrev pub duplicate : Node
duplicate = waits permitted (with_report none_waiting true)

abbrev pub of_reports : List Example
of_reports =
    -- an AMD with the own Node ID and another alias makes it wait
    makes (alone 3 permitted (with_id 0x10701111 0x050101010101 ∷ [])) (deliver 3) 3 duplicate []
    -- the report's data is 01 01 00 00 00 00 02 01: as it is seen, as it leaves, as it joins another inbox
    ∷ shows (alone 3 duplicate []) 3 (sees 3 0x263 (next report) 0)
    ∷ says (alone 3 duplicate []) (send 3) (accepted (left report))
    ∷ makes (two 3 duplicate [] 4 permitted []) (send 3) 4 (beside permitted) (report ∷ [])
    -- it makes the node Silent
    ∷ makes (alone 3 duplicate []) (send 3) 3 (in_state Silent) []
    -- all other frames as before: a message of the host with the field of the report and 002's seven bytes
    ∷ says (alone 3 (waits permitted (with_host none_waiting (Some (Message 0x15B4 7 0x0101000000020100)))) []) (send 3) (accepted (left (record { kind = 0; header = 0x195B4263; len = 7; bytes = 0x0101000000020100 })))
    ∷ []

-- NODE IDS AT POWER-ON (A.6)

abbrev pub of_node_ids : List Example
of_node_ids =
    -- a Node ID in use at another index is 15, be it the first or the last; another Node ID is not
    says (alone 0 testing []) (power_on 3 0x050101010101) (refused 15)
    ∷ says (alone 23 testing []) (power_on 3 0x050101010101) (refused 15)
    ∷ says (alone 0 testing []) (power_on 3 0x050101010102) (accepted done)
    -- nor is one that differs in the highest bit alone
    ∷ says (alone 0 testing []) (power_on 3 0x850101010101) (accepted done)
    -- a restart changes the generator and not the Node ID
    ∷ says (alone 0 (restart testing) []) (power_on 3 0x050101010101) (refused 15)
    ∷ says (alone 0 (restart testing) []) (power_on 3 0x220FA67D4EAA) (accepted done)
    -- compared is every other node that is not Off
    ∷ says (alone 0 (in_state Reserved) []) (power_on 3 0x050101010101) (refused 15)
    ∷ says (alone 0 permitted []) (power_on 3 0x050101010101) (refused 15)
    ∷ says (alone 0 leaving []) (power_on 3 0x050101010101) (refused 15)
    ∷ says (alone 0 (in_state Resting) []) (power_on 3 0x050101010101) (refused 15)
    ∷ says (alone 0 (in_state Silent) []) (power_on 3 0x050101010101) (refused 15)
    ∷ says (alone 0 (in_state Off) []) (power_on 3 0x050101010101) (accepted done)
    -- there are 24 places
    ∷ says (alone 24 testing []) (power_on 3 0x050101010101) (accepted done)
    -- the index's own earlier Node ID does not count, beside another too
    ∷ says (alone 3 permitted []) (power_on 3 0x050101010101) (accepted done)
    ∷ says (two 3 permitted [] 4 permitted []) (power_on 3 0x050101010101) (accepted done)
    ∷ says (two 3 permitted [] 4 permitted []) (power_on 4 0x050101010101) (refused 15)
    -- and is in use no more once another has taken its place
    ∷ lists (power_on 3 0x050101010101 ∷ power_on 3 0x050101010102 ∷ power_on 4 0x050101010101 ∷ []) (accepted done ∷ accepted done ∷ accepted done ∷ []) 4 testing []
    -- a duplicate met in a foreign frame is handled as before: no refusal, and A.2's report once it is delivered
    ∷ says (alone 3 permitted []) (foreign (with_id 0x10701111 0x050101010101)) (accepted done)
    -- tested after 1 and 3
    ∷ says (alone 3 testing []) (power_on 24 0x050101010101) (refused 1)
    ∷ says (alone 3 (fresh 0 (record { 0 = 1 }) (generator 0 false)) []) (power_on 4 0) (refused 3)
    -- a power-on that is refused leaves node, inbox and ages as they were
    ∷ makes (two 3 replying (frame1 ∷ []) 4 permitted []) (power_on 3 0x050101011100) 3 replying (frame1 ∷ [])
    ∷ ageing (two 3 replying (frame1 ∷ []) 4 permitted []) (ages_at 3 (9 ∷ []) 7) (power_on 3 0x050101011100 ∷ []) 3 (9 ∷ []) 7
    -- a wiring list with one Node ID in two lines: the second node stays Off
    ∷ lists (power_on 0 0x050101010101 ∷ power_on 1 0x050101010101 ∷ send 0 ∷ deliver 1 ∷ []) (accepted done ∷ refused 15 ∷ accepted (left own_cid) ∷ refused 2 ∷ []) 1 off_node []
    ∷ []

-- TURNS (A.8)

-- a choice that names this index
abbrev pub named : ℕ → Besides
named k = chose (names k)

-- a node with a due frame at every index
abbrev pub all_testing : Segment
all_testing = segment (λ k. place testing []) first_mark

abbrev pub of_choices : List Example
of_choices =
    -- the mark is at first 23: node 0 is the first after it
    chooses start start.mark (power_on 0 0x050101010101 ∷ power_on 1 0x050101010102 ∷ choose ∷ []) (plain ∷ plain ∷ named 0 ∷ []) 0
    ∷ chooses start start.mark [] [] 23
    ∷ chooses all_testing first_mark (choose ∷ []) (named 0 ∷ []) 0
    -- the first with a due frame after the one chosen last, wrapping past 23
    ∷ chooses all_testing 7 (choose ∷ choose ∷ []) (named 8 ∷ named 9 ∷ []) 9
    ∷ chooses all_testing 22 (choose ∷ choose ∷ choose ∷ []) (named 23 ∷ named 0 ∷ named 1 ∷ []) 1
    ∷ chooses (two 3 testing [] 9 testing []) 3 (choose ∷ []) (named 9 ∷ []) 9
    ∷ chooses (two 3 testing [] 9 testing []) 8 (choose ∷ []) (named 9 ∷ []) 9
    ∷ chooses (two 3 testing [] 9 testing []) 9 (choose ∷ []) (named 3 ∷ []) 3
    ∷ chooses (two 3 testing [] 23 testing []) 3 (choose ∷ []) (named 23 ∷ []) 23
    -- all the way round, in their order
    ∷ chooses all_testing 23 (replicate 24 choose) (named 0 ∷ named 1 ∷ named 2 ∷ named 3 ∷ named 4 ∷ named 5 ∷ named 6 ∷ named 7 ∷ named 8 ∷ named 9 ∷ named 10 ∷ named 11 ∷ named 12 ∷ named 13 ∷ named 14 ∷ named 15 ∷ named 16 ∷ named 17 ∷ named 18 ∷ named 19 ∷ named 20 ∷ named 21 ∷ named 22 ∷ named 23 ∷ []) 23
    -- whatever is due, the first has its turn
    ∷ chooses (two 3 testing [] 9 replying []) 23 (choose ∷ []) (named 3 ∷ []) 3
    ∷ chooses (two 3 host_waiting [] 9 testing []) 23 (choose ∷ []) (named 3 ∷ []) 3
    -- the node chosen last is looked at last, and is named where no other has a due frame
    ∷ chooses (alone 3 testing []) 3 (choose ∷ []) (named 3 ∷ []) 3
    ∷ chooses (alone 0 testing []) 0 (choose ∷ []) (named 0 ∷ []) 0
    ∷ chooses (alone 23 testing []) 23 (choose ∷ []) (named 23 ∷ []) 23
    -- when no node has a due frame the choice says none and keeps its mark
    ∷ chooses start 7 (choose ∷ []) (chose nobody ∷ []) 7
    ∷ chooses (two 3 permitted (frame1 ∷ []) 4 (in_state Silent) []) 7 (choose ∷ []) (chose nobody ∷ []) 7
    -- which nodes have a due frame: in Testing all but in the wait, in Reserved and Leaving all, in Permitted those with one waiting
    ∷ chooses (alone 3 (in_state (Testing 3 0)) []) 7 (choose ∷ []) (named 3 ∷ []) 3
    ∷ chooses (alone 3 (in_state (Testing 4 200)) []) 7 (choose ∷ []) (chose nobody ∷ []) 7
    ∷ chooses (alone 3 (in_state (Testing 4 201)) []) 7 (choose ∷ []) (named 3 ∷ []) 3
    ∷ chooses (alone 3 (in_state Reserved) []) 7 (choose ∷ []) (named 3 ∷ []) 3
    ∷ chooses (alone 3 (waits (in_state Reserved) (with_reply none_waiting true)) []) 7 (choose ∷ []) (named 3 ∷ []) 3
    ∷ chooses (alone 3 replying []) 7 (choose ∷ []) (named 3 ∷ []) 3
    ∷ chooses (alone 3 (waits permitted (with_amd none_waiting true)) []) 7 (choose ∷ []) (named 3 ∷ []) 3
    ∷ chooses (alone 3 duplicate []) 7 (choose ∷ []) (named 3 ∷ []) 3
    ∷ chooses (alone 3 (reporting ErrorPassive (Some Report0)) []) 7 (choose ∷ []) (named 3 ∷ []) 3
    ∷ chooses (alone 3 (reporting ErrorPassive (Some Report1)) []) 7 (choose ∷ []) (named 3 ∷ []) 3
    ∷ chooses (alone 3 (reporting ErrorActive (Some Report2)) []) 7 (choose ∷ []) (named 3 ∷ []) 3
    ∷ chooses (alone 3 (reporting ErrorActive (Some Report3)) []) 7 (choose ∷ []) (named 3 ∷ []) 3
    ∷ chooses (alone 3 host_waiting []) 7 (choose ∷ []) (named 3 ∷ []) 3
    ∷ chooses (alone 3 (waits permitted (with_host none_waiting (Some (Enquiry 0 0)))) []) 7 (choose ∷ []) (named 3 ∷ []) 3
    ∷ chooses (alone 3 leaving []) 7 (choose ∷ []) (named 3 ∷ []) 3
    ∷ chooses (alone 3 (in_state (Leaving Release)) []) 7 (choose ∷ []) (named 3 ∷ []) 3
    ∷ chooses (alone 3 (in_state Resting) []) 7 (choose ∷ []) (chose nobody ∷ []) 7
    ∷ chooses (alone 3 (in_state Silent) []) 7 (choose ∷ []) (chose nobody ∷ []) 7
    -- there are 24 places
    ∷ chooses (alone 24 testing []) 7 (choose ∷ []) (chose nobody ∷ []) 7
    -- never refused: where nobody is named, and though an inbox is full
    ∷ says start choose (accepted done)
    ∷ says (two 3 testing [] 4 testing (many 32)) choose (accepted done)
    -- the choice sends nothing, and no time passes: node, inbox and ages are as they were
    ∷ makes (alone 3 (in_state (Testing 4 7)) []) choose 3 (in_state (Testing 4 7)) []
    ∷ makes (alone 3 testing (frame1 ∷ [])) choose 3 testing (frame1 ∷ [])
    ∷ makes (two 3 testing [] 4 replying (frame1 ∷ [])) choose 4 (beside replying) (frame1 ∷ [])
    ∷ ageing (alone 3 replying (frame1 ∷ [])) (ages_at 3 (9 ∷ []) 7) (choose ∷ []) 3 (9 ∷ []) 7
    -- the mark moves on every choice that names a node, whatever the send then answers: here 5
    ∷ says (two 3 testing [] 4 testing (many 32)) (send 3) (refused 5)
    ∷ chooses (two 3 testing [] 4 testing (many 32)) 23 (choose ∷ send 3 ∷ choose ∷ []) (named 3 ∷ plain ∷ named 4 ∷ []) 4
    -- power-on leaves it, of the node chosen last too; so do a send, a failed send, a delivery, a tick, a foreign frame, a host order
    ∷ chooses (alone 3 testing []) 3 (power_on 3 0x050101010101 ∷ []) (plain ∷ []) 3
    ∷ chooses (alone 3 testing []) 7 (power_on 4 0x050101010102 ∷ []) (plain ∷ []) 7
    ∷ chooses (alone 3 testing []) 3 (send 3 ∷ fail 3 ∷ []) (plain ∷ plain ∷ []) 3
    ∷ chooses (alone 3 permitted (frame1 ∷ [])) 3 (deliver 3 ∷ link 3 1 ∷ release 3 ∷ send 3 ∷ []) (plain ∷ plain ∷ plain ∷ plain ∷ []) 3
    ∷ chooses (alone 3 testing []) 7 (power_on 4 0x050101010102 ∷ choose ∷ choose ∷ []) (plain ∷ named 3 ∷ named 4 ∷ []) 4
    ∷ chooses (alone 3 testing []) 7 (send 3 ∷ fail 3 ∷ []) (plain ∷ plain ∷ []) 7
    ∷ chooses (alone 3 permitted (frame1 ∷ [])) 7 (deliver 3 ∷ tick ∷ foreign frame2 ∷ []) (plain ∷ plain ∷ plain ∷ []) 7
    ∷ chooses (alone 3 permitted []) 7 (message 3 0x5B4 0 0 ∷ link 3 1 ∷ release 3 ∷ []) (plain ∷ plain ∷ plain ∷ []) 7
    -- and so does a refusal
    ∷ chooses start 7 (send 3 ∷ power_on 24 0 ∷ []) (plain ∷ plain ∷ []) 7
    -- a chatty exhibit: node 0 has its next message ordered at once, and node 5 has its turn all the same
    ∷ chooses (two 0 host_waiting [] 5 host_waiting []) 23 (choose ∷ send 0 ∷ message 0 0x5B4 0 0 ∷ choose ∷ send 5 ∷ choose ∷ []) (named 0 ∷ plain ∷ plain ∷ named 5 ∷ plain ∷ named 0 ∷ []) 0
    ∷ []

-- WARM POWER-ON (A.9)

-- that node, started from a generator state under the alias that this stands for; and from the state that follows its Node ID
abbrev pub started_from : (state alias : ℕ) → Node
started_from x a = fresh 0x050101010101 (record { 0 = a }) (generator x true)

abbrev pub warmed : Node
warmed = started_from 0x220FA67D4EAA 0x4F8

-- the same in a state, nothing waiting; a CID and a message with its alias, and an AMD with its Node ID
abbrev pub warmed_in : Phase → Node
warmed_in p = record {
  own = record { id = 0x050101010101; link = ErrorActive };
  alias = record { 0 = 0x4F8 };
  generator = generator 0x220FA67D4EAA true;
  phase = p;
  waiting = none_waiting;
}

abbrev pub warmed_cid : Frame
warmed_cid = bare 0x170504F8

abbrev pub warmed_message : Frame
warmed_message = bare 0x195B44F8

abbrev pub same_id : Frame
same_id = with_id 0x10701111 0x050101010101

-- its read-out
abbrev pub past_out : Besides
past_out = gave (generator 0x220FA67D4EAA true)

abbrev pub of_warm_starts : List Example
of_warm_starts =
    -- refusals are those of power-on in their order: 1; 3; 15, a flag above 1 and a state above 48 bits notwithstanding
    says (alone 3 testing []) (warm_on 24 0x050101010101 2 0) (refused 1)
    ∷ says start (warm_on 23 0 2 0) (refused 3)
    ∷ says start (warm_on 3 0x1000000000000 1 0x1000000000000) (refused 3)
    ∷ says (alone 3 (fresh 0 (record { 0 = 1 }) (generator 0 false)) []) (warm_on 4 0 1 0) (refused 3)
    ∷ says (alone 0 testing []) (warm_on 3 0x050101010101 2 0) (refused 15)
    ∷ says (alone 0 testing []) (warm_on 3 0x050101010101 1 0x1000000000000) (refused 15)
    ∷ says (alone 23 (in_state Silent) []) (warm_on 3 0x050101010101 0 0) (refused 15)
    -- then 18: a flag above 1, be the state what it is; a state above 48 bits with flag 1
    ∷ says start (warm_on 3 0x050101010101 2 0x220FA67D4EAA) (refused 18)
    ∷ says start (warm_on 3 0x050101010101 255 0) (refused 18)
    ∷ says start (warm_on 3 0x050101010101 1 0x1000000000000) (refused 18)
    ∷ says (alone 3 permitted []) (warm_on 3 0x050101010101 2 0) (refused 18)
    -- but not with 48 bits, nor with flag 0; and the index's own earlier Node ID does not count, nor one that is Off
    ∷ says start (warm_on 3 0x050101010101 1 0xFFFFFFFFFFFF) (accepted done)
    ∷ says start (warm_on 3 0x050101010101 0 0x1000000000000) (accepted done)
    ∷ says (alone 3 permitted []) (warm_on 3 0x050101010101 1 0x220FA67D4EAA) (accepted done)
    ∷ says (alone 0 (in_state Off) []) (warm_on 3 0x050101010101 1 0x220FA67D4EAA) (accepted done)
    -- the Node ID of a node that was started so is in use
    ∷ says (alone 0 warmed []) (power_on 3 0x050101010101) (refused 15)
    -- flag 0 starts as document 01 says and ignores the state, whatever it is
    ∷ makes start (warm_on 3 0x050101010101 0 0x220FA67D4EAA) 3 testing []
    ∷ makes start (warm_on 3 0x050101010101 0 0x1000000000000) 3 testing []
    ∷ makes (alone 3 warmed []) (warm_on 3 0x050101010101 0 0x220FA67D4EAA) 3 testing []
    -- flag 1 makes the first tested alias the exclusive-or of the given state's four parts, without a step
    ∷ makes start (warm_on 3 0x050101010101 1 0x220FA67D4EAA) 3 warmed []
    ∷ makes start (warm_on 3 0x050101010101 1 0x123000000000) 3 (started_from 0x123000000000 0x123) []
    ∷ makes start (warm_on 3 0x050101010101 1 0x000000000FFF) 3 (started_from 0x000000000FFF 0xFFF) []
    -- or 1 where that is 0
    ∷ makes start (warm_on 3 0x050101010101 1 0) 3 (started_from 0 1) []
    ∷ makes start (warm_on 3 0x050101010101 1 0xABCABCABCABC) 3 (started_from 0xABCABCABCABC 1) []
    -- from any state, with an empty inbox, nothing waiting and the link Error Active, with either flag; it concerns no other place
    ∷ makes (alone 3 replying (frame1 ∷ [])) (warm_on 3 0x050101010101 1 0x220FA67D4EAA) 3 warmed []
    ∷ makes (alone 3 replying (frame1 ∷ [])) (warm_on 3 0x050101010101 0 0x220FA67D4EAA) 3 testing []
    ∷ makes (alone 3 (linked (in_state Silent) ErrorPassive) (frame1 ∷ [])) (warm_on 3 0x050101010101 1 0x220FA67D4EAA) 3 warmed []
    ∷ makes (alone 3 (linked (in_state Silent) ErrorPassive) (frame1 ∷ [])) (warm_on 3 0x050101010101 0 0x220FA67D4EAA) 3 testing []
    ∷ makes (two 3 permitted [] 4 permitted (frame1 ∷ [])) (warm_on 3 0x050101010101 1 0x220FA67D4EAA) 4 (beside permitted) (frame1 ∷ [])
    -- a refused one leaves node, inbox and ages as they were
    ∷ makes (two 3 replying (frame1 ∷ []) 4 permitted []) (warm_on 3 0x050101011100 1 0x220FA67D4EAA) 3 replying (frame1 ∷ [])
    ∷ makes (alone 3 replying (frame1 ∷ [])) (warm_on 3 0x050101010101 2 0x220FA67D4EAA) 3 replying (frame1 ∷ [])
    ∷ ageing (alone 3 replying (frame1 ∷ [])) (ages_at 3 (9 ∷ []) 7) (warm_on 3 0x050101010101 2 0x220FA67D4EAA ∷ []) 3 (9 ∷ []) 7
    -- an accepted one ends all ages there, and no time passes
    ∷ ageing (alone 3 replying (frame1 ∷ [])) (ages_at 3 (9 ∷ []) 7) (warm_on 3 0x050101010101 1 0x220FA67D4EAA ∷ []) 3 [] 0
    ∷ ageing (two 3 permitted [] 4 replying (frame1 ∷ [])) (ages_at 4 (9 ∷ []) 7) (warm_on 3 0x050101010101 1 0x220FA67D4EAA ∷ []) 4 (9 ∷ []) 7
    -- it still tests that alias in full: four CIDs, then none until the 201st tick; another frame with its alias makes it start again
    ∷ lists (warm_on 3 0x050101010101 1 0x220FA67D4EAA ∷ send 3 ∷ send 3 ∷ send 3 ∷ send 3 ∷ send 3 ∷ []) (accepted done ∷ accepted (left (bare 0x170504F8)) ∷ accepted (left (bare 0x161014F8)) ∷ accepted (left (bare 0x150104F8)) ∷ accepted (left (bare 0x141014F8)) ∷ refused 4 ∷ []) 3 (counted warmed (Testing 4 0)) []
    ∷ says (alone 3 (counted warmed (Testing 4 200)) []) (send 3) (refused 4)
    ∷ says (alone 3 (counted warmed (Testing 4 201)) []) (send 3) (accepted (left (bare 0x107004F8)))
    ∷ makes (alone 3 warmed (warmed_message ∷ [])) (deliver 3) 3 (started_from 0x5C694494EE53 0xB9F) []
    -- the mark stays
    ∷ chooses (two 3 testing [] 9 testing []) 5 (warm_on 3 0x050101010101 1 0x220FA67D4EAA ∷ choose ∷ []) (plain ∷ named 9 ∷ []) 9
    -- READ-OUT: 1, then 2; the generator state and whether the first alias is past, in every state but Off
    ∷ says (alone 24 testing []) (read_out 24) (refused 1)
    ∷ says start (read_out 24) (refused 1)
    ∷ says start (read_out 3) (refused 2)
    ∷ says (alone 0 testing []) (read_out 0) (accepted done)
    ∷ says (alone 23 testing []) (read_out 23) (accepted done)
    ∷ chooses (alone 24 testing []) 7 (read_out 24 ∷ read_out 3 ∷ []) (plain ∷ plain ∷ []) 7
    ∷ chooses (alone 3 testing []) 7 (read_out 3 ∷ []) (gave (generator 0x050101010101 false) ∷ []) 7
    ∷ chooses (alone 3 (in_state (Testing 4 7)) []) 7 (read_out 3 ∷ []) (gave (generator 0x050101010101 false) ∷ []) 7
    ∷ chooses (alone 3 (in_state Reserved) []) 7 (read_out 3 ∷ []) (gave (generator 0x050101010101 false) ∷ []) 7
    ∷ chooses (alone 3 permitted []) 7 (read_out 3 ∷ []) (gave (generator 0x050101010101 false) ∷ []) 7
    ∷ chooses (alone 3 leaving []) 7 (read_out 3 ∷ []) (gave (generator 0x050101010101 false) ∷ []) 7
    ∷ chooses (alone 3 (in_state Resting) []) 7 (read_out 3 ∷ []) (gave (generator 0x050101010101 false) ∷ []) 7
    ∷ chooses (alone 3 (in_state Silent) []) 7 (read_out 3 ∷ []) (gave (generator 0x050101010101 false) ∷ []) 7
    -- of the node at its index
    ∷ chooses (two 3 testing [] 9 warmed []) 7 (read_out 9 ∷ []) (gave (generator 0x050101011100 false) ∷ []) 7
    -- past: the generator has stepped since power-on, whatever the cause of the restart
    ∷ chooses start 23 (power_on 3 0x050101010101 ∷ fail 3 ∷ read_out 3 ∷ []) (plain ∷ plain ∷ gave (generator 0x220FA67D4EAA true) ∷ []) 23
    ∷ chooses (alone 3 (in_state Reserved) (own_message ∷ [])) 7 (deliver 3 ∷ read_out 3 ∷ []) (plain ∷ gave (generator 0x220FA67D4EAA true) ∷ []) 7
    ∷ chooses (alone 3 leaving []) 7 (read_out 3 ∷ send 3 ∷ read_out 3 ∷ []) (gave (generator 0x050101010101 false) ∷ plain ∷ gave (generator 0x220FA67D4EAA true) ∷ []) 7
    ∷ chooses (alone 3 (restart testing) []) 7 (fail 3 ∷ read_out 3 ∷ []) (plain ∷ gave (generator 0x5C694494EE53 true) ∷ []) 7
    -- or the power-on was warm, with the Node ID for a state too; not after a release, nor after a power-on that follows
    ∷ chooses start 23 (warm_on 3 0x050101010101 1 0x220FA67D4EAA ∷ read_out 3 ∷ []) (plain ∷ gave (generator 0x220FA67D4EAA true) ∷ []) 23
    ∷ chooses start 23 (warm_on 3 0x050101010101 1 0x050101010101 ∷ read_out 3 ∷ []) (plain ∷ gave (generator 0x050101010101 true) ∷ []) 23
    ∷ chooses start 23 (warm_on 3 0x050101010101 0 0x220FA67D4EAA ∷ read_out 3 ∷ []) (plain ∷ gave (generator 0x050101010101 false) ∷ []) 23
    ∷ chooses (alone 3 (in_state (Leaving Release)) []) 7 (send 3 ∷ read_out 3 ∷ []) (plain ∷ gave (generator 0x050101010101 false) ∷ []) 7
    ∷ chooses (alone 3 warmed []) 7 (power_on 3 0x050101010101 ∷ read_out 3 ∷ []) (plain ∷ gave (generator 0x050101010101 false) ∷ []) 7
    -- not by the alias: the first alias of Node ID FFF7FF, 800, is also the one that its four parts give
    ∷ chooses start 23 (power_on 3 0xFFF7FF ∷ read_out 3 ∷ warm_on 3 0xFFF7FF 1 0xFFF7FF ∷ read_out 3 ∷ []) (plain ∷ gave (generator 0xFFF7FF false) ∷ plain ∷ gave (generator 0xFFF7FF true) ∷ []) 23
    -- it stays past, and the generator where it was, in all that is no restart: CIDs, ticks, RID, AMD; a reply, a host frame; a link
    -- order; release and AMR; a collision; the report
    ∷ chooses (alone 3 (warmed_in (Testing 0 0)) []) 7 (send 3 ∷ read_out 3 ∷ []) (plain ∷ past_out ∷ []) 7
    ∷ chooses (alone 3 (warmed_in (Testing 4 7)) []) 7 (tick ∷ read_out 3 ∷ []) (plain ∷ past_out ∷ []) 7
    ∷ chooses (alone 3 (warmed_in (Testing 4 201)) []) 7 (send 3 ∷ read_out 3 ∷ send 3 ∷ read_out 3 ∷ []) (plain ∷ past_out ∷ plain ∷ past_out ∷ []) 7
    ∷ chooses (alone 3 (warmed_in Permitted) (warmed_cid ∷ [])) 7 (deliver 3 ∷ read_out 3 ∷ send 3 ∷ read_out 3 ∷ []) (plain ∷ past_out ∷ plain ∷ past_out ∷ []) 7
    ∷ chooses (alone 3 (warmed_in Permitted) []) 7 (message 3 0x5B4 0 0 ∷ read_out 3 ∷ send 3 ∷ read_out 3 ∷ []) (plain ∷ past_out ∷ plain ∷ past_out ∷ []) 7
    ∷ chooses (alone 3 (warmed_in Permitted) []) 7 (link 3 1 ∷ read_out 3 ∷ []) (plain ∷ past_out ∷ []) 7
    ∷ chooses (alone 3 (warmed_in Permitted) []) 7 (release 3 ∷ read_out 3 ∷ send 3 ∷ read_out 3 ∷ []) (plain ∷ past_out ∷ plain ∷ past_out ∷ []) 7
    ∷ chooses (alone 3 (warmed_in Permitted) (warmed_message ∷ [])) 7 (deliver 3 ∷ read_out 3 ∷ []) (plain ∷ past_out ∷ []) 7
    ∷ chooses (alone 3 (warmed_in Permitted) (same_id ∷ [])) 7 (deliver 3 ∷ read_out 3 ∷ send 3 ∷ read_out 3 ∷ []) (plain ∷ past_out ∷ plain ∷ past_out ∷ []) 7
    -- a read-out changes nothing, there or elsewhere, and no time passes
    ∷ makes (alone 3 replying (frame1 ∷ [])) (read_out 3) 3 replying (frame1 ∷ [])
    ∷ makes (alone 3 host_waiting []) (read_out 3) 3 host_waiting []
    ∷ makes (alone 3 (in_state (Testing 4 7)) []) (read_out 3) 3 (in_state (Testing 4 7)) []
    ∷ makes (alone 3 (linked permitted ErrorPassive) []) (read_out 3) 3 (linked permitted ErrorPassive) []
    ∷ makes (two 3 permitted [] 4 (in_state (Testing 4 7)) (frame1 ∷ [])) (read_out 3) 4 (beside (in_state (Testing 4 7))) (frame1 ∷ [])
    ∷ ageing (alone 3 replying (frame1 ∷ [])) (ages_at 3 (9 ∷ []) 7) (read_out 3 ∷ []) 3 (9 ∷ []) 7
    -- read out and given back at another index, after the node has gone from its own
    ∷ lists (power_on 3 0x050101010101 ∷ fail 3 ∷ read_out 3 ∷ power_on 3 0x050101010102 ∷ warm_on 5 0x050101010101 1 0x220FA67D4EAA ∷ []) (accepted done ∷ accepted done ∷ accepted done ∷ accepted done ∷ accepted done ∷ []) 5 warmed []
    ∷ []

abbrev pub examples : List (List Example)
examples = of_answers ∷ of_places ∷ of_ages ∷ of_kept ∷ of_looks ∷ of_links ∷ of_reports ∷ of_node_ids ∷ of_choices ∷ of_warm_starts ∷ []
