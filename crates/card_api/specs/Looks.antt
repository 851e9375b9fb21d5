-- What looking writes for C: the words of what is seen, and of a frame.
use Rattle.std.specs.Prelude.{List, [], ◌∷◌, ℕ}
use Rattle.node.specs.Rules.{Due, nothing, next}
use Rattle.headers.specs.declared.frame.Frame.{Frame}
use Rattle.segment_rules.specs.Looks.{Seen}

-- 1 where a frame is due, and that frame; all 0 where none is.
abbrev pub due_mark : Due → ℕ
due_mark nothing = 0
due_mark (next f) = 1

abbrev pub due_frame : Due → Frame
due_frame nothing = record { kind = 0; header = 0; len = 0; bytes = 0 }
due_frame (next f) = f

-- State, Node ID, alias; whether a frame is due, its header, length and data; how many frames the inbox has; four words 0.
unfoldable pub seen_words : Seen → List ℕ
seen_words s =
    s.state ∷ s.id ∷ s.alias ∷ due_mark s.due ∷ (due_frame s.due).header ∷ (due_frame s.due).len ∷ (due_frame s.due).bytes
    ∷ s.count ∷ 0 ∷ 0 ∷ 0 ∷ 0 ∷ []

-- Kind, header, length, data.
abbrev pub frame_words : Frame → List ℕ
frame_words f = f.kind ∷ f.header ∷ f.len ∷ f.bytes ∷ []
