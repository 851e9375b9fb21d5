-- GridConnect text for C: the words of a frame.
use Rattle.std.specs.Prelude.{List, [], ◌∷◌, ℕ}
use Rattle.gridconnect.specs.Rules.{Frame}

-- Header, length, data with the first byte highest.
abbrev pub frame_words : Frame → List ℕ
frame_words f = f.header ∷ f.len ∷ f.bytes ∷ []
