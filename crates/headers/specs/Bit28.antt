-- What the theorems of proofs/Bit28.antt speak of; these definitions are to be believed.
use Rattle.std.specs.Prelude.{◌≡◌, ℕ, ◌/◌, ◌%◌, ◌^◌}
use Rattle.headers.specs.declared.frame.Frame.{Frame}

-- Two headers that have the bits above bit 28 and those below it in common.
pub record HeadersBut28 (h k : ℕ) : Type 0 where
  pub above : h / 2 ^ 29 ≡ k / 2 ^ 29
  pub below : h % 2 ^ 28 ≡ k % 2 ^ 28

-- Two frames that differ in bit 28 alone, if at all. An eleven-bit frame has no such bit.
pub record But28 (f g : Frame) : Type 0 where
  pub kind : f.kind ≡ g.kind
  pub header : HeadersBut28 f.header g.header
  pub eleven : f.kind ≡ 2 → f.header ≡ g.header
  pub len : f.len ≡ g.len
  pub bytes : f.bytes ≡ g.bytes
