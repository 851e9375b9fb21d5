-- Document 01 on frames from outside: when one is malformed, and which of its data bytes count. A file to believe.
use Rattle.std.specs.Prelude.{ℕ, ◌-◌, ◌%◌, ◌^◌, Bool, not, cond, ◌&&◌, ◌||◌, ltb, leb, eqb}
use Rattle.headers.specs.declared.frame.Frame.{Frame}

-- A foreign frame is malformed if its kind is above 2, its length above 8, its length not 0 with kind 1, or its header
-- above 29 bits (11 for kind 2).
unfoldable pub malformed : Frame → Bool
malformed f =
    ltb 2 f.kind
    || (ltb 8 f.len
    || ((eqb f.kind 1 && not (eqb f.len 0))
    || leb (cond (eqb f.kind 2) (2 ^ 11) (2 ^ 29)) f.header))

-- Unused data bytes are ignored: only those that the length counts are kept.
unfoldable pub used : (len bytes : ℕ) → ℕ
used len bytes = bytes - bytes % 256 ^ (8 - len)

unfoldable pub trimmed : Frame → Frame
trimmed f = record { kind = f.kind; header = f.header; len = f.len; bytes = used f.len f.bytes }
