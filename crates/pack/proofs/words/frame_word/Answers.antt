use native.Mathlib.Omega.{arith}
use Prim.Native.Nat.{◌<◌, ◌^◌}
use Rattle.pack.proofs.Packed.{frame_back}
use Rattle.pack.proofs.words.frame_word.Goals as goal

pub returns : goal.returns
returns c = let f = c.args.f in
    let k : f.kind < 2 ^ 8 = omega arith in
    let l : f.len < 2 ^ 8 = omega arith in
    let h : f.header < 2 ^ 32 = omega arith in
    (frame_back f _ k l h (omega arith), omega arith)
