-- A.5: nodes ignore bit 28.
use Rattle.std.specs.Prelude.{◌≡◌, true, ◌&&◌, ◌||◌, ℕ}
use Rattle.std.proofs.Math.Path.{refl, ap}
use Rattle.std.proofs.Common.{◌∙◌}
use Rattle.std.proofs.Math.Bool.{cond}
use Rattle.std.proofs.Math.Dec.{eqb}
use Rattle.headers.specs.Rules.{id_in}
use Rattle.headers.specs.Bit28.{But28}
use Rattle.headers.proofs.Bit28.{alias-but-28, kind-but-28, malformed-but-28}
use Rattle.headers.specs.declared.frame.Frame.{Frame}
use Rattle.node.specs.Rules.{accepted, refuse, Kind, cid, rid, amd, ame, amr, error_report, reserved, message_kind, kind_in, is_off, is_permitted, is_cid, is_own, with_amd, with_report, waits, same_alias, addressed, other_alias, received, done, resulting, on_receive, receive, outcome}
use Rattle.node.specs.declared.Node.{Node}

module _ (n : Node) (f g : Frame) (b : But28 f g) where
  own-but-28 : is_own n.own.id f ≡ is_own n.own.id g
  unfolding is_own
  own-but-28 = λ i. eqb (b.len i) 6 && eqb (id_in (b.bytes i)) n.own.id

  addressed-but-28 : (k : Kind) → addressed k n f ≡ addressed k n g
  unfolding addressed
  addressed-but-28 (cid number section) = refl
  addressed-but-28 rid = refl
  addressed-but-28 amd = λ i. cond (own-but-28 i) (waits n (with_report n.waiting true)) n
  addressed-but-28 ame = λ i. cond (eqb (b.len i) 0 || own-but-28 i) (waits n (with_amd n.waiting true)) n
  addressed-but-28 amr = refl
  addressed-but-28 (error_report number) = refl
  addressed-but-28 reserved = refl
  addressed-but-28 message_kind = refl

  pub received-but-28 : received n f ≡ received n g
  unfolding received other_alias
  received-but-28 =
      let a = alias-but-28 f.header g.header b.header in
      let k = kind-but-28 f.header g.header b.header in
      λ i. cond (eqb (b.kind i) 0)
      (cond (eqb (a i) n.alias.0) (same_alias n (is_cid (k i))) (cond (is_permitted n.phase) ((addressed-but-28 (kind_in f.header) ∙ ap (λ (x : Kind). addressed x n g) k) i) n))
      n

  -- Two frames that differ in bit 28 alone do the same to every node: the answer, and the node that is given back.
  pub ignores-28 : (w : ℕ) → outcome w n (receive f) ≡ outcome w n (receive g)
  unfolding on_receive
  ignores-28 w =
      λ i. resulting (refuse (is_off n.phase) 2 (refuse (malformed-but-28 f g b i) 9 (accepted done))) n (received-but-28 i)
