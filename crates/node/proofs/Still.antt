-- What a tick changes of a node, and events that leave it as it is: a tick that does not count, a frame of which nothing
-- concerns it.
use Rattle.std.specs.Prelude.{◌≡◌, refl, Bool, true, false, cond, ℕ, ◌+◌, ltb, eqb, Option, Some, None}
use Rattle.std.proofs.Common.{sym, ◌∙◌, true≢false}
use Rattle.std.proofs.lemmas.Bool.{false≢true}
use Rattle.node.specs.Rules.{alias_in, kind_in, Kind, cid, rid, amd, ame, amr, error_report, reserved, message_kind, counted, tick_of, tick_at, is_permitted, is_cid, same_alias, addressed, addressed_at, other_alias, received}
use Rattle.state.specs.Concerns.{counts, kind_concern, concern, is_nothing}
use Rattle.headers.specs.declared.frame.Frame.{Frame}
use Rattle.state.specs.declared.Concern.{Concern}
use Rattle.state.specs.declared.Concern.TheVariants.{SameAlias}
use Rattle.node.specs.declared.Node.{Node}
use Rattle.state.specs.declared.Phase.{Phase}
use Rattle.state.specs.declared.Phase.TheVariants.{Off, Testing, Reserved, Permitted, Leaving, Resting, Silent}
use Rattle.node.specs.Still.{taken_by}

-- TICKS

-- it changes the phase alone
pub tick-phase : (w : ℕ) (n : Node) → counted n (tick_of w n).phase ≡ tick_of w n
unfolding tick_of counted
tick-phase w n = go n.phase
  where
    go : (p : Phase) → counted n (tick_at w p n).phase ≡ tick_at w p n
    go Off = refl
    go (Testing sent ticks) = test (ltb sent 4) (ltb ticks w)
      where
        test : (a b : Bool) → let m = cond a n (cond b (counted n (Testing sent (ticks + 1))) n) in counted n m.phase ≡ m
        test true b = refl
        test false true = refl
        test false false = refl
    go Reserved = refl
    go Permitted = refl
    go (Leaving why) = refl
    go Resting = refl
    go Silent = refl

pub tick-still : (w : ℕ) (n : Node) → counts w n.phase ≡ false → tick_of w n ≡ n
unfolding tick_of
tick-still w n e = go n.phase e
  where
    go : (p : Phase) → counts w p ≡ false → tick_at w p n ≡ n
    go Off e = refl
    go (Testing sent ticks) e = test (ltb sent 4) (ltb ticks w) e
      where
        test : (a b : Bool) → cond a false b ≡ false → cond a n (cond b (counted n (Testing sent (ticks + 1))) n) ≡ n
        test true b e = refl
        test false true e = absurd (true≢false e)
        test false false e = refl
    go Reserved e = refl
    go Permitted e = refl
    go (Leaving why) e = refl
    go Resting e = refl
    go Silent e = refl

-- This is all that the rules say of it.
pub taken-received : (n : Node) (f : Frame) → taken_by (concern n.alias.0 n.phase f) n f ≡ received n f
unfolding concern received other_alias addressed
taken-received n f = go (eqb f.kind 0) (eqb (alias_in f.header) n.alias.0) (is_permitted n.phase) (kind_in f.header)
  where
    other : (k : Kind) → taken_by (kind_concern k) n f ≡ addressed_at k n f
    other (cid number section) = refl
    other rid = refl
    other amd = refl
    other ame = refl
    other amr = refl
    other (error_report number) = refl
    other reserved = refl
    other message_kind = refl

    go : (control same permitted : Bool) (k : Kind)
        → taken_by (cond control (cond same (Some (SameAlias (is_cid k))) (cond permitted (kind_concern k) None)) None) n f
        ≡ cond control (cond same (same_alias n (is_cid k)) (cond permitted (addressed_at k n f) n)) n
    go true true permitted k = refl
    go true false true k = other k
    go true false false k = refl
    go false same permitted k = refl

pub frame-still : (n : Node) (f : Frame) → is_nothing (concern n.alias.0 n.phase f) ≡ true → received n f ≡ n
frame-still n f e = sym (taken-received n f) ∙ go (concern n.alias.0 n.phase f) e
  where
    go : (c : Option Concern) → is_nothing c ≡ true → taken_by c n f ≡ n
    go None e = refl
    go (Some c) e = absurd (false≢true e)
