-- Whether a node has a due frame: in Testing by the ticks, in Reserved and Permitted by what waits.
use Rattle.std.specs.Prelude.{Option, Some, None}
use mathlib.Core.Path.{◌≡◌, refl, sym, ap, ◌∙◌}
use mathlib.Core.Bool.{Bool, true, false, not, cond, ◌||◌}
use Prim.Native.Nat.{ℕ}
use lib.Dec.{ltb}
use Rattle.state.specs.Concerns.{counts}
use Rattle.node.specs.Rules.{Due, nothing, next, is_due, error_waits, error_due, host_waits, host_due, cid_frame, rid_frame, amd_frame, report_frame, first_waiting, due_at, due_of}
use Rattle.node.specs.declared.Node.{Node}
use Rattle.headers.specs.declared.frame.Frame.{Frame}
use Rattle.state.specs.declared.Phase.{Phase}
use Rattle.state.specs.declared.Phase.TheVariants.{Testing, Reserved}
use Rattle.state.specs.declared.Error.{Error}
use Rattle.state.specs.declared.Error.TheVariants.{Report0, Report1, Report2, Report3}
use Rattle.state.specs.declared.Host.{Host}
use Rattle.state.specs.declared.Host.TheVariants.{Message, Enquiry}

host-due : (h : Option Host) (a : ℕ) → is_due (host_due h a) ≡ host_waits h
host-due None a = refl
host-due (Some (Message field len bytes)) a = refl
host-due (Some (Enquiry len bytes)) a = refl

error-due : (e : Option Error) (id a : ℕ) (h : Option Host) → is_due (cond (error_waits e) (error_due e id a) (host_due h a)) ≡ (error_waits e || host_waits h)
error-due None id a h = host-due h a
error-due (Some Report0) id a h = refl
error-due (Some Report1) id a h = refl
error-due (Some Report2) id a h = refl
error-due (Some Report3) id a h = refl

pub waiting_due : (n : Node)
    → is_due (first_waiting n) ≡ (n.waiting.reply || (n.waiting.amd || (n.waiting.report || (error_waits n.waiting.error || host_waits n.waiting.host))))
unfolding first_waiting
waiting_due n =
    let a = n.alias.0 in
    let w = n.waiting in
    first w.reply (rid_frame a) _ _
    (first w.amd (amd_frame n.own.id a) _ _
    (first w.report (report_frame a) _ _ (error-due w.error n.own.id a w.host)))
  where
    first : (b : Bool) (f : Frame) (d : Due) (x : Bool) → is_due d ≡ x → is_due (cond b (next f) d) ≡ (b || x)
    first true f d x e = refl
    first false f d x e = e

-- in Testing, but while ticks count
pub testing-due : (w : ℕ) (n : Node) (sent ticks : ℕ) → n.phase ≡ Testing sent ticks → not (counts w n.phase) ≡ is_due (due_of w n)
unfolding due_of
testing-due w n sent ticks e =
    ap (λ (p : Phase). not (counts w p)) e ∙ go (ltb sent 4) (ltb ticks w) ∙ sym (ap (λ (p : Phase). is_due (due_at w p n)) e)
  where
    go : (early counting : Bool)
        → not (cond early false counting)
        ≡ is_due (cond early (next (cid_frame n.own.id n.alias.0 sent)) (cond counting nothing (next (rid_frame n.alias.0))))
    go true counting = refl
    go false true = refl
    go false false = refl

pub reserved-due : (w : ℕ) (n : Node) → n.phase ≡ Reserved → is_due (due_of w n) ≡ true
unfolding due_of
reserved-due w n e = ap (λ (p : Phase). is_due (due_at w p n)) e ∙ go n.waiting.reply
  where
    go : (b : Bool) → is_due (cond b (next (rid_frame n.alias.0)) (next (amd_frame n.own.id n.alias.0))) ≡ true
    go true = refl
    go false = refl
