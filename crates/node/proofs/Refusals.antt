-- Every refusal of a node's event has a number of two digits at most.
use Rattle.std.specs.Prelude.{ℕ, ◌+◌, ◌%◌, ◌^◌, ◌<◌, Bool, not, cond, ◌||◌, leb, Some}
use Rattle.std.proofs.Math.Bool.{true, false}
use native.Mathlib.Omega.{arith}
use Rattle.std.proofs.Math.Dec.{ltb, eqb}
use Rattle.headers.specs.Rules.{bad_node_id}
use Rattle.node.specs.Rules.{Answer, accepted, refused, refuse, is_off, is_permitted, moved, waits, with_host, sent_of, failed_of, received, malformed, Due, nothing, next, due_of, Value, done, resulting, powered_by, on_power_on, bad_start, started_by, on_warm_on, due_answer, on_leave, fail_answer, on_fail, on_receive, host_waits, host_orders, ordered, on_message, on_enquiry, on_release, link_of, link_told, on_link, power_on, fail, message, enquiry, release, link, warm_on, Event, order, leave, receive, tick, outcome}
use Rattle.node.specs.declared.Node.{Node}
use Rattle.state.specs.declared.Host.{Host}
use Rattle.state.specs.declared.Phase.TheVariants.{Leaving}
use Rattle.state.specs.declared.Reason.TheVariants.{Release}
use Rattle.node.specs.Refusals.{TwoDigits}

pub two-refuse : (b : Bool) (k : ℕ) (a : Answer Value) → k < 100 → TwoDigits a → TwoDigits (refuse b k a)
two-refuse true k a h t = h
two-refuse false k a h t = t

two-resulting : (a : Answer Value) (n m : Node) → TwoDigits a → TwoDigits (resulting a n m).answer
two-resulting (accepted v) n m t = t
two-resulting (refused number) n m t = t

module _ (w : ℕ) (n : Node) where
  two-power : (id : ℕ) → TwoDigits (on_power_on n id).answer
  unfolding on_power_on
  two-power id = go (bad_node_id id) (1 + id % 4095)
    where
      go : (b : Bool) (a : ℕ) → TwoDigits (powered_by (refuse b 3 (accepted a)) n id).answer
      go true a = omega arith
      go false a = tt

  -- A.9
  two-warm : (id flag x : ℕ) → TwoDigits (on_warm_on n id flag x).answer
  unfolding on_warm_on
  two-warm id flag x = go (bad_node_id id) (1 + id % 4095)
    where
      go : (b : Bool) (a : ℕ) → TwoDigits (started_by (refuse b 3 (accepted a)) n id flag x).answer
      go true a = omega arith
      go false a = two-resulting (refuse (bad_start flag x) 18 (accepted done)) n _ (two-refuse (bad_start flag x) 18 (accepted done) (omega arith) tt)

  -- 2, then what else there is to refuse
  two-off : (a : Answer Value) (m : Node) → TwoDigits a → TwoDigits (resulting (refuse (is_off n.phase) 2 a) n m).answer
  two-off a m t = two-resulting (refuse (is_off n.phase) 2 a) n m (two-refuse (is_off n.phase) 2 a (omega arith) t)

  two-ordered : (bad : Bool) (h : Host) → TwoDigits (ordered n bad h).answer
  unfolding host_orders
  two-ordered bad h = go (is_off n.phase) bad
    where
      later : Answer Value
      later = refuse (host_waits n.waiting.host) 8 (accepted done)

      go : (off bad : Bool) → TwoDigits (cond off (resulting (refused 2) n n) (cond bad (resulting (refused 9) n n)
          (resulting (refuse (not (is_permitted n.phase)) 7 later) n (waits n (with_host n.waiting (Some h)))))).answer
      go true bad = omega arith
      go false true = omega arith
      go false false =
          two-resulting (refuse (not (is_permitted n.phase)) 7 later) n _
          (two-refuse (not (is_permitted n.phase)) 7 later (omega arith) (two-refuse (host_waits n.waiting.host) 8 (accepted done) (omega arith) tt))

  two-fail : TwoDigits (on_fail w n).answer
  unfolding on_fail
  two-fail = two-off (fail_answer (due_of w n)) (failed_of n) (go (due_of w n))
    where
      go : (d : Due) → TwoDigits (fail_answer d)
      go nothing = omega arith
      go (next f) = tt

  two-leave : TwoDigits (on_leave w n).answer
  unfolding on_leave
  two-leave = two-off (due_answer (due_of w n)) (sent_of n) (go (due_of w n))
    where
      go : (d : Due) → TwoDigits (due_answer d)
      go nothing = omega arith
      go (next f) = tt

  pub two_digits : (e : Event) → TwoDigits (outcome w n e).answer
  unfolding on_receive on_message on_enquiry on_release on_link
  two_digits (order (power_on id)) = two-power id
  two_digits (order fail) = two-fail
  two_digits (order (message f l b)) = two-ordered (leb (2 ^ 15) f || ltb 8 l) _
  two_digits (order (enquiry l b)) = two-ordered (not (eqb l 0 || eqb l 6)) _
  two_digits (order release) = two-off _ (moved n (Leaving Release)) (two-refuse (not (is_permitted n.phase)) 7 (accepted done) (omega arith) tt)
  two_digits (order (link s)) = two-off _ (link_told n (link_of s)) (two-refuse (ltb 2 s) 14 (accepted done) (omega arith) tt)
  two_digits (order (warm_on id flag x)) = two-warm id flag x
  two_digits leave = two-leave
  two_digits (receive f) = two-off _ (received n f) (two-refuse (malformed f) 9 (accepted done) (omega arith) tt)
  two_digits tick = tt
