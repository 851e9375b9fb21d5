-- What is sound of a node: the node that is Off is, and every event keeps it, refused ones too.
use Rattle.std.specs.Prelude.{◌≡◌, Bool, ◌||◌, ℕ, ◌+◌, ◌%◌, ◌^◌, ◌<◌, ◌≤◌, leb, Some}
use Rattle.std.proofs.Math.Path.{refl}
use Rattle.std.proofs.Common.{sym, ap, true≢false, arith}
use Rattle.std.proofs.Math.Bool.{true, false, not}
use Rattle.std.proofs.Math.Dec.{ltb, eqb}
use borrow.Author.Tests.{ltb-true, ltb-false, leb-false, eqb-true, eqb-false}
use Rattle.headers.proofs.Laws.{neither, was-accepted, first_range, drawn-range, step_range}
use Rattle.state.specs.Sent.{sent-bit, sent-alias}
use Rattle.headers.specs.Rules.{bad_node_id}
use Rattle.node.specs.Rules.{accepted, first_alias, sent_header, alias_in, Kind, cid, rid, amd, ame, amr, error_report, reserved, message_kind, step, drawn, is_off, is_permitted, none_waiting, generator, off_node, fresh, restart, moved, counted, waits, linked, with_reply, with_error, with_host, error_waits, tick_at, tick_of, sent_permitted, sent_at, sent_of, failed_at, failed_of, same_alias_at, same_alias, is_own, addressed_at, addressed, other_alias, received, cold, warm, ordered, on_message, on_enquiry, on_release, error_on, link_told, Order, power_on, fail, message, enquiry, release, link, warm_on, Event, order, leave, receive, tick, on_order, outcome}
use Rattle.node.proofs.Given.{is-permitted, either, power-given, warm-given, leaves-given, fails-given, receives-given, release-given, link-given, ordered-given}
use Rattle.headers.specs.declared.frame.Frame.{Frame}
use Rattle.node.specs.declared.Generator.{Generator}
use Rattle.node.specs.declared.Node.{Node}
use Rattle.state.specs.declared.Phase.{Phase}
use Rattle.state.specs.declared.Phase.TheVariants.{Off, Testing, Reserved, Permitted, Leaving, Resting, Silent}
use Rattle.state.specs.declared.Reason.TheVariants.{Collision, Release}
use Rattle.state.specs.declared.Waiting.{Waiting}
use Rattle.state.specs.declared.Link.{Link}
use Rattle.state.specs.declared.Host.{Host}
use Rattle.node.specs.Sound.{Formed, HostFits, InRange, Fits, alias_by, Named, Sound}

-- every frame that a node writes is so
pub formed : (t f a l b : ℕ) → t < 2 → f < 2 ^ 15 → a < 2 ^ 12 → l ≤ 8
    → Formed a (record { kind = 0; header = sent_header t f a; len = l; bytes = b })
formed t f a l b ht hf ha hl = record { kind = refl; len = hl; header = omega arith; bit = sent-bit t f a ht hf ha; alias = sent-alias t f a ha }

pub off-sound : Sound off_node
unfolding off_node
off-sound = record {
  id = omega arith;
  alias = omega arith;
  generator = omega arith;
  named = λ e. absurd (true≢false e);
  range = tt;
  fits = refl;
  host = tt;
}

-- THE WAYS A NODE CHANGES

module _ (id first : ℕ) (e : first_alias id ≡ accepted first) where
  good : (0 < id) × (id < 2 ^ 48) × (first ≡ 1 + id % 4095)
  good =
      let c = was-accepted (bad_node_id id) 3 (1 + id % 4095) first e in
      let d = neither (eqb id 0) (leb (2 ^ 48) id) c.0 in
      let ne = eqb-false id 0 d.0 in
      (omega arith, leb-false (2 ^ 48) id d.1, sym c.1)

  fresh-sound : (a : ℕ) (g : Generator) → 0 < a → a < 2 ^ 12 → g.state < 2 ^ 48 → a ≡ alias_by id g → (g.past ≡ false → g.state ≡ id)
      → Sound (fresh id (record { 0 = a }) g)
  unfolding fresh
  fresh-sound a g ha ha' hg is at = record {
    id = good.1;
    alias = ha';
    generator = hg;
    named = λ e. (good.0, ha, is, at);
    range = omega arith;
    fits = refl;
    host = tt;
  }

  cold-sound : Sound (cold id first)
  cold-sound = let r = first_range id first e in fresh-sound first (generator id false) r.0 r.1 good.1 good.2 (λ q. refl)

  warm-sound : (x : ℕ) → x < 2 ^ 48 → Sound (warm id x)
  warm-sound x h = let r = drawn-range x in fresh-sound (drawn x) (generator x true) r.0 r.1 h refl (λ q. absurd (true≢false q))

nothing-fits : (p : Phase) → Fits p none_waiting
nothing-fits Off = refl
nothing-fits (Testing sent ticks) = refl
nothing-fits Reserved = refl
nothing-fits Permitted = tt
nothing-fits (Leaving why) = refl
nothing-fits Resting = refl
nothing-fits Silent = refl

module _ (n : Node) (h : Sound n) where
  restart-sound : Named n → Sound (restart n)
  unfolding restart
  restart-sound m = record {
    id = h.id;
    alias = (drawn-range (step n.generator.state)).1;
    generator = step_range n.generator.state;
    named = λ e. (m.0, (drawn-range (step n.generator.state)).0, refl, λ q. absurd (true≢false q));
    range = omega arith;
    fits = refl;
    host = tt;
  }

  moved-sound : (p : Phase) → Named n → InRange p → Sound (moved n p)
  unfolding moved
  moved-sound p m r = record {
    id = h.id;
    alias = h.alias;
    generator = h.generator;
    named = λ e. m;
    range = r;
    fits = nothing-fits p;
    host = tt;
  }

  counted-sound : (p : Phase) → Named n → InRange p → Fits p n.waiting → Sound (counted n p)
  unfolding counted
  counted-sound p m r f = record {
    id = h.id;
    alias = h.alias;
    generator = h.generator;
    named = λ e. m;
    range = r;
    fits = f;
    host = h.host;
  }

  waits-sound : (w : Waiting) → Fits n.phase w → HostFits w.host → Sound (waits n w)
  unfolding waits
  waits-sound w f y = record {
    id = h.id;
    alias = h.alias;
    generator = h.generator;
    named = h.named;
    range = h.range;
    fits = f;
    host = y;
  }

  linked-sound : (l : Link) → Sound (linked n l)
  unfolding linked
  linked-sound l = record {
    id = h.id;
    alias = h.alias;
    generator = h.generator;
    named = h.named;
    range = h.range;
    fits = h.fits;
    host = h.host;
  }

  -- what is known of the node's phase, to go by cases of it
  abbrev At : Phase → Type 0
  At p =
      (is_off p ≡ false → Named n)
      × InRange p
      × Fits p n.waiting
      × ((w : Waiting) → Fits p w → Fits n.phase w)

  here : At n.phase
  here = (h.named, h.range, h.fits, λ w f. f)

-- THE EVENTS

module _ (n : Node) (h : Sound n) where
  -- in Reserved a reply may come and go
  reply-fits : (b : Bool) → Fits Reserved n.waiting → Fits Reserved (with_reply n.waiting b)
  reply-fits b e = ap (λ (w : Waiting). with_reply w b) e

  tick-sound : (w : ℕ) → Sound (tick_of w n)
  unfolding tick_of
  tick-sound w = go n.phase (here n h)
    where
      go : (p : Phase) → At n h p → Sound (tick_at w p n)
      go Off k = h
      go (Testing s t) k =
          either Sound (ltb s 4) _ _ (λ e. h)
          (λ e. either Sound (ltb t w) _ _
          (λ e'. counted-sound n h _ (k.0 refl) k.1 k.2)
          (λ e'. h))
      go Reserved k = h
      go Permitted k = h
      go (Leaving y) k = h
      go Resting k = h
      go Silent k = h

  sent-sound : Sound (sent_of n)
  unfolding sent_of sent_permitted
  sent-sound = go n.phase (here n h)
    where
      w : Waiting
      w = n.waiting

      go : (p : Phase) → At n h p → Sound (sent_at p n)
      go Off k = h
      go (Testing s t) k =
          either Sound (ltb s 4) _ _
          (λ e. counted-sound n h _ (k.0 refl) (omega (arith, ltb-true s 4 e)) k.2)
          (λ e. moved-sound n h _ (k.0 refl) tt)
      go Reserved k =
          either Sound w.reply _ _ (λ e. waits-sound n h _ (k.3 _ (reply-fits _ k.2)) h.host)
          (λ e. moved-sound n h _ (k.0 refl) tt)
      go Permitted k =
          either Sound w.reply _ _ (λ e. waits-sound n h _ (k.3 _ tt) h.host)
          (λ e. either Sound w.amd _ _ (λ e. waits-sound n h _ (k.3 _ tt) h.host)
          (λ e. either Sound w.report _ _ (λ e. moved-sound n h _ (k.0 refl) tt)
          (λ e. either Sound (error_waits w.error) _ _ (λ e. waits-sound n h _ (k.3 _ tt) h.host)
          (λ e. waits-sound n h _ (k.3 _ tt) tt))))
      go (Leaving Release) k = moved-sound n h _ (k.0 refl) tt
      go (Leaving Collision) k = restart-sound n h (k.0 refl)
      go Resting k = h
      go Silent k = h

  failed-sound : Sound (failed_of n)
  unfolding failed_of
  failed-sound = go n.phase (here n h)
    where
      go : (p : Phase) → At n h p → Sound (failed_at p n)
      go Off k = h
      go (Testing s t) k = restart-sound n h (k.0 refl)
      go Reserved k = h
      go Permitted k = h
      go (Leaving y) k = h
      go Resting k = h
      go Silent k = h

  same-sound : (b : Bool) → Sound (same_alias n b)
  unfolding same_alias
  same-sound b = go n.phase (here n h)
    where
      go : (p : Phase) → At n h p → Sound (same_alias_at p b n)
      go Off k = h
      go (Testing s t) k = restart-sound n h (k.0 refl)
      go Reserved k =
          either Sound b _ _ (λ e. waits-sound n h _ (k.3 _ (reply-fits _ k.2)) h.host)
          (λ e. restart-sound n h (k.0 refl))
      go Permitted k =
          either Sound b _ _ (λ e. waits-sound n h _ (k.3 _ tt) h.host) (λ e. moved-sound n h _ (k.0 refl) tt)
      go (Leaving y) k = h
      go Resting k = h
      go Silent k = h

  -- in Permitted anything may wait
  any-fits : n.phase ≡ Permitted → (w : Waiting) → Fits n.phase w
  any-fits e w = rw e tt

  other-sound : (k : Kind) (f : Frame) → Sound (other_alias k n f)
  unfolding other_alias addressed
  other-sound k f =
      either Sound (is_permitted n.phase) _ _ (λ e. go (any-fits (is-permitted n.phase e)) k) (λ e. h)
    where
      go : ((w : Waiting) → Fits n.phase w) → (k : Kind) → Sound (addressed_at k n f)
      go x (cid number section) = h
      go x rid = h
      go x amd = either Sound (is_own n.own.id f) _ _ (λ e. waits-sound n h _ (x _) h.host) (λ e. h)
      go x ame = either Sound (eqb f.len 0 || is_own n.own.id f) _ _ (λ e. waits-sound n h _ (x _) h.host) (λ e. h)
      go x amr = h
      go x (error_report number) = h
      go x reserved = h
      go x message_kind = h

  pub received-sound : (f : Frame) → Sound (received n f)
  unfolding received
  received-sound f =
      either Sound (eqb f.kind 0) _ _
      (λ e. either Sound (eqb (alias_in f.header) n.alias.0) _ _ (λ e. same-sound _) (λ e. other-sound _ f))
      (λ e. h)

  release-sound : Sound (on_release n).node
  release-sound =
      release-given Sound n h (λ e. moved-sound n h _ (h.named (ap is_off e)) tt)

  ordered-sound : (bad : Bool) (x : Host) → (bad ≡ false → HostFits (Some x)) → Sound (ordered n bad x).node
  ordered-sound bad x y =
      let w = with_host n.waiting (Some x) in
      ordered-given Sound n h bad x (λ e e'. waits-sound n h w (any-fits e' w) (y e))

  message-sound : (field len bytes : ℕ) → Sound (on_message n field len bytes).node
  unfolding on_message
  message-sound f l b =
      ordered-sound (leb (2 ^ 15) f || ltb 8 l) _
      (λ e.
      let c = neither (leb (2 ^ 15) f) (ltb 8 l) e in (leb-false (2 ^ 15) f c.0, ltb-false 8 l c.1))

  enquiry-sound : (len bytes : ℕ) → Sound (on_enquiry n len bytes).node
  unfolding on_enquiry
  enquiry-sound l b = ordered-sound (not (eqb l 0 || eqb l 6)) _ (λ e. go (eqb l 0) (eqb l 6) refl refl e)
    where
      go : (x y : Bool) → eqb l 0 ≡ x → eqb l 6 ≡ y → not (x || y) ≡ false → l ≤ 8
      go true y p q e = omega (arith, eqb-true l 0 p)
      go false true p q e = omega (arith, eqb-true l 6 q)
      go false false p q e = absurd (true≢false e)

  link-sound : (l : Link) → Sound (link_told n l)
  unfolding link_told linked
  link-sound l =
      let w = with_error n.waiting (error_on l n.own.link n.waiting.error) in
      either Sound (is_permitted n.phase) _ _
      (λ e. waits-sound (linked n l) (linked-sound n h l) w (any-fits (is-permitted n.phase e) w) h.host)
      (λ e. linked-sound n h l)

  -- every event keeps a node sound
  pub order-sound : (w : ℕ) (x : Order) → Sound (on_order w n x).node
  order-sound w (power_on id) = power-given Sound n h id (λ a e. cold-sound id a e)
  order-sound w fail = fails-given Sound n h w failed-sound
  order-sound w (message f l b) = message-sound f l b
  order-sound w (enquiry l b) = enquiry-sound l b
  order-sound w release = release-sound
  order-sound w (link s) = link-given Sound n h s (link-sound _)
  order-sound w (warm_on id flag x) = warm-given Sound n h id flag x (λ a e. cold-sound id a e) (λ a e l. warm-sound id a e x l)

  pub event-sound : (w : ℕ) (e : Event) → Sound (outcome w n e).node
  event-sound w (order x) = order-sound w x
  event-sound w leave = leaves-given Sound n h w sent-sound
  event-sound w (receive f) = receives-given Sound n h f (received-sound f)
  event-sound w tick = tick-sound w
