-- Laws of one node: what it has due, and how each event changes what it does on the bus.
use Rattle.std.specs.Prelude.{◌≡◌, refl, ◌≢◌, ◌⊎◌, Bool, true, false, cond, ℕ, ◌+◌, ◌*◌, ◌/◌, ◌%◌, ◌^◌, ◌<◌, ◌≤◌, ltb, Option, Some, None}
use Rattle.std.proofs.Common.{sym, ◌∙◌, inl, inr, true≢false, arith, lt-ltb}
use Rattle.std.proofs.Math.Path.{ap, subst}
use Rattle.std.proofs.lemmas.Bool.{false≢true}
use Rattle.headers.specs.Cases.{is-cid}
use Rattle.state.specs.Sent.{sent-kind}
pub use Rattle.headers.proofs.Laws.{neither}
use Rattle.headers.specs.Rules.{bit_in, kind_of}
use Rattle.node.specs.Rules.{sent_header, alias_in, kind_in, uses, Due, nothing, next, bare, cid_field, cid_frame, rid_frame, amd_frame, amr_frame, report_frame, error_frame, error_waits, error_due, host_due, first_waiting, due_at, due_of, is_cid}
use Rattle.node.specs.Sound.{HostFits, Sound}
use Rattle.node.proofs.Sound.{formed}
use Rattle.headers.specs.declared.frame.Frame.{Frame}
use Rattle.node.specs.declared.Node.{Node}
use Rattle.state.specs.declared.Phase.{Phase}
use Rattle.state.specs.declared.Phase.TheVariants.{Off, Testing, Reserved, Permitted, Leaving, Resting, Silent}
use Rattle.state.specs.declared.Waiting.{Waiting}
use Rattle.state.specs.declared.Error.{Error}
use Rattle.state.specs.declared.Error.TheVariants.{Report0, Report1, Report2, Report3}
use Rattle.state.specs.declared.Host.{Host}
use Rattle.state.specs.declared.Host.TheVariants.{Message, Enquiry}
use Rattle.node.specs.Laws.{is_bare, DueFrame}

pub cid-field : (id sent : ℕ) → (0x1000 ≤ cid_field id sent) × (cid_field id sent < 2 ^ 15)
cid-field id sent = go (ltb sent 1) (ltb sent 2) (ltb sent 3)
  where
    go : (a b c : Bool) →
        let f = cond a 7 (cond b 6 (cond c 5 4)) * 2 ^ 12
        + cond a (id / 2 ^ 36 % 2 ^ 12) (cond b (id / 2 ^ 24 % 2 ^ 12) (cond c (id / 2 ^ 12 % 2 ^ 12) (id % 2 ^ 12))) in
        (0x1000 ≤ f) × (f < 2 ^ 15)
    go true b c = omega arith
    go false true c = omega arith
    go false false true = omega arith
    go false false false = omega arith

-- what the node has due in Testing, before the four CIDs have left
pub cid-due : (w : ℕ) (n : Node) (sent ticks : ℕ) → n.phase ≡ Testing sent ticks → sent < 4 → due_of w n ≡ next (cid_frame n.own.id n.alias.0 sent)
unfolding due_of
cid-due w n s t e h = ap (λ (p : Phase). due_at w p n) e ∙ simp (lt-ltb s 4 h)

module _ (n : Node) (h : Sound n) where
  -- it is a CID
  pub cid-kind : (sent : ℕ) → is_cid (kind_in (cid_frame n.own.id n.alias.0 sent).header) ≡ true
  unfolding cid_frame
  cid-kind s =
      let f = cid-field n.own.id s in
      let k = sent-kind 0 (cid_field n.own.id s) n.alias.0 (omega arith) f.1 h.alias in
      ap is_cid (k ∙ is-cid (cid_field n.own.id s) f.0 f.1)

  bare-fits : (f : ℕ) → f < 2 ^ 15 → is_bare (kind_of 0 f) ≡ true → DueFrame n (bare (sent_header 0 f n.alias.0))
  bare-fits f hf e = record {
    formed = formed 0 f n.alias.0 0 0 (omega arith) hf h.alias (omega arith);
    meaning = inl (ap is_bare (sent-kind 0 f n.alias.0 (omega arith) hf h.alias) ∙ e, refl, refl);
  }

  used-fits : (t f l b : ℕ) → t < 2 → f < 2 ^ 15 → l ≤ 8 → is_bare (kind_of t f) ≡ false → uses n.phase ≡ true
      → DueFrame n (record { kind = 0; header = sent_header t f n.alias.0; len = l; bytes = b })
  used-fits t f l b ht hf hl e u = record {
    formed = formed t f n.alias.0 l b ht hf h.alias hl;
    meaning = inr (ap is_bare (sent-kind t f n.alias.0 ht hf h.alias) ∙ e, u);
  }

  abbrev DueFits : Due → Type 0
  DueFits nothing = Unit {0}
  DueFits (next f) = DueFrame n f

  -- an error report is neither CID nor RID
  report-fits : (k : ℕ) → k < 4 → is_bare (kind_of 0 (0x0710 + k)) ≡ false → uses n.phase ≡ true → DueFrame n (error_frame k n.own.id n.alias.0)
  unfolding error_frame
  report-fits k h e u = used-fits 0 (0x0710 + k) _ _ (omega arith) (omega arith) (omega arith) e u

  error-fits : (e : Option Error) → uses n.phase ≡ true → DueFits (error_due e n.own.id n.alias.0)
  error-fits None u = tt
  error-fits (Some Report0) u = report-fits 0 (omega arith) refl u
  error-fits (Some Report1) u = report-fits 1 (omega arith) refl u
  error-fits (Some Report2) u = report-fits 2 (omega arith) refl u
  error-fits (Some Report3) u = report-fits 3 (omega arith) refl u

  host-fits : (x : Option Host) → HostFits x → uses n.phase ≡ true → DueFits (host_due x n.alias.0)
  host-fits None y u = tt
  host-fits (Some (Message f l b)) y u = used-fits 1 f l b (omega arith) y.0 y.1 refl u
  host-fits (Some (Enquiry l b)) y u = used-fits 0 0x0702 l b (omega arith) (omega arith) y refl u

  pub due-frame : (wait : ℕ) (f : Frame) → due_of wait n ≡ next f → DueFrame n f
  unfolding due_of first_waiting cid_frame rid_frame amd_frame amr_frame report_frame
  due-frame wait f e = subst DueFits e (go n.phase (λ u. u))
    where
      w : Waiting
      w = n.waiting

      taken : (b : Bool) (x y : Due) → DueFits x → DueFits y → DueFits (cond b x y)
      taken true x y p q = p
      taken false x y p q = q

      asks : (sent : ℕ) → DueFits (next (cid_frame n.own.id n.alias.0 sent))
      asks s =
          let f = cid_field n.own.id s in
          let c = cid-field n.own.id s in
          bare-fits f c.1 (ap is_bare (is-cid f c.0 c.1))

      reserves : DueFits (next (rid_frame n.alias.0))
      reserves = bare-fits 0x0700 (omega arith) refl

      defines : uses n.phase ≡ true → DueFits (next (amd_frame n.own.id n.alias.0))
      defines u = used-fits 0 0x0701 _ _ (omega arith) (omega arith) (omega arith) refl u

      go : (p : Phase) → (uses p ≡ true → uses n.phase ≡ true) → DueFits (due_at wait p n)
      go Off u = tt
      go (Testing s t) u = taken (ltb s 4) _ _ (asks s) (taken (ltb t wait) _ _ tt reserves)
      go Reserved u =
          taken w.reply _ _ reserves (defines (u refl))
      go Permitted u =
          taken w.reply _ _ reserves
          (taken w.amd _ _ (defines (u refl))
          (taken w.report _ _ (used-fits 1 0x15B4 _ _ (omega arith) (omega arith) (omega arith) refl (u refl))
          (taken (error_waits w.error) _ _ (error-fits w.error (u refl))
          (host-fits w.host h.host (u refl)))))
      go (Leaving y) u = used-fits 0 0x0703 _ _ (omega arith) (omega arith) (omega arith) refl (u refl)
      go Resting u = tt
      go Silent u = tt

-- A.5: nodes send bit 28 as 1, whatever frame is due
pub sends-28-as-1 : (n : Node) → Sound n → (wait : ℕ) (f : Frame) → due_of wait n ≡ next f → bit_in f.header ≡ 1
sends-28-as-1 n h wait f e = (due-frame n h wait f e).formed.bit

-- two due frames with one header have the same data, unless both nodes use one alias
pub same-data : (n m : Node) (f g : Frame) → DueFrame n f → DueFrame m g → f.header ≡ g.header
    → (uses n.phase ≡ true → uses m.phase ≡ true → n.alias.0 ≢ m.alias.0)
    → (f.len ≡ g.len) × (f.bytes ≡ g.bytes)
same-data n m f g x y e apart = go x.meaning y.meaning
  where
    kinds : is_bare (kind_in f.header) ≡ is_bare (kind_in g.header)
    kinds = ap (λ (h : ℕ). is_bare (kind_in h)) e

    aliases : n.alias.0 ≡ m.alias.0
    aliases = sym x.formed.alias ∙ ap alias_in e ∙ y.formed.alias

    go : ((is_bare (kind_in f.header) ≡ true) × (f.len ≡ 0) × (f.bytes ≡ 0))
        ⊎ ((is_bare (kind_in f.header) ≡ false) × (uses n.phase ≡ true))
        → ((is_bare (kind_in g.header) ≡ true) × (g.len ≡ 0) × (g.bytes ≡ 0))
        ⊎ ((is_bare (kind_in g.header) ≡ false) × (uses m.phase ≡ true))
        → (f.len ≡ g.len) × (f.bytes ≡ g.bytes)
    go (inl p) (inl q) = (p.1 ∙ sym q.1, p.2 ∙ sym q.2)
    go (inl p) (inr q) = absurd (true≢false (sym p.0 ∙ kinds ∙ q.0))
    go (inr p) (inl q) = absurd (false≢true (sym p.0 ∙ kinds ∙ q.0))
    go (inr p) (inr q) = absurd (apart p.1 q.1 aliases)
