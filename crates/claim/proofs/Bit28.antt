-- A.5 over lists that the code carried out: nodes send bit 28 as 1, and what foreign equipment sends there changes nothing but
-- that bit of frames in inboxes.
use Rattle.std.specs.Prelude.{◌≡◌, not, List, ℕ, ◌<◌}
use Rattle.std.proofs.Common.{sym, ap, subst, ◌∙◌}
use Rattle.headers.specs.Rules.{bit_in}
use Rattle.headers.specs.declared.frame.Frame.{Frame}
use Rattle.node.specs.Rules.{wait, next, due_of}
use Rattle.node.proofs.Laws.{sends-28-as-1}
use Rattle.segment_rules.specs.Rules.{places, limit, Command, start, Told, run}
use Rattle.segment_rules.specs.ListsBut28.{ListsBut28, InboxesBut28}
use Rattle.segment_rules.proofs.ListsBut28.{ignores-28}
use Rattle.table.specs.Words.{node_at}
use Rattle.claim.proofs.Runs.{sound-run}
use Rattle.claim.specs.Claim.{Carried}
use Rattle.claim.proofs.Claim.{claim}
use Rattle.claim.specs.Bit28.{CarriedBut28}

-- Nodes send 1: every frame that is due at any node after any list.
pub due-28-is-1 : {cs : List Command} {xs : List Told} {t : List ℕ} → Carried cs xs t
    → (k : ℕ) → k < places → (f : Frame) → due_of wait (node_at t k) ≡ next f → bit_in f.header ≡ 1
due-28-is-1 {cs} r k h f e =
    sends-28-as-1 ((run start cs).at k).node (sound-run cs k) wait f (ap (due_of wait) (sym ((claim r).nodes k h)) ∙ e)

pub ignored : {cs ds : List Command} {xs ys : List Told} {t u : List ℕ} → Carried cs xs t → Carried ds ys u → ListsBut28 cs ds
    → CarriedBut28 xs ys t u
ignored r s b =
    let c = claim r in
    let d = claim s in
    let e = ignores-28 b in
    record {
      answered = c.answered ∙ e.answers ∙ sym d.answered;
      nodes = λ k h. c.nodes k h ∙ (e.segments.at k).node ∙ sym (d.nodes k h);
      inboxes = λ k h. alike (c.inboxes k h) (d.inboxes k h) (e.segments.at k).inbox;
      mark = c.mark ∙ e.segments.mark ∙ sym d.mark;
      late = c.late ∙ ap not (e.kept limit limit) ∙ sym d.late;
    }
  where
    alike : {fs gs fs' gs' : List Frame} → fs ≡ fs' → gs ≡ gs' → InboxesBut28 fs' gs' → InboxesBut28 fs gs
    alike {fs} {gs} {fs'} p q x =
        subst (λ (l : List Frame). InboxesBut28 l gs) (sym p) (subst (λ (l : List Frame). InboxesBut28 fs' l) (sym q) x)
