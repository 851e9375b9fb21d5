-- One walk through the events: what holds of a node after each way in which it changes, power-on aside, holds after every event but
-- power-on.
use Rattle.std.specs.Prelude.{◌≡◌, Bool, not, ◌||◌, ℕ, ◌^◌, leb, Option, Some, None}
use Rattle.std.proofs.Math.Path.{refl, subst}
use Rattle.std.proofs.Common.{ap}
use Rattle.std.proofs.Math.Dec.{ltb, eqb}
use Rattle.node.specs.Rules.{is_off, is_permitted, is_own, error_waits, tick_of, tick_at, sent_of, sent_at, sent_permitted, failed_of, failed_at, same_alias, same_alias_at, addressed, received, link_told, link_of, on_leave, on_fail, on_message, on_enquiry, on_release, on_link}
use Rattle.node.specs.Still.{taken_by}
use Rattle.node.proofs.Still.{taken-received}
use Rattle.node.proofs.Given.{either, leaves-given, fails-given, release-given, link-given, ordered-given}
use Rattle.headers.specs.declared.frame.Frame.{Frame}
use Rattle.node.specs.declared.Node.{Node}
use Rattle.state.specs.Concerns.{concern}
use Rattle.state.specs.declared.Concern.{Concern}
use Rattle.state.specs.declared.Concern.TheVariants.{SameAlias, Ame, Amd}
use Rattle.state.specs.declared.Link.{Link}
use Rattle.state.specs.declared.Reason.TheVariants.{Collision, Release}
use Rattle.state.specs.declared.Phase.{Phase}
use Rattle.state.specs.declared.Phase.TheVariants.{Off, Testing, Reserved, Permitted, Leaving, Resting, Silent}
use Rattle.node.specs.Ways.{Ways}

module _ (n : Node) (Q : Node → Type 0) (y : Ways n Q) where
  pub ticked : (w : ℕ) → Q (tick_of w n)
  unfolding tick_of
  ticked w = go n.phase refl
    where
      go : (p : Phase) → n.phase ≡ p → Q (tick_at w p n)
      go Off e = y.itself
      go (Testing s t) e = either Q (ltb s 4) _ _ (λ d. y.itself) (λ d. either Q (ltb t w) _ _ (λ d. y.by-counted (ap is_off e) _ refl) (λ d. y.itself))
      go Reserved e = y.itself
      go Permitted e = y.itself
      go (Leaving why) e = y.itself
      go Resting e = y.itself
      go Silent e = y.itself

  sent : Q (sent_of n)
  unfolding sent_of sent_permitted
  sent = go n.phase refl
    where
      go : (p : Phase) → n.phase ≡ p → Q (sent_at p n)
      go Off e = y.itself
      go (Testing s t) e = either Q (ltb s 4) _ _ (λ d. y.by-counted (ap is_off e) _ refl) (λ d. y.by-moved (ap is_off e) _ refl)
      go Reserved e = either Q n.waiting.reply _ _ (λ d. y.by-waits _) (λ d. y.by-moved (ap is_off e) _ refl)
      go Permitted e =
          either Q n.waiting.reply _ _ (λ d. y.by-waits _)
          (λ d. either Q n.waiting.amd _ _ (λ d. y.by-waits _)
          (λ d. either Q n.waiting.report _ _ (λ d. y.by-moved (ap is_off e) _ refl)
          (λ d. either Q (error_waits n.waiting.error) _ _ (λ d. y.by-waits _) (λ d. y.by-waits _))))
      go (Leaving Release) e = y.by-moved (ap is_off e) _ refl
      go (Leaving Collision) e = y.by-restart (ap is_off e)
      go Resting e = y.itself
      go Silent e = y.itself

  pub leaving : (w : ℕ) → Q (on_leave w n).node
  leaving w = leaves-given Q n y.itself w sent

  failed : Q (failed_of n)
  unfolding failed_of
  failed = go n.phase refl
    where
      go : (p : Phase) → n.phase ≡ p → Q (failed_at p n)
      go Off e = y.itself
      go (Testing s t) e = y.by-restart (ap is_off e)
      go Reserved e = y.itself
      go Permitted e = y.itself
      go (Leaving why) e = y.itself
      go Resting e = y.itself
      go Silent e = y.itself

  pub failing : (w : ℕ) → Q (on_fail w n).node
  failing w = fails-given Q n y.itself w failed

  -- a frame with its alias
  same-alias : (c : Bool) → Q (same_alias n c)
  unfolding same_alias
  same-alias c = go n.phase refl
    where
      go : (p : Phase) → n.phase ≡ p → Q (same_alias_at p c n)
      go Off e = y.itself
      go (Testing s t) e = y.by-restart (ap is_off e)
      go Reserved e = either Q c _ _ (λ d. y.by-waits _) (λ d. y.by-restart (ap is_off e))
      go Permitted e = either Q c _ _ (λ d. y.by-waits _) (λ d. y.by-moved (ap is_off e) _ refl)
      go (Leaving why) e = y.itself
      go Resting e = y.itself
      go Silent e = y.itself

  pub hearing : (f : Frame) → Q (received n f)
  unfolding addressed
  hearing f = subst Q (taken-received n f) (go (concern n.alias.0 n.phase f))
    where
      go : (c : Option Concern) → Q (taken_by c n f)
      go None = y.itself
      go (Some (SameAlias is_cid)) = same-alias is_cid
      go (Some Ame) = either Q (eqb f.len 0 || is_own n.own.id f) _ _ (λ d. y.by-waits _) (λ d. y.itself)
      go (Some Amd) = either Q (is_own n.own.id f) _ _ (λ d. y.by-waits _) (λ d. y.itself)

  pub messaging : (f l b : ℕ) → Q (on_message n f l b).node
  unfolding on_message
  messaging f l b = ordered-given Q n y.itself (leb (2 ^ 15) f || ltb 8 l) _ (λ d e. y.by-waits _)

  pub enquiring : (l b : ℕ) → Q (on_enquiry n l b).node
  unfolding on_enquiry
  enquiring l b = ordered-given Q n y.itself (not (eqb l 0 || eqb l 6)) _ (λ d e. y.by-waits _)

  pub releasing : Q (on_release n).node
  releasing = release-given Q n y.itself (λ e. y.by-moved (ap is_off e) _ refl)

  pub linking : (s : ℕ) → Q (on_link n s).node
  linking s = link-given Q n y.itself s (go (link_of s))
    where
      go : (l : Link) → Q (link_told n l)
      go l = unfold link_told in either Q (is_permitted n.phase) _ _ (λ d. y.by-told l _) (λ d. y.by-linked l)
