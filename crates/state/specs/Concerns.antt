-- Which ticks and frames can change a node: a tick that counts in its phase, a frame of which something concerns it.
use Rattle.std.specs.Prelude.{true, Option, Some, None, Bool, false, cond, ℕ, ltb, eqb}
use Rattle.state.specs.Rules.{alias_in, kind_in, Kind, cid, rid, amd, ame, amr, error_report, reserved, message_kind, is_permitted, is_cid}
use Rattle.headers.specs.declared.frame.Frame.{Frame}
use Rattle.state.specs.declared.Concern.{Concern}
use Rattle.state.specs.declared.Concern.TheVariants.{SameAlias, Ame, Amd}
use Rattle.state.specs.declared.Phase.{Phase}
use Rattle.state.specs.declared.Phase.TheVariants.{Off, Testing, Reserved, Permitted, Leaving, Resting, Silent}

abbrev pub counts : (wait : ℕ) → Phase → Bool
counts w Off = false
counts w (Testing sent ticks) = cond (ltb sent 4) false (ltb ticks w)
counts w Reserved = false
counts w Permitted = false
counts w (Leaving why) = false
counts w Resting = false
counts w Silent = false

-- What of a frame concerns a Permitted node, under another alias: that it is an AME or an AMD.
abbrev pub kind_concern : Kind → Option Concern
kind_concern (cid number section) = None
kind_concern rid = None
kind_concern amd = Some Amd
kind_concern ame = Some Ame
kind_concern amr = None
kind_concern (error_report number) = None
kind_concern reserved = None
kind_concern message_kind = None

unfoldable pub concern : (alias : ℕ) → Phase → Frame → Option Concern
concern a p f =
    cond (eqb f.kind 0)
    (cond (eqb (alias_in f.header) a)
    (Some (SameAlias (is_cid (kind_in f.header))))
    (cond (is_permitted p) (kind_concern (kind_in f.header)) None))
    None

abbrev pub is_nothing : Option Concern → Bool
is_nothing None = true
is_nothing (Some c) = false
