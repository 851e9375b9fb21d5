-- What words say of a frame, of a node and of ages, whatever the words are. Where they stand in a segment is said above.
use Rattle.std.specs.Prelude.{Option, Some, None, ◌≡◌, ℕ, ◌+◌, ◌-◌, ◌/◌, ◌%◌, ◌^◌, Bool, cond, ltb, eqb}
use Rattle.node.specs.Rules.{link_of, generator}
use Rattle.headers.specs.declared.alias.Alias.{Alias}
use Rattle.headers.specs.declared.frame.Frame.{Frame}
use Rattle.node.specs.declared.Node.{Node}
use Rattle.state.specs.declared.Phase.{Phase}
use Rattle.state.specs.declared.Phase.TheVariants.{Off, Testing, Reserved, Permitted, Leaving, Resting, Silent}
use Rattle.state.specs.declared.Reason.TheVariants.{Collision, Release}
use Rattle.state.specs.declared.Waiting.{Waiting}
use Rattle.state.specs.declared.Link.{Link}
use Rattle.state.specs.declared.Error.{Error}
use Rattle.state.specs.declared.Error.TheVariants.{Report0, Report1, Report2, Report3}
use Rattle.state.specs.declared.Host.{Host}
use Rattle.state.specs.declared.Host.TheVariants.{Message, Enquiry}
use Rattle.state.specs.declared.Timed.{Timed}
use Rattle.state.specs.declared.Timed.TheVariants.{Reply, Amr}

-- A FRAME

unfoldable pub frame_from : ℕ → ℕ → Frame
frame_from w d = record { kind = w % 2 ^ 8; header = w / 2 ^ 16 % 2 ^ 32; len = w / 2 ^ 8 % 2 ^ 8; bytes = d }

-- A NODE

abbrev pub phase_from : (tag sent ticks : ℕ) → Phase
phase_from tag sent ticks =
    cond (ltb tag 1) Off
    (cond (ltb tag 2) (Testing sent ticks)
    (cond (ltb tag 3) Reserved
    (cond (ltb tag 4) Permitted
    (cond (ltb tag 5) (Leaving Collision)
    (cond (ltb tag 6) (Leaving Release)
    (cond (ltb tag 7) Resting Silent))))))

unfoldable pub phase_at : ℕ → Phase
phase_at w = phase_from (w % 8) (w / 8 % 256) (w / 2048 % 256)

abbrev pub host_from : (tag field len bytes : ℕ) → Option Host
host_from tag field len d = cond (ltb tag 1) None (cond (ltb tag 2) (Some (Message field len d)) (Some (Enquiry len d)))

unfoldable pub host_at : ℕ → ℕ → Option Host
host_at w d = host_from (w % 2 ^ 8) (w / 2 ^ 16 % 2 ^ 16) (w / 2 ^ 8 % 2 ^ 8) d

abbrev pub host_bytes : Option Host → ℕ
host_bytes None = 0
host_bytes (Some (Message field len bytes)) = bytes
host_bytes (Some (Enquiry len bytes)) = bytes

abbrev pub alias_from : ℕ → Alias
alias_from w = record { 0 = w % 2 ^ 16 }

abbrev pub phase_in : ℕ → Phase
phase_in w = phase_at (w / 2 ^ 25 % 2 ^ 19)

abbrev pub reply_in : ℕ → Bool
reply_in w = eqb (w / 2 ^ 16 % 2) 1

abbrev pub error_from : (tag : ℕ) → Option Error
error_from tag =
    cond (ltb tag 1) None
    (cond (ltb tag 2) (Some Report0)
    (cond (ltb tag 3) (Some Report1)
    (cond (ltb tag 4) (Some Report2) (Some Report3))))

abbrev pub waiting_from : ℕ → Option Host → Waiting
waiting_from w h = record {
  reply = reply_in w;
  amd = eqb (w / 2 ^ 17 % 2) 1;
  report = eqb (w / 2 ^ 18 % 2) 1;
  error = error_from (w / 2 ^ 19 % 8);
  host = h;
}

abbrev pub link_in : ℕ → Link
link_in w = link_of (w / 2 ^ 22 % 4)

-- A.9: whether the first alias is past
abbrev pub past_in : ℕ → Bool
past_in w = eqb (w / 2 ^ 24 % 2) 1

-- How many words hold a node, and the node that they hold, by the number of each.
abbrev pub node_words : ℕ
node_words = 5

abbrev pub node_from : (ℕ → ℕ) → Node
node_from w = record {
  own = record { id = w 0; link = link_in (w 2) };
  generator = generator (w 1) (past_in (w 2));
  alias = alias_from (w 2);
  phase = phase_in (w 2);
  waiting = waiting_from (w 2) (host_at (w 3) (w 4));
}

-- A word that says a node's link state, alias, whether its first alias is past, its phase and what waits at it but the host frame.
pub record StateOf (n : Node) (w : ℕ) : Type 0 where
  pub link : link_in w ≡ n.own.link
  pub alias : alias_from w ≡ n.alias
  pub past : past_in w ≡ n.generator.past
  pub phase : phase_in w ≡ n.phase
  pub waiting : waiting_from w n.waiting.host ≡ n.waiting

-- The word w says so, and r says the same but for the phase, which is p.
pub record Rephased (w : ℕ) (p : Phase) (r : ℕ) : Type 0 where
  pub link : link_in r ≡ link_in w
  pub alias : alias_from r ≡ alias_from w
  pub past : past_in r ≡ past_in w
  pub phase : phase_in r ≡ p
  pub waiting : (h : Option Host) → waiting_from r h ≡ waiting_from w h

-- AGES

-- The clock counts ticks, and goes round. A stamp is what it read when an age began.
abbrev pub round : ℕ
round = 2 ^ 16

abbrev pub stamp_in : ℕ → ℕ
stamp_in w = w / 2 ^ 48 % round

-- The ticks from a stamp to a reading of the clock.
abbrev pub since : (clock stamp : ℕ) → ℕ
since c s = (c % round + round - s % round) % round

-- An age is there where a reply RID or AMR waits.
abbrev pub timed_age : Option Timed → ℕ → ℕ
timed_age None g = 0
timed_age (Some Reply) g = g
timed_age (Some Amr) g = g

-- The stamp after an event: it stays where the same frame still waits for the alias, else an age begins now.
abbrev pub stamp_on : (was is : Option Timed) → (stamp clock : ℕ) → ℕ
stamp_on None is s c = c
stamp_on (Some Reply) None s c = c
stamp_on (Some Reply) (Some Reply) s c = s
stamp_on (Some Reply) (Some Amr) s c = c
stamp_on (Some Amr) None s c = c
stamp_on (Some Amr) (Some Reply) s c = c
stamp_on (Some Amr) (Some Amr) s c = s
