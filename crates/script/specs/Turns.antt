-- What the theorems of proofs/Turns.antt speak of; these definitions are to be believed.
use Rattle.std.specs.Prelude.{◌≡◌, ℕ, ◌+◌, ◌-◌, ◌≤◌, true, Bool, cond, List, ◌++◌, length, drop}
use Rattle.std.proofs.Math.Bool.{false}
use Rattle.text.specs.Rules.{sheet, write}
use Rattle.segment_rules.specs.Rules.{limit, start, Command, Told, run, is_kept}
use Rattle.claim.specs.Claim.{Carried}
use Rattle.script.specs.Rules.{Found, read_of, Script, end, script_of, listed, lines, last_line, output}
use Rattle.script.specs.Scripts.{taken}
use Rattle.text.specs.declared.buffer.Sheet as S

-- Where a run stands: how many commands have their line, the place in the buffer, and whether there may be more to read.
pub record Progress : Type 0 where
  pub done : ℕ
  pub place : ℕ
  pub more : Bool

-- What the commands cs leave to write, count of them done, where s comes next.
unfoldable pub ahead : List Command → (count : ℕ) → Script → List ℕ
ahead cs count s = lines (run start cs) (count + 1) s ++ last_line (is_kept limit limit (cs ++ listed s))

abbrev pub rest : List ℕ → (at : ℕ) → Progress → Script
rest script at p = cond p.more (script_of (drop at script)) end

-- The run of a script stands at p, and its reader at a place, with the words t and the buffer out, which was old at its
-- start: it has carried out a list of commands, and its text is on its way.
pub record Going (script old : List ℕ) (at : ℕ) (p : Progress) (t out : List ℕ) : Type 0 where
  pub commands : List Command
  pub answers : List Told
  pub made : Carried commands answers t
  pub text : write (sheet out p.place) (ahead commands p.done (rest script at p)) ≡ write (sheet old 0) (output script)

-- A turn with what was read, f, leads from p, t and out to q, t' and out', where f stands at the reader's place.
pub record Turned (p : Progress) (f : Found) (t out : List ℕ) (q : Progress) (t' out' : List ℕ) : Type 0 where
  pub goes : (script : List ℕ) {old : List ℕ} (at : ℕ) → p.more ≡ true → f ≡ read_of (drop at script)
      → Going script old at p t out → Going script old (at + taken f) q t' out'
  pub further : (script : List ℕ) (at : ℕ) → f ≡ read_of (drop at script)
      → q.more ≡ true → (q.done ≡ p.done + 1) × ((1 ≤ taken f) × (taken f ≤ length (drop at script)))

-- A script is read to its end.
pub record Through (script old : List ℕ) (p : Progress) (t out : List ℕ) : Type 0 where
  pub at : ℕ
  pub going : Going script old at p t out
  pub last : p.more ≡ false

-- The code's run on a sheet has read its script to the end.
pub record Ended (script : List ℕ) (s : S.Sheet) (t : List ℕ) (s' : S.Sheet) : Type 0 where
  pub done : ℕ
  pub same : s'.out.ghost_name ≡ s.out.ghost_name
  pub through : Through script s.out.now (record { done = done; place = s'.at; more = false }) t s'.out.now

-- THE LOOP

-- Where a run stands between two turns.
pub record Standing (script old : List ℕ) (at : ℕ) (p : Progress) (t out : List ℕ) : Type 0 where
  pub going : Going script old at p t out
  pub within : at ≤ length script
  pub counted : p.more ≡ true → p.done ≤ at

abbrev pub begin : Progress
begin = record { done = 0; place = 0; more = true }

-- How many bytes are left, and one more while there may be more.
abbrev pub left : List ℕ → (at : ℕ) → Progress → ℕ
left script at p = cond p.more (1 + (length script - at)) 0
