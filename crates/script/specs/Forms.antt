-- What the theorems of proofs/Forms.antt speak of; these definitions are to be believed.
use Rattle.std.specs.Prelude.{◌≡◌, ℕ, ◌+◌, ◌≤◌, length}
use mathlib.Core.List.{List}
use Rattle.segment_rules.specs.Rules.{Command, tick}
use Rattle.script.specs.Rules.{number, Form, operand, makes, unknown, form}

-- SIZES: where a form's operands end, 0 where it is unknown; and what it makes.

abbrev pub ends : Form → (from : ℕ) → List ℕ → ℕ
ends (operand width then) from s = ends (then (number s from width)) (from + width) s
ends (makes c) from s = from
ends unknown from s = 0

abbrev pub made : Form → (from : ℕ) → List ℕ → Command
made (operand width then) from s = made (then (number s from width)) (from + width) s
made (makes c) from s = c
made unknown from s = tick

-- So many bytes, its own included, the command with this byte takes, whatever they are; 0 where it is unknown.
pub record Takes (byte n : ℕ) : Type 0 where
  pub is : (s : List ℕ) → n ≡ ends (form byte) 1 s

-- The command with this byte is known, and s has all of it.
abbrev pub Holds : (end n : ℕ) → Type 0
Holds end n = (1 ≤ end) × (end ≤ n)

pub record Whole (byte : ℕ) (s : List ℕ) : Type 0 where
  pub is : Holds (ends (form byte) 1 s) (length s)
