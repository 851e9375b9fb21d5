-- The promise of a read-out (A.9), which leaves every word as it was.
use mathlib.Core.Path.{◌≡◌, refl, sym, ap, ◌∙◌}
use mathlib.Core.Bool.{Bool}
use mathlib.Core.List.{List}
use Prim.Native.Nat.{ℕ, ◌<◌, ◌≤◌}
use borrow.Author.Tests.{le-leb, lt-leb}
use Rattle.node.specs.Rules.{Answer, accepted, refused, refuse, done, read_out_of}
use Rattle.node.specs.declared.Generator.{Generator}
use Rattle.segment_rules.specs.Rules.{places, Place, read_out, read_out_at, whether, given}
use Rattle.table.specs.Words.{node_at, view}
use Rattle.table.specs.WordLaws.{view-at, view-mark}
use Rattle.table.specs.Promise.{SoundWords, Carries, read}
use Rattle.table.proofs.Promised.{refuses, accepts-each}

module _ (t : List ℕ) (sound : SoundWords t) (i : ℕ) where
  by_answer : (a : Answer Generator) → read_out_at (view t) i ≡ a → Carries (read_out i) t (read a) t
  by_answer (accepted g) e =
      accepts-each (read_out i) t (read (accepted g)) done t sound refl (sym (ap given e)) (ap whether e) refl sound.held refl refl (sym (view-mark t))
      (λ k h. refl)
  by_answer (refused number) e = refuses (read_out i) t (refused number) number sound refl (ap given e) (ap whether e)

  pub out_of_range : places ≤ i → Carries (read_out i) t (read (refused 1)) t
  out_of_range h = by_answer (refused 1) (ap (λ (b : Bool). refuse b 1 (read_out_of ((view t).at i).node)) (le-leb places i h))

  pub reads-out : i < places → (a : Answer Generator) → a ≡ read_out_of (node_at t i) → Carries (read_out i) t (read a) t
  reads-out h a e =
      by_answer a
      (ap (λ (b : Bool). refuse b 1 (read_out_of ((view t).at i).node)) (lt-leb places i h) ∙ ap (λ (p : Place). read_out_of p.node) (view-at t i h) ∙ sym e)
