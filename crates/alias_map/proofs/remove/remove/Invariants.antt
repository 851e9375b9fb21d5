-- Of the entries that were looked at those stand in the first places that stay.
use Rattle.std.proofs.Common.{◌≡◌, ◌≤◌, Bool, length}
use Rattle.alias_map.specs.Words.{words}
use Rattle.alias_map.specs.Parts.{Tests, Found, Kept}
use Rattle.alias_map.specs.declared.entry.Entry.{Entry}
use Rattle.alias_map.proofs.remove.remove.Given as goal

abbrev pub invariant-loop-j : goal.invariant-loop-j
invariant-loop-j g l = record {
  low : l.kept ≤ l.j;
  kept : (p : Entry → Bool) → Tests g.F.Fn l.gone p
      → length l.initial.map ≡ words → Found p l.initial.map l.n l.i → Kept p l.initial.map l.j l.kept l.map;
}
