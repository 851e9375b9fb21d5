-- A search in rows: what holds between two of them and within one.
use Rattle.std.proofs.Common.{◌≡◌, ◌-◌, ◌%◌, ◌≤◌, Bool}
use Rattle.alias_map.specs.Rules.{room}
use Rattle.alias_map.specs.Parts.{Tests}
use Rattle.alias_map.specs.declared.entry.Entry.{Entry}
use Rattle.alias_map.proofs.Rows.{AtRow, InRow}
use Rattle.alias_map.proofs.search.find.Given as goal

abbrev pub invariant-loop-row : goal.invariant-loop-row
invariant-loop-row g l = record {
  whole : l.row % 8 ≡ 0;
  within : l.row ≤ room;
  at : (p : Entry → Bool) → Tests g.F.Fn l.is p → AtRow p l.map l.n l.row;
}

abbrev pub decreases-loop-row : goal.decreases-loop-row
decreases-loop-row g l = room - l.row

abbrev pub invariant-loop-i : goal.invariant-loop-i
invariant-loop-i g l = (p : Entry → Bool) → Tests g.F.Fn l.is p → InRow p l.map l.n l.row (l.i - l.row) l.i
