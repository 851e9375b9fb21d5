use Rattle.std.proofs.Common.{arith, refl, subst, ℕ, ◌+◌}
use Rattle.alias_map.proofs.Places.{told, found_none, found-hit}
use Rattle.alias_map.proofs.Rows.{AtRow, InRow, starts-row, goes_on, ends-row, met-none, met-hit}
use Rattle.alias_map.proofs.search.find.Goals.{then-i-n, else-i-n}
use Rattle.alias_map.proofs.search.find.Goals as goal

pub loop-row-init : goal.loop-row-init
loop-row-init g c = record { whole = refl; within = omega arith; at = λ p h. (c.requires.few, refl, λ k l. absurd (omega arith)) }

pub loop-i-init : goal.loop-i-init
loop-i-init g c p h =
    let row = c.loop-row.row in
    subst (λ (j : ℕ). InRow p c.args.map.now c.args.n row j row) (omega arith)
    (starts-row p c.args.map.now _ _ c.loop-row-test.true (c.loop-row.invariant.at p h))

pub returns-then-is-clause-first : goal.returns-then-is-clause-first
returns-then-is-clause-first g c p h =
    let here = told g.F.Fn c.args.is p _ h c.entry_in.ensures c.is.ensures c.if-is.true in
    let before = (c.loop-i.invariant p h).4 in
    elim c.if-i-n.branch [
      | then-i-n w ↦ rw w.result-is (found-hit p c.args.map.now _ _ w.if-i-n.true before here)
      | else-i-n w ↦ rw w.result-is (found_none p c.args.map.now _ _ w.if-i-n.false before)
    ]

pub returns-then-is-clause-compared : goal.returns-then-is-clause-compared
returns-then-is-clause-compared g c p h =
    let here = told g.F.Fn c.args.is p _ h c.entry_in.ensures c.is.ensures c.if-is.true in
    let before = (c.loop-i.invariant p h).4 in
    elim c.if-i-n.branch [
      | then-i-n w ↦ rw w.result-is (met-hit p c.args.map.now _ _ before here)
      | else-i-n w ↦ rw w.result-is (met-none p c.args.map.now _ _ w.if-i-n.false before)
    ]

pub loop-i-preserved : goal.loop-i-preserved
loop-i-preserved g c p h =
    let past = told g.F.Fn c.args.is p _ h c.entry_in.ensures c.is.ensures c.if-is.false in
    subst (λ (j : ℕ). InRow p c.args.map.now c.args.n c.loop-row.row j (c.loop-i.i + 1)) (omega arith)
    (goes_on p c.args.map.now _ _ _ _ (omega arith) past (c.loop-i.invariant p h))

pub loop-row-preserved : goal.loop-row-preserved
loop-row-preserved g c = record {
  whole = omega (arith, c.loop-row.invariant.whole);
  within = omega (arith, c.loop-row.invariant.whole);
  at = λ p h. subst (AtRow p c.args.map.now _) (omega arith) (ends-row p c.args.map.now _ _ _ _ (omega arith) (c.loop-i.invariant p h));
}

pub returns-clause-first : goal.returns-clause-first
returns-clause-first g c p h = found_none p c.args.map.now _ _ c.loop-row-test.false (c.loop-row.invariant.at p h).2

pub returns-clause-compared : goal.returns-clause-compared
returns-clause-compared g c p h = met-none p c.args.map.now _ _ c.loop-row-test.false (c.loop-row.invariant.at p h).2
