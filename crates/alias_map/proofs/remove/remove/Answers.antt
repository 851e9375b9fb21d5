use Rattle.std.proofs.Common.{arith, ◌≡◌, ℕ, subst}
use Rattle.alias_map.specs.Parts.{Kept}
use Rattle.alias_map.proofs.Places.{told, kept-none, goes, stays}
use Rattle.alias_map.proofs.remove.remove.Goals.{then-not-gone, else-not-gone}
use Rattle.alias_map.proofs.remove.remove.Goals as goal

pub loop-j-init : goal.loop-j-init
loop-j-init g c = record { low = omega arith; kept = λ p h l f. kept-none p _ l _ _ c.requires.within.1 f }

pub loop-j-preserved : goal.loop-j-preserved
loop-j-preserved g c = elim c.if-not-gone.branch [
  | then-not-gone w ↦ rw (w.kept-is, w.map-is) (record {
    low = omega (arith, c.loop-j.invariant.low);
    kept = λ p h l f. stays p _ l _ _ _ (omega (arith, c.requires.within)) (c.loop-j.invariant.kept p h l f)
        (told g.F.Fn c.args.gone p _ h c.entry_in.ensures c.gone.ensures w.if-not-gone.true);
  })
  | else-not-gone w ↦ rw (w.kept-is, w.map-is) (record {
    low = omega (arith, c.loop-j.invariant.low);
    kept = λ p h l f. goes p _ l _ _ _ (omega (arith, c.requires.within)) (c.loop-j.invariant.kept p h l f)
        (told g.F.Fn c.args.gone p _ h c.entry_in.ensures c.gone.ensures w.if-not-gone.false);
  })
]

pub returns-clause-rest : goal.returns-clause-rest
returns-clause-rest g c p h = record {
  most = omega (arith, c.loop-j.invariant.low);
  kept = λ l f.
      let e : c.loop-j.j ≡ c.args.n = omega arith in
      subst (λ (m : ℕ). Kept p c.args.map.now m c.loop-j.kept c.loop-j.map) e (c.loop-j.invariant.kept p h l f);
}
