use Rattle.std.proofs.Common.{rules, tests, ◌≡◌, ◌≢◌, sym, ◌∙◌}
use Rattle.segment_rules.specs.Rules.{places}
use Rattle.table.specs.Places.{index_or}
use Rattle.table.proofs.Rounds.{each_next, to-sender, to-off, to-on}
use Rattle.table.proofs.broadcast.cast.Goals as goal
use Rattle.table.proofs.broadcast.cast.Goals.{else-ne-via-then-ne+else-not-is_off_at, else-ne-via-else-ne}

pub loop-to-preserved-then-not-is_off_at : goal.loop-to-preserved-then-not-is_off_at
loop-to-preserved-then-not-is_off_at c =
    let ne : c.in-Some.to.index ≢ index_or places c.args.from = search (rules, tests) in
    each_next _ _ c.loop-to.to-iterator c.next.new.self c.in-Some.to _ _ c.loop-to.invariant.0 c.in-Some.ensures.steps c.loop-to.invariant.1
    (λ h. to-on _ _ _ _ _ ne (sym c.is_off_at.ensures ∙ c.if-not-is_off_at.true) (c.push.ensures h))

pub loop-to-preserved : goal.loop-to-preserved
loop-to-preserved c =
    each_next _ _ c.loop-to.to-iterator c.next.new.self c.in-Some.to _ _ c.loop-to.invariant.0 c.in-Some.ensures.steps c.loop-to.invariant.1
    (λ h. elim c.else-ne.branch [
      | else-ne-via-then-ne+else-not-is_off_at w ↦
          let ne : c.in-Some.to.index ≢ index_or places c.args.from = search (rules, tests) in
          to-off _ _ _ _ h c.in-Some.to.inside ne (sym w.is_off_at.ensures ∙ w.if-not-is_off_at.false)
      | else-ne-via-else-ne w ↦
          let e : c.in-Some.to.index ≡ index_or places c.args.from = search (rules, tests) in
          to-sender _ _ _ _ h c.in-Some.to.inside e
    ])
