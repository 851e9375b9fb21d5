-- After a kept list no two nodes use one alias, and no two due frames with one header differ in data.
use Rattle.std.specs.Prelude.{◌≡◌, ◌≢◌, ℕ, ◌+◌, ◌*◌, ◌<◌}
use Rattle.std.proofs.Math.Path.{refl}
use Rattle.std.proofs.Common.{sym, subst}
use Rattle.std.proofs.Math.Bool.{true}
use mathlib.Core.List.{List}
use borrow.Author.Tests.{lt-ltb}
use Rattle.node.specs.Rules.{wait, uses, next, due_of}
use Rattle.node.proofs.Laws.{due-frame, same-data}
use Rattle.node.specs.Stand.{stand, Uses}
use Rattle.node.proofs.EventLaws.{uses-stand}
use Rattle.headers.specs.declared.frame.Frame.{Frame}
use Rattle.node.specs.declared.Node.{Node}
use Rattle.segment_rules.specs.Rules.{places, start, Command, run, ticks, aged, no_ages, is_kept}
use Rattle.claim.proofs.Runs.{sight_at, start-inv, run-inv, sound-start, sound-run}

-- THE THEOREM, for all limits under which both sums stay below the wait

module _ (i o : ℕ) (fits : 2 * i + o < wait) (fits' : i + 2 * o < wait) (cs : List Command) (e : is_kept i o cs ≡ true)
    (p q : ℕ) (hp : p < places) (hq : q < places) (ne : p ≢ q) where
  abbrev P : Node
  P = ((run start cs).at p).node

  abbrev Q : Node
  Q = ((run start cs).at q).node

  -- no two nodes use one alias
  pub single : uses P.phase ≡ true → uses Q.phase ≡ true → P.alias.0 ≢ Q.alias.0
  single u v x =
      let b = P.alias.0 in
      (run-inv i o b fits fits' cs start no_ages sound-start (λ k. refl) (start-inv i o b) e).single p q ne
      (at_place p hp b (uses-stand P u))
      (at_place q hq b (subst (λ (y : ℕ). Uses (stand Q y)) (sym x) (uses-stand Q v)))
    where
      at_place : (k : ℕ) → k < places → (b : ℕ) → Uses (stand ((run start cs).at k).node b)
          → Uses (sight_at i o b (run start cs) (aged ticks start no_ages cs) k).stand
      at_place k h b u = rw (lt-ltb k places h) u

  -- two due frames with one header have the same data
  pub one-meaning : (f g : Frame) → due_of wait P ≡ next f → due_of wait Q ≡ next g → f.header ≡ g.header
      → (f.len ≡ g.len) × (f.bytes ≡ g.bytes)
  one-meaning f g ef eg x =
      same-data P Q f g (due-frame P (sound-run cs p) wait f ef) (due-frame Q (sound-run cs q) wait g eg) x single
