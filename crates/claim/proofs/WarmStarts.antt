-- A.9 over lists that the code carried out: what is read out and given back brings the alias that the node had; and command 0A with
-- flag 0 does to every table what command 01 does.
use Rattle.std.specs.Prelude.{◌≡◌, refl, ◌≢◌, Bool, true, false, not, ◌&&◌, ◌||◌, List, ℕ, ◌<◌, leb, eqb}
use Rattle.std.proofs.Common.{sym, ap, subst, ◌∙◌, true≢false, leb-false, eqb-true}
use Rattle.headers.proofs.Laws.{passed}
use Rattle.node.specs.Rules.{Answer, accepted, refused, done, is_off, fresh, read_out_of}
use Rattle.node.specs.Sound.{Sound}
use Rattle.node.specs.declared.Generator.{Generator}
use Rattle.node.specs.declared.Node.{Node}
use Rattle.segment_rules.specs.Rules.{places, limit, Place, Segment, Command, power_on, read_out, warm_on, some_other, has_id, read_out_at, Besides, plain, chose, gave, given, Told, old}
use Rattle.segment_rules.proofs.Others.{no_other}
use Rattle.segment_rules.specs.WarmStarts.{Same, back, Returns}
use Rattle.segment_rules.proofs.WarmStarts.{flag-0, given_back}
use Rattle.table.specs.Words.{node_at, place_of, cell_at, late_of, view, view_ages}
use Rattle.table.specs.WordLaws.{view-at}
use Rattle.table.specs.Promise.{all_around, SoundWords, Carries, Tells, plainly, read}
use Rattle.claim.proofs.Runs.{sound-run}
use Rattle.claim.specs.Claim.{Carried}
use Rattle.claim.proofs.Claim.{follows}
use Rattle.claim.specs.WarmStarts.{FreeFor}

-- what was told of a read-out that gave g
told-out : (g : Generator) (a : Answer Generator) → gave g ≡ given a → a ≡ accepted g
told-out g (accepted h) e = ap accepted (sym (ap in-it e))
  where
    in-it : Besides → Generator
    in-it plain = g
    in-it (chose x) = g
    in-it (gave y) = y
told-out g (refused number) e = absurd (true≢false (ap gives e))
  where
    gives : Besides → Bool
    gives plain = false
    gives (chose x) = false
    gives (gave y) = true

without : (id : ℕ) (p : Place) → (is_off p.node.phase ≡ false → p.node.own.id ≢ id) → has_id id p ≡ false
without id p h = go (eqb p.node.own.id id) (is_off p.node.phase) refl refl
  where
    go : (b off : Bool) → eqb p.node.own.id id ≡ b → is_off p.node.phase ≡ off → (b && not off) ≡ false
    go true true e f = refl
    go true false e f = absurd (h f (eqb-true p.node.own.id id e))
    go false off e f = refl

-- A list left the words t, and of place i this was read out. A list left the words u, be it the same one gone on with through any
-- commands, or another, after the switch-off; and there place j is free for the Node ID. What was read out is given back at place j: it
-- is accepted, and the node there tests the alias that the node at place i had, from its first CID on, with its Node ID and generator.
pub comes_back : {cs ds : List Command} {xs ys : List Told} {t u : List ℕ} → Carried cs xs t → Carried ds ys u
    → (i j : ℕ) (g : Generator) {t' : List ℕ} → Tells (read_out i) t (read (accepted g)) t'
    → j < places → FreeFor (node_at t i).own.id j u → {x : Told} {v : List ℕ} → Tells (back j (node_at t i).own.id g) u x v
    → (x ≡ plainly (accepted done)) × (node_at v j ≡ fresh (node_at t i).own.id (node_at t i).alias g)
comes_back {cs} {ds} {xs} {ys} {t} {u} r s i j g {t'} d hj free {x} {v} e = (
  E.answered ∙ (λ z. record { answer = B.accepted z; besides = plain }),
  ap (λ (p : Place). p.node) (sym (view-at v j hj) ∙ ap (λ (S : Segment). S.at j) E.table ∙ B.place),
)
  where
    out : read_out_at (view t) i ≡ accepted g
    out = told-out g (read_out_at (view t) i) (ap (λ (y : Told). y.besides) (d (follows r).sound).answered)

    inside : i < places
    inside = leb-false places i (passed (leb places i) 1 (read_out_of ((view t).at i).node) g out).0

    seen : ((view t).at i).node ≡ node_at t i
    seen = ap (λ (p : Place). p.node) (view-at t i inside)

    sound : Sound ((view t).at i).node
    sound = subst (λ (S : Segment). Sound (S.at i).node) (sym (follows r).table) (sound-run cs i)

    none : (k : ℕ) → k < places → k ≢ j → has_id (node_at t i).own.id ((view u).at k) ≡ false
    none k hk ne = ap (has_id (node_at t i).own.id) (view-at u k hk) ∙ without (node_at t i).own.id (place_of (cell_at u k)) (free k hk ne)

    B : Returns (view u) j (node_at t i) g
    B = subst (λ (n : Node). Returns (view u) j n g) seen
        (given_back (view t) (view u) i j g sound out hj (ap (λ (n : Node). some_other (has_id n.own.id) j places (view u)) seen ∙ no_other (has_id (node_at t i).own.id) j (view u) places none))

    E : Carries (back j (node_at t i).own.id g) u x v
    E = e (follows s).sound

-- Commands 01 and 0A with flag 0, on one table: the same answer, nodes, inboxes and mark, ages, and lateness.
pub flag-0-as-power-on : (n id y : ℕ) {t u v : List ℕ} {a b : Told} → SoundWords t → Tells (warm_on n id 0 y) t a u → Tells (power_on n id) t b v
    → (a ≡ b) × (view u ≡ view v) × (view_ages u ≡ view_ages v) × (late_of u ≡ late_of v)
flag-0-as-power-on n id y {t} {u} {v} {a} {b} s d e = (
  D.answered ∙ F.told ∙ sym E.answered,
  tables,
  later,
  D.late ∙ (λ z. late_of t || old limit limit places (tables z) (later z)) ∙ sym E.late,
)
  where
    D : Carries (warm_on n id 0 y) t a u
    D = d s

    E : Carries (power_on n id) t b v
    E = e s

    F : Same (view t) (warm_on n id 0 y) (power_on n id)
    F = flag-0 (view t) n id y

    tables : view u ≡ view v
    tables = D.table ∙ F.segment ∙ sym E.table

    later : view_ages u ≡ view_ages v
    later = D.ages ∙ ap all_around (F.ages (view_ages t)) ∙ sym E.ages
