-- What the argument for one alias sees of a place: how its node stands, the age of what waits, the inbox with its ages; and
-- the laws for each way that these change.
use Rattle.std.specs.Prelude.{◌≡◌, refl, ◌⊎◌, List, [], ◌∷◌, ◌++◌, map, ℕ, ◌+◌, ◌≤◌, length}
use Rattle.std.proofs.Common.{inl, inr, arith}
use Rattle.node.specs.Stand.{Stand, idle, tests, holds, owes, departs, Uses, Tests, timed_by, Tells, Asks, Turns, stops, begins-to-owe, still-owes, still-departs, holder-leaves, ower-leaves, Grows, advances, rests, Sends, ends, asks, takes, replies, as_before}
use Rattle.node.proofs.Stand.{turns-uses, turns-tests, sends-uses, sends-tests, grows-uses, grows-tests}
use Rattle.headers.specs.declared.frame.Frame.{Frame}
use Rattle.claim.specs.Bus.{Talk}
use Rattle.claim.proofs.Bus.{Local, Emits, Gets, Passes, Kept}
use Rattle.segment_rules.specs.Rules.{pass_age}
use Rattle.segment_rules.specs.Limits.{AgesTo, OutTo}
use Rattle.claim.specs.Sight.{ages_between, Heard}

pub record Sight : Type 0 where
  pub stand : Stand
  pub age : ℕ
  pub box : List Frame
  pub ages : List ℕ

abbrev pub sight : Stand → ℕ → List Frame → List ℕ → Sight
sight s r xs gs = record { stand = s; age = r; box = xs; ages = gs }

module _ (Q : Frame → Type 0) where
  heard-kept : (i : ℕ) (xs : List Frame) (gs : List ℕ) (g : ℕ) → AgesTo i gs → Heard Q xs gs g → g ≤ i
  heard-kept i [] gs g k h = absurd h
  heard-kept i (x ∷ xs) [] g k h = absurd h
  heard-kept i (x ∷ xs) (y ∷ gs) g k (inl h) = omega (arith, k.0, h.1)
  heard-kept i (x ∷ xs) (y ∷ gs) g k (inr h) = heard-kept i xs gs g k.1 h

  heard-more : (xs : List Frame) (gs : List ℕ) (f : Frame) (g : ℕ) → Heard Q xs gs g → Heard Q (xs ++ (f ∷ [])) (gs ++ (0 ∷ [])) g
  heard-more [] gs f g h = absurd h
  heard-more (x ∷ xs) [] f g h = absurd h
  heard-more (x ∷ xs) (y ∷ gs) f g (inl h) = inl h
  heard-more (x ∷ xs) (y ∷ gs) f g (inr h) = inr (heard-more xs gs f g h)

  heard-last : (xs : List Frame) (gs : List ℕ) (f : Frame) → length xs ≡ length gs → Q f → Heard Q (xs ++ (f ∷ [])) (gs ++ (0 ∷ [])) 0
  heard-last [] [] f e q = inl (q, refl)
  heard-last [] (y ∷ gs) f e q = absurd (omega (arith, e))
  heard-last (x ∷ xs) [] f e q = absurd (omega (arith, e))
  heard-last (x ∷ xs) (y ∷ gs) f e q = inr (heard-last xs gs f (omega (arith, e)) q)

  heard-older : (d : ℕ) (xs : List Frame) (gs : List ℕ) (g : ℕ) → Heard Q xs gs g → Heard Q xs (map (λ x. x + d) gs) (g + d)
  heard-older d [] gs g h = absurd h
  heard-older d (x ∷ xs) [] g h = absurd h
  heard-older d (x ∷ xs) (y ∷ gs) g (inl h) = inl (h.0, omega (arith, h.1))
  heard-older d (x ∷ xs) (y ∷ gs) g (inr h) = inr (heard-older d xs gs g h)

-- THE PREDICATES, for an alias, under the limits i for inbox frames and o for what waits

module _ (i o a : ℕ) where
  abbrev pub KnowsOf : Stand → ℕ → List Frame → List ℕ → ℕ → Type 0
  KnowsOf idle r xs gs w = ⊥
  KnowsOf (tests v) r xs gs w = ⊥
  KnowsOf holds r xs gs w = (g : ℕ) × Heard (Asks a) xs gs g × (w ≤ g)
  KnowsOf owes r xs gs w = w ≤ i + r
  KnowsOf departs r xs gs w = w ≤ i + o + r

  abbrev pub talk : Talk Sight Frame
  talk = record {
    Uses = λ p. Uses p.stand;
    Tests = λ p w. Tests p.stand w;
    Knows = λ p w. KnowsOf p.stand p.age p.box p.ages w;
    Hears = λ p g. Heard (Tells a) p.box p.ages g;
    Tells = λ f. Tells a f;
    Asks = λ f. Asks a f;
  }

  pub record InTime (p : Sight) : Type 0 where
    pub box : AgesTo i p.ages
    pub out : OutTo o (timed_by p.stand) p.age

  pub keeps : (wait : ℕ) (p : Sight) → InTime p → Kept Sight Frame talk i o wait p
  keeps wait p t = record {
    hears = λ g h. heard-kept (Tells a) i p.box p.ages g t.box h;
    knows = λ w u k. known p.stand p.age t.out w k;
  }
    where
      known : (s : Stand) (r : ℕ) → OutTo o (timed_by s) r → (w : ℕ) → KnowsOf s r p.box p.ages w → w ≤ i + o + o
      known idle r l w k = absurd k
      known (tests v) r l w k = absurd k
      known holds r l w k = omega (arith, k.2, heard-kept (Asks a) i p.box p.ages k.0 t.box k.1)
      known owes r l w k = omega arith
      known departs r l w k = omega arith

  -- A PLACE ON ITS OWN

  abbrev pub Alone : Sight → Sight → Type 0
  Alone p q = Local Sight Frame talk p q

  -- the inbox keeps what is under the alias
  pub stayed : (s : Stand) (r : ℕ) (xs ys : List Frame) (gs hs : List ℕ)
      → ((g : ℕ) → Heard (Tells a) xs gs g → Heard (Tells a) ys hs g)
      → ((g : ℕ) → Heard (Asks a) xs gs g → Heard (Asks a) ys hs g)
      → Alone (sight s r xs gs) (sight s (ages_between s s r) ys hs)
  stayed s r xs ys gs hs tells asked = record {
    uses = λ u. u;
    knows = λ w u k. known s w u k;
    tests = λ w h. h;
    hears = λ w g h k. tells g k;
  }
    where
      known : (s : Stand) (w : ℕ) → Uses s → KnowsOf s r xs gs w → KnowsOf s (ages_between s s r) ys hs w
      known idle w u k = k
      known (tests v) w u k = k
      known holds w u k = (k.0, asked k.0 k.1, k.2)
      known owes w u k = omega arith
      known departs w u k = omega arith

  pub turned : {s t : Stand} (r : ℕ) (xs ys : List Frame) (gs hs : List ℕ) → Turns s t → InTime (sight s r xs gs)
      → Alone (sight s r xs gs) (sight t (ages_between s t r) ys hs)
  turned {s} {t} r xs ys gs hs m y = record {
    uses = λ u. turns-uses m u;
    knows = λ w u k. known m y.out w u k;
    tests = λ w h. absurd (turns-tests m w h);
    hears = λ w g h k. absurd (turns-tests m w h);
  }
    where
      since : (w : ℕ) → (g : ℕ) × Heard (Asks a) xs gs g × (w ≤ g) → w ≤ i
      since w k = omega (arith, k.2, heard-kept (Asks a) i xs gs k.0 y.box k.1)

      known : {s t : Stand} → Turns s t → OutTo o (timed_by s) r → (w : ℕ) → Uses t → KnowsOf s r xs gs w
          → KnowsOf t (ages_between s t r) ys hs w
      known (stops s) l w u k = absurd u
      known begins-to-owe l w u k = omega (arith, since w k)
      known still-owes l w u k = omega arith
      known still-departs l w u k = omega arith
      known holder-leaves l w u k = omega (arith, since w k)
      known ower-leaves l w u k = omega arith

  -- it starts anew, idle
  pub gone : (p : Sight) (r : ℕ) (ys : List Frame) (hs : List ℕ) → Alone p (sight idle r ys hs)
  gone p r ys hs = record {
    uses = λ u. absurd u;
    knows = λ w u k. absurd u;
    tests = λ w h. absurd h;
    hears = λ w g h k. absurd h;
  }

  -- A FRAME COMES

  pub got : (s : Stand) (r : ℕ) (xs : List Frame) (gs : List ℕ) (f : Frame) → length xs ≡ length gs
      → Gets Sight Frame talk f (sight s r xs gs) (sight s r (xs ++ (f ∷ [])) (gs ++ (0 ∷ [])))
  got s r xs gs f e = record {
    uses = λ u. u;
    knows = λ w k. known s w k;
    tests = λ w h. h;
    hears = λ g h. heard-more (Tells a) xs gs f g h;
    told = λ w t h. heard-last (Tells a) xs gs f e t;
    asked = λ t u. asked s t u;
  }
    where
      known : (s : Stand) (w : ℕ) → KnowsOf s r xs gs w → KnowsOf s r (xs ++ (f ∷ [])) (gs ++ (0 ∷ [])) w
      known idle w k = k
      known (tests v) w k = k
      known holds w k = (k.0, heard-more (Asks a) xs gs f k.0 k.1, k.2)
      known owes w k = k
      known departs w k = k

      asked : (s : Stand) → Asks a f → Uses s → KnowsOf s r (xs ++ (f ∷ [])) (gs ++ (0 ∷ [])) 0
      asked idle t u = u
      asked (tests v) t u = u
      asked holds t u = (0, heard-last (Asks a) xs gs f e t, omega arith)
      asked owes t u = omega arith
      asked departs t u = omega arith

  pub shut : (r : ℕ) (xs : List Frame) (gs : List ℕ) (f : Frame) → Gets Sight Frame talk f (sight idle r xs gs) (sight idle r xs gs)
  shut r xs gs f = record {
    uses = λ u. u;
    knows = λ w k. k;
    tests = λ w h. h;
    hears = λ g h. h;
    told = λ w t h. absurd h;
    asked = λ t u. absurd u;
  }

  -- TIME PASSES

  pub grown : (d : ℕ) {s t : Stand} (r : ℕ) (xs : List Frame) (gs : List ℕ) → Grows d s t
      → Passes Sight Frame talk d (sight s r xs gs) (sight t (pass_age d (timed_by t) (ages_between s t r)) xs (map (λ x. x + d) gs))
  grown d {s} {t} r xs gs m = record {
    uses = λ u. grows-uses d m u;
    knows = λ w v le k. known m w v le k;
    tests = λ v h. grows-tests d m v h;
    hears = λ g h. heard-older (Tells a) d xs gs g h;
  }
    where
      rested : (s : Stand) (w v : ℕ) → v ≤ w + d → KnowsOf s r xs gs w
          → KnowsOf s (pass_age d (timed_by s) (ages_between s s r)) xs (map (λ x. x + d) gs) v
      rested idle w v le k = k
      rested (tests x) w v le k = k
      rested holds w v le k = (k.0 + d, heard-older (Asks a) d xs gs k.0 k.1, omega (arith, k.2))
      rested owes w v le k = omega arith
      rested departs w v le k = omega arith

      known : {s t : Stand} → Grows d s t → (w v : ℕ) → v ≤ w + d → KnowsOf s r xs gs w
          → KnowsOf t (pass_age d (timed_by t) (ages_between s t r)) xs (map (λ x. x + d) gs) v
      known (advances x y l) w v le k = k
      known (rests s) w v le k = rested s w v le k

  -- A FRAME LEAVES

  pub emits : (wait : ℕ) {s t : Stand} (f : Frame) (r : ℕ) (xs : List Frame) (gs : List ℕ) → Sends wait a f s t → InTime (sight s r xs gs)
      → Emits Sight Frame talk i o wait f (sight s r xs gs) (sight t (ages_between s t r) xs gs)
  emits wait {s} {t} f r xs gs m y = record {
    uses = λ u. sends-uses wait a f m u;
    knows = λ w u u' k. known m y.out w u u' k;
    tests = λ w h. sends-tests wait a f m w h;
    hears = λ w g h k. k;
  }
    where
      same : (s : Stand) (w : ℕ) → Uses s → KnowsOf s r xs gs w → KnowsOf s (ages_between s s r) xs gs w
      same idle w u k = k
      same (tests v) w u k = k
      same holds w u k = k
      same owes w u k = k
      same departs w u k = k

      known : {s t : Stand} → Sends wait a f s t → OutTo o (timed_by s) r → (w : ℕ) → Uses s → Uses t → KnowsOf s r xs gs w
          → KnowsOf t (ages_between s t r) xs gs w ⊎ (Tells a f × (w ≤ i + o))
      known (ends s) l w u u' k = absurd u'
      known (asks z) l w u u' k = absurd u
      known (takes v le z) l w u u' k = absurd u
      known (replies z) l w u u' k = inr (z, omega arith)
      known (as_before s) l w u u' k = inl (same s w u k)
