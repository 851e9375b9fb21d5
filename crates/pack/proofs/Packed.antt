-- What was packed comes back.
use mir.Val.{bool_byte}
use Rattle.std.specs.Prelude.{Some}
use mathlib.Core.Path.{◌≡◌, refl, sym, ap, ◌∙◌}
use Prim.Native.Nat.{ℕ, ◌+◌, ◌*◌, ◌/◌, ◌%◌, ◌^◌, ◌<◌}
use native.Mathlib.Omega.{arith}
use mathlib.Core.Bool.{Bool, true, false, cond}
use lib.Dec.{ltb, eqb}
use lib.Pow.{low, field, mod-mod-pow}
use native.Mathlib.Nat.{add_comm, mul_comm, mod-eq_of_lt}
use Rattle.node.specs.Rules.{is_off, link_of}
use Rattle.headers.specs.declared.frame.Frame.{Frame}
use Rattle.node.specs.declared.Node.{Node}
use Rattle.state.specs.declared.Phase.{Phase}
use Rattle.state.specs.declared.Phase.TheVariants.{Off, Testing, Reserved, Permitted, Leaving, Resting, Silent}
use Rattle.state.specs.declared.Reason.TheVariants.{Collision, Release}
use Rattle.state.specs.declared.Host.TheVariants.{Message, Enquiry}
use Rattle.pack.specs.Words.{frame_from, round, stamp_in, phase_from, phase_at, phase_in, error_from, host_from, host_at, StateOf, Rephased}

-- the j low digits of a number, with n above them, or with nothing
part : (j q s n : ℕ) → s < 2 ^ j → q ≡ s + 2 ^ j * n → q % 2 ^ j ≡ s
part j q s n h e = ap (λ (x : ℕ). x % 2 ^ j) (e ∙ add_comm s (2 ^ j * n) ∙ ap (λ (x : ℕ). x + s) (mul_comm (2 ^ j) n)) ∙ low n j h

whole : (j q s : ℕ) → s < 2 ^ j → q ≡ s → q % 2 ^ j ≡ s
whole j q s h e = ap (λ (x : ℕ). x % 2 ^ j) e ∙ mod-eq_of_lt h

-- frames

module _ (k l h w : ℕ) (hk : k < 2 ^ 8) (hl : l < 2 ^ 8) (hh : h < 2 ^ 32) (e : w ≡ k + 2 ^ 8 * l + 2 ^ 16 * h) where
  pack-kind : w % 2 ^ 8 ≡ k
  pack-kind = omega arith

  pack-rest : w / 2 ^ 8 ≡ l + 2 ^ 8 * h
  pack-rest = omega arith

  pack-header : w / 2 ^ 16 ≡ h
  pack-header = omega arith

pub frame_back : (f : Frame) (w : ℕ) → f.kind < 2 ^ 8 → f.len < 2 ^ 8 → f.header < 2 ^ 32
    → w ≡ f.kind + 2 ^ 8 * f.len + 2 ^ 16 * f.header → frame_from w f.bytes ≡ f
unfolding frame_from
frame_back f w hk hl hh e = λ i. record {
  kind = pack-kind f.kind f.len f.header w hk hl hh e i;
  header = whole 32 (w / 2 ^ 16) f.header hh (pack-header f.kind f.len f.header w hk hl hh e) i;
  len = part 8 (w / 2 ^ 8) f.len f.header hl (pack-rest f.kind f.len f.header w hk hl hh e) i;
  bytes = f.bytes;
}

-- what stands above the 48 bits does not touch the frame
high-kind : (w x : ℕ) → (w + 2 ^ 48 * x) % 2 ^ 8 ≡ w % 2 ^ 8
high-kind w x = omega arith

high-len : (w x : ℕ) → (w + 2 ^ 48 * x) / 2 ^ 8 % 2 ^ 8 ≡ w / 2 ^ 8 % 2 ^ 8
high-len w x = omega arith

high-header : (w x : ℕ) → (w + 2 ^ 48 * x) / 2 ^ 16 % 2 ^ 32 ≡ w / 2 ^ 16 % 2 ^ 32
high-header w x = omega arith

frame-high : (f : Frame) (w x r : ℕ) → frame_from w f.bytes ≡ f → r ≡ w + 2 ^ 48 * x → frame_from r f.bytes ≡ f
unfolding frame_from
frame-high f w x r ef e =
    ap (λ (z : ℕ). frame_from z f.bytes) e
    ∙ (λ i. record { kind = high-kind w x i; header = high-header w x i; len = high-len w x i; bytes = f.bytes })
    ∙ ef

-- the stamp above them
pub stamped : (f : Frame) (w c r : ℕ) → (frame_from w f.bytes ≡ f) × (w < 2 ^ 48) → r ≡ w + 2 ^ 48 * (c % round)
    → (frame_from r f.bytes ≡ f) × (stamp_in r ≡ c % round)
stamped f w c r (ef, hw) e =
    let s : r / 2 ^ 48 ≡ c % round = omega arith in
    (frame-high f w (c % round) r ef e, omega (arith, s))

-- phases

pub phase-testing : (s w x y r : ℕ) → (x ≡ s) × (s < 2 ^ 8) → (y ≡ w) × (w < 2 ^ 8) → r ≡ 1 + 8 * x + 2048 * y → phase_at r ≡ Testing s w
unfolding phase_at
phase-testing s w x y r (ex, hs) (ey, hw) e =
    let t : r % 8 ≡ 1 = omega arith in
    let a' : r / 8 ≡ s + 2 ^ 8 * w = omega arith in
    let a : r / 8 % 2 ^ 8 ≡ s = part 8 (r / 8) s w hs a' in
    let b' : r / 2048 ≡ w = omega arith in
    let b : r / 2048 % 2 ^ 8 ≡ w = whole 8 (r / 2048) w hw b' in
    λ i. phase_from (t i) (a i) (b i)

-- the host's order

pub host-message : (f l x y r b : ℕ) → (x ≡ l) × (l < 2 ^ 8) → (y ≡ f) × (f < 2 ^ 16) → r ≡ 1 + 2 ^ 8 * x + 2 ^ 16 * y
    → host_at r b ≡ Some (Message f l b)
unfolding host_at
host-message f l x y r b (ex, hl) (ey, hf) e = λ i. host_from (tag i) (whole 16 (r / 2 ^ 16) f hf field i) (part 8 (r / 2 ^ 8) l f hl len i) b
  where
    is : r ≡ 1 + 2 ^ 8 * l + 2 ^ 16 * f
    is = omega arith

    tag : r % 2 ^ 8 ≡ 1
    tag = pack-kind 1 l f r (omega arith) hl (omega arith) is

    len : r / 2 ^ 8 ≡ l + 2 ^ 8 * f
    len = pack-rest 1 l f r (omega arith) hl (omega arith) is

    field : r / 2 ^ 16 ≡ f
    field = pack-header 1 l f r (omega arith) hl (omega arith) is

pub host-enquiry : (l x r b : ℕ) → (x ≡ l) × (l < 2 ^ 8) → r ≡ 2 + 2 ^ 8 * x → host_at r b ≡ Some (Enquiry l b)
unfolding host_at
host-enquiry l x r b (ex, hl) e =
    let t : r % 2 ^ 8 ≡ 2 = omega arith in
    let q : r / 2 ^ 8 ≡ l = omega arith in
    λ i. host_from (t i) (r / 2 ^ 16 % 2 ^ 16) (whole 8 (r / 2 ^ 8) l hl q i) b

-- a bit tells what it was made of
pub bit-back : (b : Bool) (r : ℕ) → r ≡ bool_byte b → (eqb r 1 ≡ b) × (r < 2)
bit-back true r e = (ap (λ (x : ℕ). eqb x 1) e, omega arith)
bit-back false r e = (ap (λ (x : ℕ). eqb x 1) e, omega arith)

-- the word of alias, link state, whether the first alias is past, phase and what waits
pub state-of : (n : Node) (w a r m o e k l f p : ℕ) → (a ≡ n.alias.0) × (n.alias.0 < 2 ^ 16)
    → (eqb r 1 ≡ n.waiting.reply) × (r < 2) → (eqb m 1 ≡ n.waiting.amd) × (m < 2) → (eqb o 1 ≡ n.waiting.report) × (o < 2)
    → (error_from e ≡ n.waiting.error) × (e < 8) → (link_of k ≡ n.own.link) × (k < 3) → (l ≡ k) × (k < 2 ^ 8)
    → (eqb f 1 ≡ n.generator.past) × (f < 2) → (phase_at p ≡ n.phase) × (p < 2 ^ 19)
    → w ≡ a + 2 ^ 16 * r + 2 ^ 17 * m + 2 ^ 18 * o + 2 ^ 19 * e + 2 ^ 22 * l + 2 ^ 24 * f + 2 ^ 25 * p → StateOf n w
state-of n w a r m o e k l f p (ea, ha) (er, hr) (em, hm) (eo, ho) (ee, he) (ek, hk) (el, hk') (ef, hf) (ep, hp) ew =
    let p' : w / 2 ^ 25 ≡ p = omega arith in
    let f' : w / 2 ^ 24 ≡ f + 2 * p = omega arith in
    let k' : w / 2 ^ 22 ≡ k + 4 * (f + 2 * p) = omega arith in
    let e' : w / 2 ^ 19 ≡ e + 8 * (k + 4 * (f + 2 * p)) = omega arith in
    let o' : w / 2 ^ 18 ≡ o + 2 * (e + 8 * (k + 4 * (f + 2 * p))) = omega arith in
    let m' : w / 2 ^ 17 ≡ m + 2 * (o + 2 * (e + 8 * (k + 4 * (f + 2 * p)))) = omega arith in
    let r' : w / 2 ^ 16 ≡ r + 2 * (m + 2 * (o + 2 * (e + 8 * (k + 4 * (f + 2 * p))))) = omega arith in
    let er' : eqb (w / 2 ^ 16 % 2) 1 ≡ n.waiting.reply = ap (λ (z : ℕ). eqb z 1) (part 1 (w / 2 ^ 16) r _ hr r') ∙ er in
    let em' : eqb (w / 2 ^ 17 % 2) 1 ≡ n.waiting.amd = ap (λ (z : ℕ). eqb z 1) (part 1 (w / 2 ^ 17) m _ hm m') ∙ em in
    let eo' : eqb (w / 2 ^ 18 % 2) 1 ≡ n.waiting.report = ap (λ (z : ℕ). eqb z 1) (part 1 (w / 2 ^ 18) o _ ho o') ∙ eo in
    let ee' : error_from (w / 2 ^ 19 % 8) ≡ n.waiting.error = ap error_from (part 3 (w / 2 ^ 19) e _ he e') ∙ ee in
    let ea' : w % 2 ^ 16 ≡ n.alias.0 = omega arith in
    record {
      link = ap link_of (part 2 (w / 2 ^ 22) k _ (omega arith) k') ∙ ek;
      alias = λ i. record { 0 = ea' i };
      past = ap (λ (z : ℕ). eqb z 1) (part 1 (w / 2 ^ 24) f p hf f') ∙ ef;
      phase = ap phase_at (whole 19 (w / 2 ^ 25) p hp p') ∙ ep;
      waiting = λ i. record { reply = er' i; amd = em' i; report = eo' i; error = ee' i; host = n.waiting.host };
    }

-- what stands below the phase goes by the 25 low digits: j digits from k on, with l above them
low_field : (r w l j k : ℕ) → r % 2 ^ (l + (j + k)) ≡ w % 2 ^ (l + (j + k)) → r / 2 ^ k % 2 ^ j ≡ w / 2 ^ k % 2 ^ j
low_field r w l j k e =
    sym (field r j k)
    ∙ ap (λ (x : ℕ). x / 2 ^ k) (sym (mod-mod-pow r l (j + k)) ∙ ap (λ (x : ℕ). x % 2 ^ (j + k)) e ∙ mod-mod-pow w l (j + k))
    ∙ field w j k

pub rephased : (w r p : ℕ) (x : Phase) → (phase_at p ≡ x) × (p < 2 ^ 19) → r ≡ w % 2 ^ 25 + 2 ^ 25 * p → Rephased w x r
rephased w r p x (ep, hp) er =
    let low : r % 2 ^ 25 ≡ w % 2 ^ 25 = omega arith in
    let p' : r / 2 ^ 25 ≡ p = omega arith in
    let a' : r % 2 ^ 16 ≡ w % 2 ^ 16 = sym (mod-mod-pow r 9 16) ∙ ap (λ (x : ℕ). x % 2 ^ 16) low ∙ mod-mod-pow w 9 16 in
    let r' : r / 2 ^ 16 % 2 ≡ w / 2 ^ 16 % 2 = low_field r w 8 1 16 low in
    let m' : r / 2 ^ 17 % 2 ≡ w / 2 ^ 17 % 2 = low_field r w 7 1 17 low in
    let o' : r / 2 ^ 18 % 2 ≡ w / 2 ^ 18 % 2 = low_field r w 6 1 18 low in
    let e' : r / 2 ^ 19 % 8 ≡ w / 2 ^ 19 % 8 = low_field r w 3 3 19 low in
    let l' : r / 2 ^ 22 % 4 ≡ w / 2 ^ 22 % 4 = low_field r w 1 2 22 low in
    let f' : r / 2 ^ 24 % 2 ≡ w / 2 ^ 24 % 2 = low_field r w 0 1 24 low in
    record {
      link = ap link_of l';
      alias = λ i. record { 0 = a' i };
      past = ap (λ (z : ℕ). eqb z 1) f';
      phase = ap phase_at (whole 19 (r / 2 ^ 25) p hp p') ∙ ep;
      waiting = λ h i. record { reply = eqb (r' i) 1; amd = eqb (m' i) 1; report = eqb (o' i) 1; error = error_from (e' i); host = h };
    }

-- the phase's tag alone says whether it is Off
off-from : (t s w : ℕ) → is_off (phase_from t s w) ≡ ltb t 1
off-from t s w = go (ltb t 1) (ltb t 2) (ltb t 3) (ltb t 4) (ltb t 5) (ltb t 6) (ltb t 7)
  where
    go : (a b c d e f g : Bool)
        → is_off (cond a Off (cond b (Testing s w) (cond c Reserved (cond d Permitted (cond e (Leaving Collision) (cond f (Leaving Release) (cond g Resting Silent)))))))
        ≡ a
    go true b c d e f g = refl
    go false true c d e f g = refl
    go false false true d e f g = refl
    go false false false true e f g = refl
    go false false false false true f g = refl
    go false false false false false true g = refl
    go false false false false false false true = refl
    go false false false false false false false = refl

pub off-in : (w : ℕ) → ltb (w / 2 ^ 25 % 8) 1 ≡ is_off (phase_in w)
unfolding phase_at
off-in w =
    let e : w / 2 ^ 25 % 2 ^ 19 % 8 ≡ w / 2 ^ 25 % 8 = omega arith in
    sym (off-from (w / 2 ^ 25 % 2 ^ 19 % 8) _ _ ∙ ap (λ (z : ℕ). ltb z 1) e)
