-- A run, turn by turn: what is written, followed by what is still to come, stays the whole output.
use Rattle.std.specs.Prelude.{Option, Result, ◌≡◌, refl, ℕ, ◌+◌, ◌-◌, ◌<◌, Bool, true, not, cond, List, [], ◌∷◌, ◌++◌, length, drop}
use Rattle.std.proofs.Math.Path.{ap, subst⁻¹}
use Rattle.std.proofs.Common.{sym, ◌∙◌, append_assoc, append-nil, arith, length-drop, drop-drop}
use Rattle.std.proofs.Math.Bool.{false}
use Rattle.text.specs.Rules.{sheet, write, Wrote, Puts, Printed}
use Rattle.text.specs.declared.buffer.Sheet as S
use Rattle.text.specs.Sheet.{carried, printed}
use Rattle.node.specs.Rules.{Answer, Value, refused}
use Rattle.segment_rules.specs.Rules.{limit, start, Command, answer, Told, step, run, is_kept}
use Rattle.table.specs.Words.{late_of, Fresh}
use Rattle.table.specs.Promise.{plainly, Tells}
use Rattle.claim.specs.Claim.{begun, then}
use Rattle.claim.proofs.Claim.{run-snoc, follows, told-so}
use Rattle.script.specs.Rules.{Found, command, refusal, nothing, read_of, Script, next, stop, end, onward, script_of, listed, line, lines, last_line, output_of, output}
use Rattle.script.specs.Answers.{read_as}
use Rattle.script.specs.declared.command.Next.{Next}
use Rattle.script.specs.declared.command.Fault.{Fault}
use Rattle.script.specs.Scripts.{taken}
use Rattle.script.proofs.Scripts.{taken-within, next-takes, goes_on}
use Rattle.script.specs.Turns.{Progress, ahead, rest, Going, Turned, Through, Ended, Standing, begin, left}

-- A run that goes on, with so many lines done and the place of the next.
abbrev pub going_on : (done place : ℕ) → Progress
going_on n k = record { done = n; place = k; more = true }

-- THE CASES OF A TURN

ahead-next : (cs : List Command) (n b : ℕ) (c : Command) (s : Script)
    → ahead cs n (next b c s) ≡ line (n + 1) b (answer (run start cs) c) ++ ahead (cs ++ c ∷ []) (n + 1) s
unfolding ahead lines listed
ahead-next cs n b c s =
    append_assoc (line (n + 1) b (answer (run start cs) c)) (lines (step (run start cs) c) (n + 1 + 1) s) _
    ∙ (λ i. line (n + 1) b (answer (run start cs) c) ++ (lines (table i) (n + 1 + 1) s ++ last_line (is_kept limit limit (list i))))
  where
    table : step (run start cs) c ≡ run start (cs ++ c ∷ [])
    table = sym (run-snoc start cs c)

    list : cs ++ (c ∷ listed s) ≡ (cs ++ c ∷ []) ++ listed s
    list = sym (append_assoc cs (c ∷ []) (listed s))

ahead-stop : (cs : List Command) (n m b k : ℕ) → ahead cs n (stop b k) ≡ line (n + 1) b (refused k) ++ ahead cs m end
unfolding ahead lines listed
ahead-stop cs n m b k = refl

ahead-end : (cs : List Command) (n : ℕ) → ahead cs n end ≡ last_line (is_kept limit limit cs)
unfolding ahead lines listed
ahead-end cs n = ap (λ (l : List Command). last_line (is_kept limit limit l)) (append-nil cs)

rest-none : (script : List ℕ) (at : ℕ) (p : Progress) → p.more ≡ false → rest script at p ≡ end
rest-none script at p e = ap (λ (b : Bool). cond b (script_of (drop at script)) end) e

never : {X : Type 0} (b : Bool) → b ≡ false → b ≡ true → X
never b e h = let z : ◌≡◌ {A = ℕ} 0 1 = cc in absurd (omega arith)

-- What comes next, by what stands at the place.
rest-by : (script : List ℕ) (at : ℕ) (p : Progress) {f : Found} → p.more ≡ true → f ≡ read_of (drop at script)
    → rest script at p ≡ onward f (λ u. script_of (drop u (drop at script)))
rest-by script at p more e =
    ap (λ (b : Bool). cond b (script_of (drop at script)) end) more
    ∙ goes_on (drop at script)
    ∙ ap (λ (f : Found). onward f (λ u. script_of (drop u (drop at script)))) (sym e)

module _ (t out : List ℕ) (p : Progress) where
  -- a command on the table, and its line
  module _ (t' out' : List ℕ) (b took to : ℕ) (c : Command) (a : Answer Value) where
    abbrev after : Progress
    after = record { done = p.done + 1; place = to; more = true }

    rest-next : (script : List ℕ) (at : ℕ) → p.more ≡ true → command b c took ≡ read_of (drop at script)
        → rest script at p ≡ next b c (script_of (drop (at + took) script))
    unfolding onward
    rest-next script at more e = rest-by script at p more e ∙ rw (drop-drop took at script)

    goes-next : Tells c t (plainly a) t' → Wrote (sheet out p.place) (line (p.done + 1) b a) (sheet out' to)
        → (script : List ℕ) {old : List ℕ} (at : ℕ) → p.more ≡ true → command b c took ≡ read_of (drop at script)
        → Going script old at p t out → Going script old (at + took) after t' out'
    goes-next does wrote script {old} at more e g = record {
      commands = g.commands ++ c ∷ [];
      answers = g.answers ++ plainly a ∷ [];
      made = then g.made does;
      text =
          carried (ahead (g.commands ++ c ∷ []) (p.done + 1) (script_of (drop (at + took) script))) wrote
          ∙ ap (write (sheet out p.place))
          (ap (λ (x : Answer Value). line (p.done + 1) b x ++ ahead (g.commands ++ c ∷ []) (p.done + 1) (script_of (drop (at + took) script)))
          (ap (λ (x : Told). x.answer) (told-so (follows g.made) does))
          ∙ sym (ahead-next g.commands p.done b c (script_of (drop (at + took) script)))
          ∙ ap (ahead g.commands p.done) (sym (rest-next script at more e)))
          ∙ g.text;
    }

    pub turned-next : Tells c t (plainly a) t' → Wrote (sheet out p.place) (line (p.done + 1) b a) (sheet out' to)
        → Turned p (command b c took) t out after t' out'
    turned-next does wrote = record { goes = goes-next does wrote; further = λ script at e _. (refl, next-takes (drop at script) (sym e)) }

  -- a refusal of the script's own, and its line
  pub turned-stop : (q : Progress) (out' : List ℕ) {b n : ℕ} → q.more ≡ false
      → Wrote (sheet out p.place) (line (p.done + 1) b (refused n)) (sheet out' q.place) → Turned p (refusal b n) t out q t out'
  unfolding onward
  turned-stop q out' {b} {n} last wrote = record {
    goes = λ script {old} at more e g. record {
      commands = g.commands;
      answers = g.answers;
      made = g.made;
      text =
          ap (λ (s : Script). write (sheet out' q.place) (ahead g.commands q.done s)) (rest-none script (at + 0) q last)
          ∙ carried (ahead g.commands q.done end) wrote
          ∙ ap (write (sheet out p.place))
          (sym (ahead-stop g.commands p.done q.done b n) ∙ ap (ahead g.commands p.done) (sym (rest-by script at p more e)))
          ∙ g.text;
    };
    further = λ script at e. never q.more last;
  }

  -- the end of the bytes
  pub turned-end : Turned p nothing t out (record { done = p.done; place = p.place; more = false }) t out
  unfolding onward
  turned-end = record {
    goes = λ script {old} at more e g. record {
      commands = g.commands;
      answers = g.answers;
      made = g.made;
      text = ap (λ (s : Script). write (sheet out p.place) (ahead g.commands p.done s)) (sym (rest-by script at p more e)) ∙ g.text;
    };
    further = λ script at e. never false refl;
  }

-- the same of what the code has read
pub by_read : {p q : Progress} {t out t' out' : List ℕ} {x y : Result (Option Next) Fault} → x ≡ y
    → Turned p (read_as y) t out q t' out' → Turned p (read_as x) t out q t' out'
by_read {p} {q} {t} {out} {t'} {out'} e turned = subst⁻¹ (λ (r : Result (Option Next) Fault). Turned p (read_as r) t out q t' out') e turned

pub standing-begun : (script old t : List ℕ) → Fresh t → Standing script old 0 begin t old
unfolding ahead output output_of run
standing-begun script old t fresh = record {
  going = record { commands = []; answers = []; made = begun fresh; text = refl };
  within = omega arith;
  counted = λ _. omega arith;
}

module _ (script old t out t' out' : List ℕ) (at : ℕ) (p q : Progress) (f : Found) (more : p.more ≡ true) (e : f ≡ read_of (drop at script))
    (stands : Standing script old at p t out) (turned : Turned p f t out q t' out') where
  pub standing_on : Standing script old (at + taken f) q t' out'
  standing_on = record {
    going = turned.goes script at more e stands.going;
    within = omega (arith, ap taken e, taken-within (drop at script), length-drop at script, stands.within);
    counted = λ h. let o = turned.further script at e h in omega (arith, o.0, o.1.0, stands.counted more);
  }

  falls : (b : Bool) → q.more ≡ b → cond b (1 + (length script - (at + taken f))) 0 < 1 + (length script - at)
  falls true h = let o = turned.further script at e h in omega (arith, o.1.0, o.1.1, length-drop at script)
  falls false h = omega arith

  pub fewer : left script (at + taken f) q < left script at p
  fewer = rw more (falls q.more refl)

-- The last line ends the output.
pub through-printed : (script old t out new : List ℕ) (p : Progress) (r : ℕ) (late : Bool) → Through script old p t out → late ≡ late_of t
    → Wrote (sheet out p.place) (last_line (not late)) (sheet new r) → Printed (output script) old new r
through-printed script old t out new p r late through is wrote =
    printed (output script) old new r (record { is = wrote.is ∙ ap (write (sheet out p.place)) text ∙ g.text })
  where
    g : Going script old through.at p t out
    g = through.going

    twice : (b : Bool) → not (not b) ≡ b
    twice true = refl
    twice false = refl

    said : not late ≡ is_kept limit limit g.commands
    said = ap not (is ∙ (follows g.made).late) ∙ twice (is_kept limit limit g.commands)

    text : last_line (not late) ≡ ahead g.commands p.done (rest script through.at p)
    text =
        ap last_line said ∙ sym (ahead-end g.commands p.done)
        ∙ ap (ahead g.commands p.done) (sym (rest-none script through.at p through.last))

-- The same of the code's sheet, once it is let go.
pub ended-printed : {script old new t : List ℕ} {s s₁ s₂ : S.Sheet} {late : Bool} → Ended script s t s₁ → late ≡ late_of t
    → Puts s₁ (last_line (not late)) s₂ → s.out.now ≡ old → new ≡ s₂.out.now → Printed (output script) old new s₂.at
ended-printed e is p eo en = rw (en, ← eo) (through-printed _ _ _ _ _ _ _ _ e.through is p.wrote)
