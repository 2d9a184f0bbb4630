-- Every accepted rule keeps a sound machine sound.
use Prim.Native.Nat.{ℕ, zero, suc, ◌≤◌, ◌<◌}
use native.Mathlib.Omega.{arith}
use mathlib.Core.Path.{◌≡◌, refl, sym, ap, subst, ◌∙◌}
use mathlib.Core.Bool.{true, false, ◌&&◌, true≢false, and-eq-true_iff}
use mathlib.Core.List.{List, [], ◌∷◌, ◌++◌}
use mathlib.Core.Option.{Option, none, some}
use lib.Dec.{leb}
use lib.ListN.{length, set, get_elem?, length-append, length-map}
use borrow.Author.Tests.{leb-true, leb-false}
use Rattle.value.specs.declared.Value.{Value}
use Rattle.value.specs.declared.Value.TheVariants.{Word}
use Rattle.value.specs.Operation.{result_of}
use Rattle.isa.specs.declared.InstrAddr.{InstrAddr}
use Rattle.isa.specs.declared.Reg.{Reg}
use Rattle.isa.specs.declared.Tag.{Tag}
use Rattle.isa.specs.declared.Instr.{Instr}
use Rattle.isa.specs.declared.Instr.TheVariants as Instr
use Rattle.isa.specs.Instruction.{is_reg, is_formed, last_operation}
use Rattle.isa.specs.Program.{present}
use Rattle.kernel.specs.Kernel.{next}
use Rattle.templates.specs.declared.Operand.{Operand}
use Rattle.templates.specs.declared.Operand.TheVariants.{Known, Waits}
use Rattle.templates.specs.declared.Work.{Work}
use Rattle.templates.specs.declared.Work.TheVariants.{Done, Op, Jz, Load, Store}
use Rattle.templates.specs.declared.Register.{Register}
use Rattle.templates.specs.declared.Counter.{Counter}
use Rattle.templates.specs.declared.Counter.TheVariants.{At, Stall}
use Rattle.templates.specs.Templates.{same_tag, register, waits, contents, put, any_reg}
use Rattle.templates.specs.Machine.{Itb, ITB, any_makes, fill_all, fill_itb, Mach, mach, room, last_tag}
use Rattle.sound.specs.Sound.{Produced, also, after, after_all, is_jz, any_jz, ends_in_jz}
use Rattle.sound.specs.Sound as Sound
use Rattle.sound.proofs.Basics.{by_test, neither, tags_differ}
use Rattle.sound.proofs.Soundness.{Ready, New, WorkOk, TemplatesOk, Alone, RegistersOk, CounterOk, Sound, templates-left, templates_right, templates-append, produced-append, also-itself, also_keeps, produced_other, none-holds, any_jz-append, no_jz_append, ends-append, ends_parts, straight, jz_last}
use Rattle.sound.proofs.Decides.{new_said}
use Rattle.rules.specs.declared.Rule.{Rule}
use Rattle.rules.specs.declared.Command.{Command}
use Rattle.rules.specs.declared.Command.TheVariants.{Malformed, Issue, Apply}
use Rattle.rules.specs.Rules.{Step, holding, tried, apply, is_fresh, tag_ok, issued, issue_at, issue_from, issue, tag_allowed}
use Rattle.rules.specs.Schedule.{obey}
use Rattle.rules.proofs.Cases.{OnStep, Cases, apply-cases}
use Rattle.records.proofs.Leading.{found_inside}
use Rattle.isa.proofs.Formed.{AllFormed, found_formed}
use Rattle.rules.proofs.Filling.{templates-fill, produced-fill, registers-fill, any_jz-fill, ends-fill}
use Rattle.rules.proofs.Removing.{without-itself, without_all, templates-without, registers-without}

abbrev pub StaysSound : ℕ → Step → Type 0
StaysSound k = OnStep (λ σ m. Sound k σ)

-- what stands behind the front may change for what ends alike
counter_kept : (c : Counter) (pre : List Itb) (x : Itb) (post ys : List Itb) → any_jz ys ≡ any_jz (x ∷ post) → ends_in_jz ys ≡ ends_in_jz (x ∷ post)
    → CounterOk c (pre ++ x ∷ post) → CounterOk c (pre ++ ys)
counter_kept (At a) pre x post ys e f h =
    let n = neither (any_jz pre) (any_jz (x ∷ post)) (sym (any_jz-append pre (x ∷ post)) ∙ h) in
    no_jz_append pre ys n.0 (e ∙ n.1)
counter_kept Stall pre x post ys e f h = let n = ends_parts x post pre h in ends-append pre ys n.0 (f ∙ n.1)

-- ---- the rules but issue

module _ (k : ℕ) (σ : Mach) (m : List Value) (pre : List Itb) (a : InstrAddr) (post : List Itb) where
  -- the tags made before the template
  abbrev before : Produced
  before = after_all pre Sound.none

  abbrev Was : Work → Type 0
  Was w = Sound k (holding σ (pre ++ ITB a w ∷ post))

  was-templates : (w : Work) → Was w → TemplatesOk k before (ITB a w ∷ post)
  was-templates w s = templates_right k Sound.none pre (ITB a w ∷ post) s.templates

  was-registers : (w : Work) → Was w → RegistersOk (after_all post (after w before)) σ.registers
  was-registers w s = subst (λ (d : Produced). RegistersOk d σ.registers) (produced-append Sound.none pre (ITB a w ∷ post)) s.registers

  -- with other templates from there on, other registers and another counter
  anew : (w : Work) → Was w → (c : Counter) (rf : List Register) (ys : List Itb) → length ys ≤ suc (length post) → TemplatesOk k before ys
      → RegistersOk (after_all ys before) rf → CounterOk c (pre ++ ys) → Sound k (mach c rf (pre ++ ys))
  anew w s c rf ys l t r e =
      record {
        few = omega (arith, length-append pre ys, length-append pre (ITB a w ∷ post), s.few);
        templates = templates-append k Sound.none pre ys (templates-left k Sound.none pre (ITB a w ∷ post) s.templates) t;
        registers = subst (λ (d : Produced). RegistersOk d rf) (sym (produced-append Sound.none pre ys)) r;
        counter = e;
      }

  -- an Op or a Load becomes a value
  becomes_sound : (w : Work) (t : Tag) (v : Value) → is_jz w ≡ false → after w before ≡ also t before → (WorkOk before w → New before t) → Was w
      → Sound k (holding σ (pre ++ ITB a (Done t v) ∷ post))
  becomes_sound w t v j e new s =
      let u = was-templates w s in
      anew w s σ.counter σ.registers (ITB a (Done t v) ∷ post) (omega arith)
      (u.0, new u.1, subst (λ (d : Produced). TemplatesOk k d post) e u.2)
      (subst (λ (d : Produced). RegistersOk (after_all post d) σ.registers) e (was-registers w s))
      (counter_kept σ.counter pre (ITB a w) post (ITB a (Done t v) ∷ post) (rw j) (rw j) s.counter)

  -- a template that makes no tag goes
  goes_sound : (w : Work) (c : Counter) → after w before ≡ before → Was w → CounterOk c (pre ++ post) → Sound k (mach c σ.registers (pre ++ post))
  goes_sound w c e s f =
      anew w s c σ.registers post (omega arith)
      (subst (λ (d : Produced). TemplatesOk k d post) e (was-templates w s).2)
      (subst (λ (d : Produced). RegistersOk (after_all post d) σ.registers) e (was-registers w s)) f

  keeps_cases : Cases σ m pre a post (λ w r. Was w → StaysSound k r)
  keeps_cases =
      record {
        refuses = λ w n s. tt;
        operates = λ t n u v s. becomes_sound (Op t n (Known u) (Known v)) t (result_of n u v) refl refl (λ h. h.0) s;
        forwards = λ t v h s.
            let u = was-templates (Done t v) s in
            anew (Done t v) s σ.counter σ.registers (ITB a (Done t v) ∷ fill_all t v post) (omega (arith, length-map post (fill_itb t v)))
            (u.0, u.1, templates-fill t v k (also t before) post u.2)
            (rw (produced-fill t v post (also t before)) (was-registers (Done t v) s))
            (counter_kept σ.counter pre (ITB a (Done t v)) post (ITB a (Done t v) ∷ fill_all t v post)
            (any_jz-fill t v post) (ends-fill t v post) s.counter);
        commits = λ t v h s.
            record { few = s.few; templates = s.templates; registers = registers-fill t v _ σ.registers s.registers; counter = s.counter };
        retires = λ t v f h s.
            anew (Done t v) s σ.counter σ.registers post (omega arith)
            (templates-without t k (also t before) before (without-itself t before) post h (was-templates (Done t v) s).2)
            (registers-without t (after_all post (also t before)) (after_all post before)
            (without_all t post (also t before) before (without-itself t before)) σ.registers f (was-registers (Done t v) s))
            (counter_kept σ.counter pre (ITB a (Done t v)) post post refl refl s.counter);
        loads = λ t x v e g s. becomes_sound (Load t (Known (Word x))) t v refl refl (λ h. h.0) s;
        stores = λ x v l g s.
            goes_sound (Store (Known (Word x)) (Known v)) σ.counter refl s
            (counter_kept σ.counter pre (ITB a (Store (Known (Word x)) (Known v))) post post refl refl s.counter);
        jumps = λ u y ia b s.
            let jz = ITB a (Jz (Known u) y) in
            goes_sound (Jz (Known u) y) (At ia) refl s
            (no_jz_append pre post (straight jz post σ.counter pre s.counter) (ap any_jz (jz_last σ.counter pre a (Known u) y post s.counter)));
      }

pub apply_keeps_sound : (k : ℕ) (r : Rule) (place : ℕ) (σ : Mach) (m : List Value) → Sound k σ → StaysSound k (apply r place σ m)
apply_keeps_sound k r place σ m s =
    apply-cases (λ ts r. Sound k (holding σ ts) → StaysSound k r) r place σ m (λ _. tt) (keeps_cases k σ m) s

-- ---- issue

pub fresh_says : (t : Tag) (ts : List Itb) → is_fresh t ts ≡ true → (0 < t.0) × (t.0 ≤ last_tag) × (any_makes t ts ≡ false)
fresh_says t ts e = (new_said (λ s. any_makes s ts) t).holds e

ready_also : (made : Produced) (t : Tag) (x : Operand) → Ready made x → Ready (also t made) x
ready_also made t (Known v) h = tt
ready_also made t (Waits s) h = also_keeps made t s h

registers-also : (made : Produced) (t : Tag) (rf : List Register) → RegistersOk made rf → RegistersOk (also t made) rf
registers-also made t [] h = tt
registers-also made t (r ∷ rf) h = (ready_also made t r.holds h.0, h.1, registers-also made t rf h.2)

-- what a register holds
ready_at : (made : Produced) (rf : List Register) (r : Reg) → RegistersOk made rf → Ready made (contents rf r)
ready_at made rf r = at rf r.0
  where
    at : (rf : List Register) (n : ℕ) → RegistersOk made rf → Ready made (contents rf (record { 0 = n }))
    at [] n h = tt
    at (q ∷ rf) zero h = h.0
    at (q ∷ rf) (suc n) h = at rf n h.2

-- a new tag in a register
module _ (made : Produced) (t : Tag) where
  unheld_set : (s : Tag) (rf : List Register) (n : ℕ) → same_tag t s ≡ false → any_reg s rf ≡ false → any_reg s (set rf n (register (Waits t))) ≡ false
  unheld_set s [] n e h = refl
  unheld_set s (r ∷ rf) zero e h = rw (e, (neither (waits s r.holds) (any_reg s rf) h).1)
  unheld_set s (r ∷ rf) (suc n) e h =
      let g = neither (waits s r.holds) (any_reg s rf) h in
      rw (g.0, unheld_set s rf n e g.1)

  registers-set : (rf : List Register) (n : ℕ) → made t ≡ false → RegistersOk made rf → RegistersOk (also t made) (set rf n (register (Waits t)))
  registers-set [] n e h = tt
  registers-set (r ∷ rf) zero e h = (also-itself made t, none-holds made t e rf h.2, registers-also made t rf h.2)
  registers-set (r ∷ rf) (suc n) e h =
      (ready_also made t r.holds h.0, alone r.holds h.0 h.1, registers-set rf n e h.2)
    where
      alone : (x : Operand) → Ready made x → Alone x rf → Alone x (set rf n (register (Waits t)))
      alone (Known v) p g = tt
      alone (Waits s) p g = unheld_set s rf n (tags_differ t s (λ q. true≢false (sym p ∙ ap made (sym q) ∙ e))) g

module _ (k : ℕ) (t : Tag) (σ : Mach) (m : List Value) (s : Sound k σ) (plain : any_jz σ.held ≡ false) (ia : InstrAddr) (inside : ia.0 < k)
    (space : length σ.held < room) where
  abbrev ts : List Itb
  ts = σ.held

  abbrev rf : List Register
  rf = σ.registers

  abbrev all : Produced
  all = after_all ts Sound.none

  added : (w : Work) (c : Counter) (rf' : List Register) → WorkOk all w → RegistersOk (after w all) rf' → CounterOk c (ts ++ ITB ia w ∷ [])
      → Sound k (mach c rf' (ts ++ ITB ia w ∷ []))
  added w c rf' h r e =
      record {
        few = omega (arith, length-append ts (ITB ia w ∷ []));
        templates = templates-append k Sound.none ts (ITB ia w ∷ []) s.templates (inside, h, tt);
        registers = subst (λ (d : Produced). RegistersOk d rf') (sym (produced-append Sound.none ts (ITB ia w ∷ []))) r;
        counter = e;
      }

  fresh_new : is_fresh t ts ≡ true → New all t
  fresh_new e = let h = fresh_says t ts e in (h.0, h.1, produced_other ts Sound.none t h.2)

  ready : (r : Reg) → Ready all (contents rf r)
  ready r = ready_at all rf r s.registers

  writes : (r : Reg) (w : Work) → is_jz w ≡ false → after w all ≡ also t all → (New all t → WorkOk all w) → is_fresh t ts ≡ true
      → Sound k (mach (At (next ia)) (put rf r (Waits t)) (ts ++ ITB ia w ∷ []))
  writes r w j e ok f =
      let new = fresh_new f in
      added w (At (next ia)) (put rf r (Waits t)) (ok new) (rw e (registers-set all t rf r.0 new.2 s.registers))
      (no_jz_append ts (ITB ia w ∷ []) plain (rw j))

  issued_sound : (i : Instr) → is_formed i ≡ true → tag_ok ts t i ≡ true → Sound k (issued t σ m ia i)
  issued_sound (Instr.Loadc r v) f g = writes r (Done t (Word v)) refl refl (λ n. n) g
  issued_sound (Instr.Loadpc r) f g = writes r (Done t (Word ia.0)) refl refl (λ n. n) g
  issued_sound (Instr.Op r n r1 r2) f g =
      let low = leb-true n last_operation ((and-eq-true_iff (is_reg r && is_reg r1 && is_reg r2) (leb n last_operation)).0 f).1 in
      writes r (Op t n (contents rf r1) (contents rf r2)) refl refl (λ new. (new, ready r1, ready r2, low)) g
  issued_sound (Instr.Jz r1 r2) f g =
      added (Jz (contents rf r1) (contents rf r2)) Stall rf (ready r1, ready r2) s.registers (ends-append ts _ plain refl)
  issued_sound (Instr.Load r r1) f g = writes r (Load t (contents rf r1)) refl refl (λ new. (new, ready r1)) g
  issued_sound (Instr.Store r1 r2) f g =
      added (Store (contents rf r1) (contents rf r2)) (At (next ia)) rf (ready r1, ready r2) s.registers (no_jz_append ts _ plain refl)

module _ (prog : List Instr) (formed : AllFormed prog) (σ : Mach) (m : List Value) (s : Sound (length prog) σ) where
  issue_at_lem : (t : Tag) (ia : InstrAddr) → any_jz σ.held ≡ false → (o : Option Instr) → get_elem? prog ia.0 ≡ o
      → StaysSound (length prog) (tried (issue_at t σ m ia) (present o))
  issue_at_lem t ia plain none e = tt
  issue_at_lem t ia plain (some i) e =
      by_test (StaysSound (length prog)) (leb room (length σ.held)) (λ _. tt)
      (λ space.
      by_test (StaysSound (length prog)) (tag_allowed σ t i)
      (issued_sound (length prog) t σ m s plain ia (found_inside prog ia.0 e) (leb-false room (length σ.held) space) i (found_formed prog ia.0 formed e))
      (λ _. tt))

  issue_from_lem : (t : Tag) (c : Counter) → CounterOk c σ.held → StaysSound (length prog) (issue_from t σ m prog c)
  issue_from_lem t (At ia) h = issue_at_lem t ia h (get_elem? prog ia.0) refl
  issue_from_lem t Stall h = tt

  pub issue_keeps_sound : (t : Tag) → StaysSound (length prog) (issue prog t σ m)
  unfolding issue
  issue_keeps_sound t = issue_from_lem t σ.counter s.counter

  pub obey_keeps_sound : (c : Command) → StaysSound (length prog) (obey prog c σ m)
  unfolding obey
  obey_keeps_sound Malformed = tt
  obey_keeps_sound (Issue t) = issue_keeps_sound t
  obey_keeps_sound (Apply r place) = apply_keeps_sound (length prog) r place σ m s
