-- The test of soundness says when a machine, or a state, is sound.
use Prim.Native.Nat.{ℕ, zero, suc, ◌-◌, ◌≤◌, ◌<◌}
use mathlib.Core.Path.{◌≡◌, refl, ap, ap₂, ◌∙◌}
use mathlib.Core.Bool.{Bool, true, false, ◌&&◌, not, and-eq-true_iff, false≢true}
use mathlib.Core.List.{List, [], ◌∷◌}
use lib.Dec.{ltb, leb}
use lib.ListN.{length, drop, replicate, length-drop}
use borrow.Author.Tests.{eqb-true, ltb-true, lt-ltb, leb-true, le-leb, not-true}
use Rattle.value.specs.declared.Value.TheVariants.{Undefined, Word}
use Rattle.isa.specs.declared.Tag.{Tag}
use Rattle.isa.specs.Instruction.{last_operation}
use Rattle.templates.specs.declared.Operand.{Operand}
use Rattle.templates.specs.declared.Operand.TheVariants.{Known, Waits}
use Rattle.templates.specs.declared.Work.{Work}
use Rattle.templates.specs.declared.Work.TheVariants.{Done, Op, Jz, Load, Store}
use Rattle.templates.specs.declared.Template.{Template}
use Rattle.templates.specs.declared.Register.{Register}
use Rattle.templates.specs.declared.Counter.{Counter}
use Rattle.templates.specs.declared.Counter.TheVariants.{At, Stall}
use Rattle.templates.specs.declared.State.{State}
use Rattle.templates.specs.Templates.{any_reg}
use Rattle.templates.specs.Machine.{Itb, Mach, room, last_tag}
use Rattle.templates.specs.Layout.{places, blank, lay, mach_of, state_of, Laid}
use Rattle.templates.proofs.Places.{lay_back, mach_of-state_of, blanks_laid}
use Rattle.sound.specs.Sound.{Produced, none, after, after_all, is_new, is_ready, work_ok, template_ok, templates_ok, is_alone, registers_ok, any_jz, ends_in_jz, counter_ok, blank_work, is_blank, all_blank, sound_mach, is_sound}
use Rattle.sound.proofs.Soundness.{Ready, New, WorkOk, TemplatesOk, Alone, RegistersOk, CounterOk, Sound}

-- the test t says when P holds
pub record Decides (t : Bool) (P : Type 0) : Type 0 where
  pub holds : t ≡ true → P
  pub says : P → t ≡ true

always : Decides true Unit
always = record { holds = λ _. tt; says = λ _. refl }

is : (t : Bool) → Decides t (t ≡ true)
is t = record { holds = λ e. e; says = λ e. e }

is_not : (t : Bool) → Decides (not t) (t ≡ false)
is_not t = record { holds = not-true t; says = λ e. ap not e }

below : (a b : ℕ) → Decides (ltb a b) (a < b)
below a b = record { holds = ltb-true a b; says = lt-ltb a b }

at_most : (a b : ℕ) → Decides (leb a b) (a ≤ b)
at_most a b = record { holds = leb-true a b; says = le-leb a b }

both_say : {a b : Bool} {P Q : Type 0} → Decides a P → Decides b Q → Decides (a && b) (P × Q)
both_say {a} {b} p q =
    record {
      holds = λ e. let h = (and-eq-true_iff a b).0 e in (p.holds h.0, q.holds h.1);
      says = λ h. rw (p.says h.0, q.says h.1) refl;
    }

three_say : {a b c : Bool} {P Q R : Type 0} → Decides a P → Decides b Q → Decides c R → Decides (a && (b && c)) (P × Q × R)
three_say p q r =
    let t = both_say p (both_say q r) in
    record { holds = λ e. let h = t.holds e in (h.0, h.1.0, h.1.1); says = λ h. t.says (h.0, (h.1, h.2)) }

four_say : {a b c d : Bool} {P Q R S : Type 0} → Decides a P → Decides b Q → Decides c R → Decides d S
    → Decides (a && (b && (c && d))) (P × Q × R × S)
four_say p q r s =
    let t = both_say p (three_say q r s) in
    record { holds = λ e. let h = t.holds e in (h.0, h.1.0, h.1.1, h.1.2); says = λ h. t.says (h.0, (h.1, h.2, h.3)) }

-- ---- of a machine, part by part

pub new_said : (made : Produced) (t : Tag) → Decides (is_new made t) (New made t)
new_said made t = three_say (below 0 t.0) (at_most t.0 last_tag) (is_not (made t))

ready_said : (made : Produced) (x : Operand) → Decides (is_ready made x) (Ready made x)
ready_said made (Known v) = always
ready_said made (Waits t) = is (made t)

pub work_said : (made : Produced) (w : Work) → Decides (work_ok made w) (WorkOk made w)
work_said made (Done t v) = new_said made t
work_said made (Op t n x y) = four_say (new_said made t) (ready_said made x) (ready_said made y) (at_most n last_operation)
work_said made (Jz x y) = both_say (ready_said made x) (ready_said made y)
work_said made (Load t x) = both_say (new_said made t) (ready_said made x)
work_said made (Store x y) = both_say (ready_said made x) (ready_said made y)

template_said : (k : ℕ) (made : Produced) (x : Itb) → Decides (template_ok k made x) ((x.address.0 < k) × WorkOk made x.work)
template_said k made x = both_say (below x.address.0 k) (work_said made x.work)

templates_said : (k : ℕ) (made : Produced) (xs : List Itb) → Decides (templates_ok k made xs) (TemplatesOk k made xs)
templates_said k made [] = always
templates_said k made (x ∷ xs) =
    let t = both_say (template_said k made x) (templates_said k (after x.work made) xs) in
    record { holds = λ e. let h = t.holds e in (h.0.0, h.0.1, h.1); says = λ h. t.says ((h.0, h.1), h.2) }

alone_said : (x : Operand) (rf : List Register) → Decides (is_alone x rf) (Alone x rf)
alone_said (Known v) rf = always
alone_said (Waits t) rf = is_not (any_reg t rf)

registers_said : (made : Produced) (rf : List Register) → Decides (registers_ok made rf) (RegistersOk made rf)
registers_said made [] = always
registers_said made (r ∷ rf) = three_say (ready_said made r.holds) (alone_said r.holds rf) (registers_said made rf)

counter_said : (c : Counter) (xs : List Itb) → Decides (counter_ok c xs) (CounterOk c xs)
counter_said (At a) xs = is_not (any_jz xs)
counter_said Stall xs = is (ends_in_jz xs)

pub sound_said : (k : ℕ) (σ : Mach) → Decides (sound_mach k σ) (Sound k σ)
unfolding sound_mach
sound_said k σ =
    let t =
    both_say (both_say (at_most (length σ.held) room) (templates_said k none σ.held))
    (both_say (registers_said (after_all σ.held none) σ.registers) (counter_said σ.counter σ.held)) in
    record {
      holds = λ e. let h = t.holds e in record { few = h.0.0; templates = h.0.1; registers = h.1.0; counter = h.1.1 };
      says = λ s. t.says ((s.few, s.templates), (s.registers, s.counter));
    }

-- ---- of a state

blank_work_lem : (w : Work) → blank_work w ≡ true → w ≡ blank.work
blank_work_lem (Done t Undefined) e = λ i. Done (record { 0 = eqb-true t.0 0 e i }) Undefined
blank_work_lem (Done t (Word w)) e = absurd (false≢true e)
blank_work_lem (Op t n x y) e = absurd (false≢true e)
blank_work_lem (Jz x y) e = absurd (false≢true e)
blank_work_lem (Load t x) e = absurd (false≢true e)
blank_work_lem (Store x y) e = absurd (false≢true e)

pub is_blank_lem : (x : Template) → is_blank x ≡ true → x ≡ blank
is_blank_lem x e =
    let h = (and-eq-true_iff _ (blank_work x.work)).0 e in
    λ i. record { address = record { 0 = eqb-true x.address.0 0 h.0 i }; work = blank_work_lem x.work h.1 i }

all_blank_lem : (xs : List Template) → all_blank xs ≡ true → xs ≡ replicate (length xs) blank
all_blank_lem [] e = refl
all_blank_lem (x ∷ xs) e =
    let h = (and-eq-true_iff (is_blank x) (all_blank xs)).0 e in
    ap₂ ◌∷◌ (is_blank_lem x h.0) (all_blank_lem xs h.1)

blanks : (n : ℕ) → all_blank (replicate n blank) ≡ true
blanks zero = refl
blanks (suc n) = blanks n

module _ (k : ℕ) (s : State) (long : length s.templates ≡ places) (e : is_sound k s ≡ true) where
  parts : (leb s.count room ≡ true) × (all_blank (drop s.count s.templates) ≡ true) × (sound_mach k (mach_of s) ≡ true)
  unfolding is_sound
  parts =
      let rest = all_blank (drop s.count s.templates) in
      let h = (and-eq-true_iff (leb s.count room) (rest && sound_mach k (mach_of s))).0 e in
      let g = (and-eq-true_iff rest (sound_mach k (mach_of s))).0 h.1 in
      (h.0, g.0, g.1)

  pub sound_laid : Laid s
  sound_laid =
      let n = s.count in
      let ts = s.templates in
      let back : length (drop n ts) ≡ places - n = length-drop n ts ∙ ap (λ (k : ℕ). k - n) long in
      blanks_laid s long (leb-true n room parts.0) (all_blank_lem (drop n ts) parts.1 ∙ ap (λ (i : ℕ). replicate i blank) back)

  pub sound_machine : Sound k (mach_of s)
  sound_machine = (sound_said k (mach_of s)).holds parts.2

pub sound_state : (k : ℕ) (σ : Mach) → Sound k σ → is_sound k (state_of σ) ≡ true
unfolding is_sound
sound_state k σ s =
    let behind : all_blank (drop (length σ.held) (lay σ.held)) ≡ true = ap all_blank (lay_back σ.held) ∙ blanks (places - length σ.held) in
    let machine : sound_mach k (mach_of (state_of σ)) ≡ true = ap (sound_mach k) (mach_of-state_of σ) ∙ (sound_said k σ).says s in
    rw (le-leb (length σ.held) room s.few, behind, machine) refl
