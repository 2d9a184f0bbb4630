-- Filling a tag in takes its holders away, adds none, and keeps what is sound.
use Prim.Native.Nat.{ℕ}
use mathlib.Core.Path.{◌≡◌, refl, sym, ap, ◌∙◌}
use mathlib.Core.Bool.{Bool, true, false, ◌||◌, true≢false, false≢true}
use mathlib.Core.List.{List, [], ◌∷◌}
use Rattle.value.specs.declared.Value.{Value}
use Rattle.isa.specs.declared.Tag.{Tag}
use Rattle.templates.specs.declared.Operand.{Operand}
use Rattle.templates.specs.declared.Operand.TheVariants.{Known, Waits}
use Rattle.templates.specs.declared.Work.{Work}
use Rattle.templates.specs.declared.Work.TheVariants.{Done, Op, Jz, Load, Store}
use Rattle.templates.specs.declared.Register.{Register}
use Rattle.templates.specs.Templates.{same_tag, waits, holds, fill, fill_work, fill_regs, any_reg}
use Rattle.templates.specs.Machine.{Itb, fill_all, any_holds}
use Rattle.sound.specs.Sound.{Produced, after, after_all, is_jz, any_jz, is_empty, ends_in_jz}
use Rattle.sound.proofs.Basics.{by_test}
use Rattle.sound.proofs.Soundness.{Ready, WorkOk, TemplatesOk, Alone, RegistersOk}

-- ---- holders

-- wherever the first test is true, so is the second
abbrev pub Under : Bool → Bool → Type 0
Under a b = a ≡ true → b ≡ true

pub or_under : (a b c d : Bool) → Under a c → Under b d → Under (a || b) (c || d)
or_under true b c d f g e = rw (f refl)
or_under false b true d f g e = refl
or_under false b false d f g e = g e

not_under : (a b : Bool) → Under a b → b ≡ false → a ≡ false
not_under true b f e = absurd (true≢false (sym (f refl) ∙ e))
not_under false b f e = refl

module _ (t : Tag) (v : Value) where
  fill_under : (s : Tag) (x : Operand) → Under (waits s (fill t v x)) (waits s x)
  fill_under s (Known u) = λ e. e
  fill_under s (Waits u) = by_test (λ x. Under (waits s x) (same_tag u s)) (same_tag u t) (λ _ e. absurd (false≢true e)) (λ _ e. e)

  fill-gone : (x : Operand) → waits t (fill t v x) ≡ false
  fill-gone (Known u) = refl
  fill-gone (Waits u) = by_test (λ x. waits t x ≡ false) (same_tag u t) (λ _. refl) (λ e. e)

  work_under : (s : Tag) (w : Work) → Under (holds s (fill_work t v w)) (holds s w)
  work_under s (Done u x) = λ e. e
  work_under s (Op u n x y) = or_under _ _ _ _ (fill_under s x) (fill_under s y)
  work_under s (Jz x y) = or_under _ _ _ _ (fill_under s x) (fill_under s y)
  work_under s (Load u x) = fill_under s x
  work_under s (Store x y) = or_under _ _ _ _ (fill_under s x) (fill_under s y)

  work-gone : (w : Work) → holds t (fill_work t v w) ≡ false
  work-gone (Done u x) = refl
  work-gone (Op u n x y) = rw (fill-gone x, fill-gone y)
  work-gone (Jz x y) = rw (fill-gone x, fill-gone y)
  work-gone (Load u x) = fill-gone x
  work-gone (Store x y) = rw (fill-gone x, fill-gone y)

  pub templates_under : (xs : List Itb) (s : Tag) → Under (any_holds s (fill_all t v xs)) (any_holds s xs)
  templates_under [] s = λ e. e
  templates_under (x ∷ xs) s = or_under _ _ _ _ (work_under s x.work) (templates_under xs s)

  pub templates-gone : (xs : List Itb) → any_holds t (fill_all t v xs) ≡ false
  templates-gone [] = refl
  templates-gone (x ∷ xs) = rw (work-gone x.work, templates-gone xs)

  pub registers_under : (rf : List Register) (s : Tag) → Under (any_reg s (fill_regs t v rf)) (any_reg s rf)
  registers_under [] s = λ e. e
  registers_under (r ∷ rf) s = or_under _ _ _ _ (fill_under s r.holds) (registers_under rf s)

  pub registers-gone : (rf : List Register) → any_reg t (fill_regs t v rf) ≡ false
  registers-gone [] = refl
  registers-gone (r ∷ rf) = rw (fill-gone r.holds, registers-gone rf)

  -- ---- soundness

  ready_fill : (made : Produced) (x : Operand) → Ready made x → Ready made (fill t v x)
  ready_fill made (Known u) h = tt
  ready_fill made (Waits s) h = by_test (Ready made) (same_tag s t) (λ _. tt) (λ _. h)

  work-fill : (made : Produced) (w : Work) → WorkOk made w → WorkOk made (fill_work t v w)
  work-fill made (Done s u) h = h
  work-fill made (Op s n x y) h = (h.0, ready_fill made x h.1, ready_fill made y h.2, h.3)
  work-fill made (Jz x y) h = (ready_fill made x h.0, ready_fill made y h.1)
  work-fill made (Load s x) h = (h.0, ready_fill made x h.1)
  work-fill made (Store x y) h = (ready_fill made x h.0, ready_fill made y h.1)

  after-fill : (w : Work) (made : Produced) → after (fill_work t v w) made ≡ after w made
  after-fill (Done s u) made = refl
  after-fill (Op s n x y) made = refl
  after-fill (Jz x y) made = refl
  after-fill (Load s x) made = refl
  after-fill (Store x y) made = refl

  jz_fill : (w : Work) → is_jz (fill_work t v w) ≡ is_jz w
  jz_fill (Done s u) = refl
  jz_fill (Op s n x y) = refl
  jz_fill (Jz x y) = refl
  jz_fill (Load s x) = refl
  jz_fill (Store x y) = refl

  pub templates-fill : (k : ℕ) (made : Produced) (xs : List Itb) → TemplatesOk k made xs → TemplatesOk k made (fill_all t v xs)
  templates-fill k made [] h = tt
  templates-fill k made (x ∷ xs) h =
      (h.0, work-fill made x.work h.1, rw (after-fill x.work made) (templates-fill k (after x.work made) xs h.2))

  pub produced-fill : (xs : List Itb) (made : Produced) → after_all (fill_all t v xs) made ≡ after_all xs made
  produced-fill [] made = refl
  produced-fill (x ∷ xs) made = ap (after_all (fill_all t v xs)) (after-fill x.work made) ∙ produced-fill xs (after x.work made)

  pub registers-fill : (made : Produced) (rf : List Register) → RegistersOk made rf → RegistersOk made (fill_regs t v rf)
  registers-fill made [] h = tt
  registers-fill made (r ∷ rf) h = (ready_fill made r.holds h.0, alone r.holds h.1, registers-fill made rf h.2)
    where
      alone : (x : Operand) → Alone x rf → Alone (fill t v x) (fill_regs t v rf)
      alone (Known u) g = tt
      alone (Waits s) g =
          by_test (λ x. Alone x (fill_regs t v rf)) (same_tag s t) (λ _. tt)
          (λ _. not_under (any_reg s (fill_regs t v rf)) (any_reg s rf) (registers_under rf s) g)

  empty-fill : (xs : List Itb) → is_empty (fill_all t v xs) ≡ is_empty xs
  empty-fill [] = refl
  empty-fill (x ∷ xs) = refl

  pub any_jz-fill : (xs : List Itb) → any_jz (fill_all t v xs) ≡ any_jz xs
  any_jz-fill [] = refl
  any_jz-fill (x ∷ xs) = rw (jz_fill x.work, any_jz-fill xs)

  pub ends-fill : (xs : List Itb) → ends_in_jz (fill_all t v xs) ≡ ends_in_jz xs
  ends-fill [] = refl
  ends-fill (x ∷ xs) = rw (jz_fill x.work, empty-fill xs, ends-fill xs)
