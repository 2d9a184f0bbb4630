-- A tag that nothing holds may go.
use Prim.Native.Nat.{ℕ}
use mathlib.Core.Path.{◌≡◌, sym, ap, ◌∙◌}
use mathlib.Core.Bool.{true, false, true≢false}
use mathlib.Core.List.{List, [], ◌∷◌}
use Rattle.isa.specs.declared.Tag.{Tag}
use Rattle.templates.specs.declared.Operand.{Operand}
use Rattle.templates.specs.declared.Operand.TheVariants.{Known, Waits}
use Rattle.templates.specs.declared.Work.{Work}
use Rattle.templates.specs.declared.Work.TheVariants.{Done, Op, Jz, Load, Store}
use Rattle.templates.specs.declared.Register.{Register}
use Rattle.templates.specs.Templates.{same_tag, waits, holds, any_reg}
use Rattle.templates.specs.Machine.{Itb, any_holds}
use Rattle.sound.specs.Sound.{Produced, also, after, after_all}
use Rattle.sound.proofs.Basics.{neither, tags_differ}
use Rattle.sound.proofs.Soundness.{Ready, New, WorkOk, TemplatesOk, RegistersOk, also-itself, also_keeps}

-- the tag t has a producer among the one, and the other has all but it
pub record Without (t : Tag) (made less : Produced) : Type 0 where
  had : made t ≡ true
  rest : (s : Tag) → same_tag s t ≡ false → made s ≡ less s

pub without-itself : (t : Tag) (made : Produced) → Without t (also t made) made
without-itself t made = record { had = also-itself made t; rest = λ s e. rw e }

module _ (t : Tag) where
  without-also : (s : Tag) (made less : Produced) → Without t made less → Without t (also s made) (also s less)
  without-also s made less l = record { had = also_keeps made s t l.had; rest = λ u e. rw (l.rest u e) }

  without-after : (w : Work) (made less : Produced) → Without t made less → Without t (after w made) (after w less)
  without-after (Done s v) made less l = without-also s made less l
  without-after (Op s n x y) made less l = without-also s made less l
  without-after (Jz x y) made less l = l
  without-after (Load s x) made less l = without-also s made less l
  without-after (Store x y) made less l = l

  pub without_all : (xs : List Itb) (made less : Produced) → Without t made less → Without t (after_all xs made) (after_all xs less)
  without_all [] made less l = l
  without_all (x ∷ xs) made less l = without_all xs (after x.work made) (after x.work less) (without-after x.work made less l)

  module _ (made less : Produced) (l : Without t made less) where
    ready_without : (x : Operand) → waits t x ≡ false → Ready made x → Ready less x
    ready_without (Known v) e h = tt
    ready_without (Waits s) e h = sym (l.rest s e) ∙ h

    new_without : (s : Tag) → New made s → New less s
    new_without s h =
        (h.0, h.1, sym (l.rest s (tags_differ s t (λ q. true≢false (sym l.had ∙ ap made (sym q) ∙ h.2)))) ∙ h.2)

    two-without : (x y : Operand) → (e : holds t (Jz x y) ≡ false) → Ready made x × Ready made y → Ready less x × Ready less y
    two-without x y e h =
        let n = neither (waits t x) (waits t y) e in
        (ready_without x n.0 h.0, ready_without y n.1 h.1)

    work-without : (w : Work) → holds t w ≡ false → WorkOk made w → WorkOk less w
    work-without (Done s v) e h = new_without s h
    work-without (Op s n x y) e h = let g = two-without x y e (h.1, h.2) in (new_without s h.0, g.0, g.1, h.3)
    work-without (Jz x y) e h = two-without x y e h
    work-without (Load s x) e h = (new_without s h.0, ready_without x e h.1)
    work-without (Store x y) e h = two-without x y e h

    pub registers-without : (rf : List Register) → any_reg t rf ≡ false → RegistersOk made rf → RegistersOk less rf
    registers-without [] e h = tt
    registers-without (r ∷ rf) e h =
        let n = neither (waits t r.holds) (any_reg t rf) e in
        (ready_without r.holds n.0 h.0, h.1, registers-without rf n.1 h.2)

  pub templates-without : (k : ℕ) (made less : Produced) → Without t made less → (xs : List Itb) → any_holds t xs ≡ false
      → TemplatesOk k made xs → TemplatesOk k less xs
  templates-without k made less l [] e h = tt
  templates-without k made less l (x ∷ xs) e h =
      let n = neither (holds t x.work) (any_holds t xs) e in (
        h.0,
        work-without made less l x.work n.0 h.1,
        templates-without k (after x.work made) (after x.work less) (without-after x.work made less l) xs n.1 h.2,
      )
