-- An accepted rule other than issue lowers the weight.
use Prim.Native.Nat.{ℕ, ◌≤◌, ◌<◌}
use native.Mathlib.Omega.{arith}
use mathlib.Core.Path.{ap}
use mathlib.Core.Bool.{false, false≢true}
use mathlib.Core.List.{List, ◌∷◌, ◌++◌}
use Rattle.value.specs.declared.Value.{Value}
use Rattle.value.specs.declared.Value.TheVariants.{Word}
use Rattle.value.specs.Operation.{result_of}
use Rattle.isa.specs.declared.InstrAddr.{InstrAddr}
use Rattle.isa.specs.declared.Tag.{Tag}
use Rattle.templates.specs.declared.Operand.TheVariants.{Known}
use Rattle.templates.specs.declared.Work.{Work}
use Rattle.templates.specs.declared.Work.TheVariants.{Done, Op, Jz, Load, Store}
use Rattle.templates.specs.declared.Register.{Register}
use Rattle.templates.specs.Templates.{holds, any_reg, fill_regs}
use Rattle.templates.specs.Machine.{Itb, ITB, any_holds, fill_all, Mach}
use Rattle.rules.specs.declared.Rule.{Rule}
use Rattle.rules.specs.Rules.{apply}
use Rattle.rules.proofs.Cases.{OnStep, Cases, apply-cases}
use Rattle.rules.proofs.Filling.{or_under, templates_under, templates-gone, registers_under, registers-gone}
use Rattle.demands.proofs.Weight.{bit, share, shares, weight, bit-small, Holds, less_behind, shares_under, shares-fill}

module _ (σ : Mach) (m : List Value) (pre : List Itb) (a : InstrAddr) (post : List Itb) where
  abbrev rf : List Register
  rf = σ.registers

  abbrev was : Work → ℕ
  was w = shares rf (pre ++ ITB a w ∷ post)

  still_held_lem : (w : Work) → Holds post (ITB a w ∷ post)
  still_held_lem w s = or_under false (any_holds s post) (holds s w) (any_holds s post) (λ e. absurd (false≢true e)) (λ e. e)

  -- the template becomes a value
  becomes-less : (w : Work) (t : Tag) (v : Value) → 4 ≤ share rf w post → shares rf (pre ++ ITB a (Done t v) ∷ post) < was w
  becomes-less w t v h =
      less_behind rf rf (λ s e. e) pre (ITB a w ∷ post) (ITB a (Done t v) ∷ post) (still_held_lem w)
      (omega (arith, bit-small (any_holds t post), bit-small (any_reg t rf)))

  -- the template goes
  goes_less : (w : Work) → 1 ≤ share rf w post → shares rf (pre ++ post) < was w
  goes_less w h = less_behind rf rf (λ s e. e) pre (ITB a w ∷ post) post (still_held_lem w) (omega arith)

  lowers_cases : Cases σ m pre a post (λ w r. OnStep (λ σ' m'. weight σ' < was w) r)
  lowers_cases =
      record {
        refuses = λ w n. tt;
        operates = λ t n u v. becomes-less (Op t n (Known u) (Known v)) t (result_of n u v) (omega arith);
        forwards = λ t v h.
            less_behind rf rf (λ s e. e) pre (ITB a (Done t v) ∷ post) (ITB a (Done t v) ∷ fill_all t v post) (templates_under t v post)
            (omega (arith, shares-fill rf t v post, ap bit (templates-gone t v post), ap bit h));
        commits = λ t v h.
            less_behind rf (fill_regs t v rf) (registers_under t v rf) pre (ITB a (Done t v) ∷ post) (ITB a (Done t v) ∷ post) (λ s e. e)
            (omega (arith, shares_under rf (fill_regs t v rf) (registers_under t v rf) post, ap bit (registers-gone t v rf), ap bit h));
        retires = λ t v f h. goes_less (Done t v) (omega arith);
        loads = λ t x v e g. becomes-less (Load t (Known (Word x))) t v (omega arith);
        stores = λ x v l g. goes_less (Store (Known (Word x)) (Known v)) (omega arith);
        jumps = λ u y ia b. goes_less (Jz (Known u) y) (omega arith);
      }

pub apply_lowers_weight : (r : Rule) (place : ℕ) (σ : Mach) (m : List Value) → OnStep (λ σ' m'. weight σ' < weight σ) (apply r place σ m)
apply_lowers_weight r place σ m = apply-cases (λ ts r. OnStep (λ σ' m'. weight σ' < shares σ.registers ts) r) r place σ m tt (lowers_cases σ m)
