-- The rule that is due at a template is the first of all that is accepted there.
use mathlib.Core.Path.{◌≡◌, refl}
use Prim.Native.Nat.{ℕ}
use mathlib.Core.Bool.{Bool, true, false}
use mathlib.Core.List.{List, [], ◌∷◌}
use lib.Dec.{eqb}
use Rattle.records.specs.declared.Refusal.TheVariants.{NoTemplate}
use Rattle.value.specs.declared.Value.{Value}
use Rattle.value.specs.declared.Value.TheVariants.{Undefined, Word}
use Rattle.isa.specs.declared.Tag.{Tag}
use Rattle.kernel.specs.Kernel.{target}
use Rattle.templates.specs.declared.Operand.{Operand}
use Rattle.templates.specs.declared.Operand.TheVariants.{Known, Waits}
use Rattle.templates.specs.declared.Work.{Work}
use Rattle.records.specs.declared.Refusal.{Refusal}
use Rattle.templates.specs.declared.Work.TheVariants.{Done, Op, Jz, Load, Store}
use Rattle.templates.specs.Templates.{any_reg}
use Rattle.templates.specs.Machine.{Itb, any_holds, Mach}
use Rattle.isa.specs.declared.InstrAddr.{InstrAddr}
use Rattle.rules.specs.declared.Rule.{Rule}
use Rattle.rules.specs.declared.Rule.TheVariants as Rule
use Rattle.rules.specs.Rules.{Step, accepted, refused, tried, known, go_to, rule}
use Rattle.rules.specs.Drain.{first, rules, due}

-- with a refusal behind it, a rule answers as it does alone
alone : (t : Step) (n : Refusal) (other : Step) → first (first t (refused n)) other ≡ first t other
alone (accepted σ m) n other = refl
alone (refused k) n other = refl

module _ (σ : Mach) (m : List Value) (pre : List Itb) (a : InstrAddr) (post : List Itb) where
  -- the first of the rules that is accepted at a template with work w
  abbrev pub first_at : Work → List Rule → Step
  first_at w [] = refused NoTemplate
  first_at w (r ∷ rs) = first (rule r σ m pre a post w) (first_at w rs)

  module _ (other : Step) where
    -- before any others, the rule that is due answers as the first of all rules does
    abbrev pub Same : Work → Type 0
    Same w = first (first_at w rules) other ≡ first (rule (due σ.registers post w) σ m pre a post w) other

    same_value : (t : Tag) (v : Value) (later here : Bool) → any_holds t post ≡ later → any_reg t σ.registers ≡ here → Same (Done t v)
    same_value t v true here e f = rw (e, e) refl
    same_value t v false true e f = rw (e, f, f) refl
    same_value t v false false e f = rw (e, f, e, f) refl

    same_jump : (x y : Operand) → Same (Jz x y)
    same_jump (Known Undefined) y = refl
    same_jump (Known (Word w)) y = by_word (eqb w 0) refl
      where
        by_word : (z : Bool) → eqb w 0 ≡ z → Same (Jz (Known (Word w)) y)
        by_word true e =
            let jumps : Step = known (λ v. tried (go_to σ m pre a post) (target v)) y in
            rw (e, e) (alone jumps NoTemplate other)
        by_word false e = rw (e, e) refl
    same_jump (Waits t) y = refl

    pub same : (w : Work) → Same w
    same (Done t v) = same_value t v (any_holds t post) (any_reg t σ.registers) refl refl
    same (Op t n x y) = alone (rule Rule.Operate σ m pre a post (Op t n x y)) NoTemplate other
    same (Jz x y) = same_jump x y
    same (Load t x) = alone (rule Rule.Load σ m pre a post (Load t x)) NoTemplate other
    same (Store x y) = alone (rule Rule.Store σ m pre a post (Store x y)) NoTemplate other
