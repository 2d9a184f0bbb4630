-- An accepted rule other than issue leaves the outcome as it is.
use Prim.Native.Nat.{ℕ}
use mathlib.Core.Path.{◌≡◌, refl, sym, ap, ◌∙◌}
use mathlib.Core.Bool.{false}
use mathlib.Core.List.{List, ◌∷◌, ◌++◌}
use lib.ListN.{length, set}
use Rattle.std.specs.Prelude.{Ok}
use Rattle.value.specs.declared.Value.{Value}
use Rattle.value.specs.declared.Value.TheVariants.{Word}
use Rattle.value.specs.Operation.{result_of}
use Rattle.isa.specs.declared.InstrAddr.{InstrAddr}
use Rattle.isa.specs.declared.Tag.{Tag}
use Rattle.kernel.specs.Kernel.{branch, Run, going, stopped}
use Rattle.templates.specs.declared.Operand.{Operand}
use Rattle.templates.specs.declared.Operand.TheVariants.{Known}
use Rattle.templates.specs.declared.Work.{Work}
use Rattle.templates.specs.declared.Work.TheVariants.{Done, Op, Jz, Load, Store}
use Rattle.templates.specs.Templates.{fill_regs}
use Rattle.templates.specs.Machine.{Itb, ITB, any_makes, fill_all, Mach}
use Rattle.sound.proofs.Soundness.{Sound, value_made_once, straight}
use Rattle.rules.specs.declared.Rule.{Rule}
use Rattle.rules.specs.Rules.{Step, holding, apply}
use Rattle.rules.proofs.Environment.{Env, resolve}
use Rattle.rules.proofs.Cases.{OnStep, Cases, apply-cases}
use Rattle.inorder.specs.declared.Register.{Register}
use Rattle.demands.proofs.Flush.{execute, flush, finish, begin, nothing, outcome, flush-append, at, flush-at}
use Rattle.demands.proofs.Filled.{flush_has, has_value, flush-fill, finish-fill}
use Rattle.demands.proofs.Unread.{given-value, flush-given, finish-given}
use Rattle.demands.proofs.Early.{same_flush, load_early, sized-flush, store_early}

abbrev pub Keeps : Run (List Register) → Step → Type 0
Keeps o = OnStep (λ σ m. outcome σ m ≡ o)

execute_op : (a : InstrAddr) (t : Tag) (n : ℕ) (u v : Value) (r : Run Env) → execute a (Done t (result_of n u v)) r ≡ execute a (Op t n (Known u) (Known v)) r
execute_op a t n u v (going e p m) = refl
execute_op a t n u v (stopped b i m) = refl

execute_jz : (a : InstrAddr) (u : Value) (y : Operand) (ia : InstrAddr) → ((e : Env) → branch a u (resolve e y) ≡ Ok ia) → (r : Run Env)
    → execute a (Jz (Known u) y) r ≡ at ia r
execute_jz a u y ia h (going e p m) = rw (h e)
execute_jz a u y ia h (stopped b n m) = refl

module _ (k : ℕ) (σ : Mach) (m : List Value) (pre : List Itb) (a : InstrAddr) (post : List Itb) where
  -- the run when the front has been executed; and then the rest
  abbrev front : Run Env
  front = flush pre (begin σ m)

  abbrev rest : Run Env → Run (List Register)
  rest r = finish σ.registers (flush post r)

  abbrev Was : Work → Type 0
  Was w = Sound k (holding σ (pre ++ ITB a w ∷ post))

  whole : (w : Work) → outcome (holding σ (pre ++ ITB a w ∷ post)) m ≡ rest (execute a w front)
  whole w = ap (finish σ.registers) (flush-append pre (ITB a w ∷ post) (begin σ m))

  -- in place of w, something with which the front comes to the same
  same : (w : Work) (o : Run (List Register)) (r : Run Env) → o ≡ rest r → r ≡ execute a w front → o ≡ outcome (holding σ (pre ++ ITB a w ∷ post)) m
  same w o r e f = e ∙ ap rest f ∙ sym (whole w)

  unmade : (t : Tag) (v : Value) → Was (Done t v) → any_makes t post ≡ false
  unmade t v s = value_made_once k pre a t v post s.templates

  keeps_cases : Cases σ m pre a post (λ w r. Was w → Keeps (outcome (holding σ (pre ++ ITB a w ∷ post)) m) r)
  keeps_cases =
      record {
        refuses = λ w n s. tt;
        operates = λ t n u v s. same (Op t n (Known u) (Known v)) _ _ (whole (Done t (result_of n u v))) (execute_op a t n u v front);
        forwards = λ t v h s.
            ap (finish σ.registers) (flush-append pre (ITB a (Done t v) ∷ fill_all t v post) (begin σ m)
            ∙ flush-fill t v post (execute a (Done t v) front) (unmade t v s) (has_value t v a front))
            ∙ sym (whole (Done t v));
        commits = λ t v h s.
            ap (finish (fill_regs t v σ.registers)) (flush-append pre (ITB a (Done t v) ∷ post) (begin σ m))
            ∙ finish-fill t v σ.registers (flush post (execute a (Done t v) front))
            (flush_has t v post (execute a (Done t v) front) (unmade t v s) (has_value t v a front))
            ∙ sym (whole (Done t v));
        retires = λ t v f h s.
            ap (finish σ.registers) (flush-append pre post (begin σ m))
            ∙ sym
            (ap rest (given-value t v a front)
            ∙ ap (finish σ.registers) (flush-given t v post front h (unmade t v s))
            ∙ finish-given t v σ.registers (flush post front) f)
            ∙ sym (whole (Done t v));
        loads = λ t x v e g s.
            same (Load t (Known (Word x))) _ _ (whole (Done t v))
            (load_early x (length m) v a t front (same_flush x (length m) v pre (begin σ m) g.lets (refl, e)));
        stores = λ x v l g s.
            let w = Store (Known (Word x)) (Known v) in
            let f = sized-flush x (length m) v pre (begin σ m) g.lets (straight (ITB a w) post σ.counter pre s.counter) refl in
            same w _ _ (ap (finish σ.registers) (flush-append pre post (begin σ (set m x v)))) (f.0 ∙ store_early x (length m) v a front l f.1);
        jumps = λ u y ia b s.
            let w = Jz (Known u) y in
            same w _ _ (ap (finish σ.registers) (flush-append pre post (going nothing ia m)))
            (flush-at ia pre (begin σ m) (straight (ITB a w) post σ.counter pre s.counter) ∙ sym (execute_jz a u y ia b front));
      }

pub apply_keeps_outcome : (k : ℕ) (r : Rule) (place : ℕ) (σ : Mach) (m : List Value) → Sound k σ → Keeps (outcome σ m) (apply r place σ m)
apply_keeps_outcome k r place σ m s =
    apply-cases (λ ts r. Sound k (holding σ ts) → Keeps (outcome (holding σ ts) m) r) r place σ m (λ _. tt) (keeps_cases k σ m) s
