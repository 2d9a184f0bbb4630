-- Demand 2's stops: a step of the in-order machine stops with n exactly when the first of its conditions that fails has the refusal n.
use Prim.Native.Nat.{ℕ}
use mathlib.Core.Path.{◌≡◌, refl, ap, ap₂, ◌∙◌}
use mathlib.Core.Logic.{◌↔◌, inl, inr}
use mathlib.Core.Bool.{true, not, ◌||◌}
use mathlib.Core.List.{List, [], ◌∷◌}
use mathlib.Core.Option.{Option, none, some}
use lib.Dec.{eqb, ltb}
use lib.ListN.{length, get_elem?}
use borrow.Author.Tests.{lt-ltb, le-ltb}
use Rattle.records.specs.declared.Refusal.{Refusal}
use Rattle.records.specs.declared.Refusal.TheVariants.{NoInstruction, IsUndefined}
use Rattle.value.specs.declared.Value.{Value}
use Rattle.value.specs.declared.Value.TheVariants.{Undefined, Word}
use Rattle.isa.specs.declared.InstrAddr.{InstrAddr}
use Rattle.isa.specs.declared.Reg.{Reg}
use Rattle.isa.specs.declared.Instr.{Instr}
use Rattle.isa.specs.declared.Instr.TheVariants.{Loadc, Loadpc, Op, Jz, Load, Store}
use Rattle.isa.specs.Program.{present}
use Rattle.cells.specs.Cells.{inside, load_from}
use Rattle.kernel.specs.Kernel.{next, read_at, write_at, target, branch, Run, going, stopped, attempt}
use Rattle.sound.proofs.Basics.{by_test}
use Rattle.inorder.specs.declared.Register.{Register}
use Rattle.inorder.specs.declared.InOrder.{InOrder}
use Rattle.inorder.specs.Machine.{held, put, perform, step, once}
use Rattle.records.proofs.Leading.{found_inside}
use Rattle.inorder.proofs.Stops.{once_stops}
use Rattle.demands.specs.Conditions.{Condition, ◌else◌, AllHold, FirstFails, is_defined, is_not_zero, is_there, address, to_execute, fetched, step_conditions}
use Rattle.demands.proofs.Conditions.{never_both, only_one, is_past}

-- what a step says of its conditions
abbrev pub Says : Run (List Register) → List Condition → Type 0
Says (going rf ia m) cs = AllHold cs
Says (stopped ia n m) cs = FirstFails n cs

module _ (ia : InstrAddr) (rf : List Register) (m : List Value) where
  target_says : (w : ℕ) (v : Value) → eqb w 0 ≡ true
      → Says (attempt ia m (λ to. going rf to m) (target v)) ((true else IsUndefined) ∷ (not (eqb w 0) || is_defined v else IsUndefined) ∷ [])
  target_says w Undefined z = inr (refl, inl (rw z refl, refl))
  target_says w (Word nia) z = (refl, (rw z refl, tt))

  jz_says : (u v : Value)
      → Says (attempt ia m (λ to. going rf to m) (branch ia u v)) ((is_defined u else IsUndefined) ∷ (is_not_zero u || is_defined v else IsUndefined) ∷ [])
  jz_says Undefined v = inl (refl, refl)
  jz_says (Word w) v =
      by_test
      (λ t. Says (attempt ia m (λ to. going rf to m) t) ((true else IsUndefined) ∷ (not (eqb w 0) || is_defined v else IsUndefined) ∷ []))
      (eqb w 0) (target_says w v) (λ z. (refl, (rw z refl, tt)))

  loaded_says : (r : Reg) (w : ℕ) (o : Option Value) → get_elem? m w ≡ o
      → Says (attempt ia m (λ v. going (put rf r v) (next ia) m) (inside o)) (address rf m (Word w))
  loaded_says r w none e = inr (refl, inl (le-ltb w (length m) (is_past m w e), refl))
  loaded_says r w (some v) e = (refl, (lt-ltb w (length m) (found_inside m w e), tt))

  load_says : (r : Reg) (u : Value) → Says (attempt ia m (λ v. going (put rf r v) (next ia) m) (read_at m u)) (address rf m u)
  unfolding load_from
  load_says r Undefined = inl (refl, refl)
  load_says r (Word w) = loaded_says r w (get_elem? m w) refl

  store_says : (u v : Value) → Says (attempt ia m (λ m'. going rf (next ia) m') (write_at m u v)) (address rf m u)
  store_says Undefined v = inl (refl, refl)
  store_says (Word w) v =
      by_test (λ t. Says (attempt ia m (λ m'. going rf (next ia) m') t) (address rf m (Word w))) (ltb w (length m))
      (λ l. (refl, (l, tt))) (λ l. inr (refl, inl (l, refl)))

  perform_says : (i : Instr) → Says (perform rf ia m i) (to_execute rf m i)
  perform_says (Loadc r k) = tt
  perform_says (Loadpc r) = tt
  perform_says (Op r n r₁ r₂) = tt
  perform_says (Jz r₁ r₂) = jz_says (held rf r₁) (held rf r₂)
  perform_says (Load r r₁) = load_says r (held rf r₁)
  perform_says (Store r₁ r₂) = store_says (held rf r₁) (held rf r₂)

  one_more : (t : Run (List Register)) (cs : List Condition) → Says t cs → Says t ((true else NoInstruction) ∷ cs)
  one_more (going rf' ia' m') cs h = (refl, h)
  one_more (stopped ia' n m') cs h = inr (refl, h)

  fetched_says : (o : Option Instr) → Says (attempt ia m (perform rf ia m) (present o)) ((is_there o else NoInstruction) ∷ fetched rf m o)
  fetched_says none = inl (refl, refl)
  fetched_says (some i) = one_more (perform rf ia m i) (to_execute rf m i) (perform_says i)

-- ---- demand 2's stops

module _ (prog : List Instr) (s : InOrder) (m : List Value) where
  pub once_says : Says (once prog s m) (step_conditions prog s m)
  unfolding step
  once_says = fetched_says s.counter s.registers m (get_elem? prog s.counter.0)

  pub stopped_first : (n : Refusal) → (once prog s m ≡ stopped s.counter n m) ↔ FirstFails n (step_conditions prog s m)
  stopped_first n = (λ e. rw e at once_says, back (once prog s m) refl once_says)
    where
      back : (t : Run (List Register)) → once prog s m ≡ t → Says t (step_conditions prog s m) → FirstFails n (step_conditions prog s m)
          → t ≡ stopped s.counter n m
      back (going rf ia m') e h f = absurd (never_both (step_conditions prog s m) n h f)
      back (stopped ia k m') e h f =
          let at = rw e at (once_stops prog s m) in
          ap (λ (i : Refusal). stopped ia i m') (only_one (step_conditions prog s m) k n h f)
          ∙ ap₂ (λ (b : InstrAddr) (l : List Value). stopped b n l) at.0 at.1
