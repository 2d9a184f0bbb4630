-- A value for a tag that nothing holds is not read.
use mathlib.Core.Path.{◌≡◌, refl, ap, ap₂, ◌∙◌}
use mathlib.Core.Bool.{false}
use mathlib.Core.List.{List, [], ◌∷◌}
use Rattle.std.specs.Prelude.{Result, Ok, Err}
use Rattle.records.specs.declared.Refusal.{Refusal}
use Rattle.value.specs.declared.Value.{Value}
use Rattle.value.specs.Operation.{result_of}
use Rattle.isa.specs.declared.InstrAddr.{InstrAddr}
use Rattle.isa.specs.declared.Tag.{Tag}
use Rattle.kernel.specs.Kernel.{read_at, write_at, branch, Run, going, stopped, attempt}
use Rattle.templates.specs.declared.Operand.{Operand}
use Rattle.templates.specs.declared.Operand.TheVariants.{Known, Waits}
use Rattle.templates.specs.declared.Work.{Work}
use Rattle.templates.specs.declared.Work.TheVariants.{Done, Op, Jz, Load, Store}
use Rattle.templates.specs.declared.Register.{Register}
use Rattle.templates.specs.Templates.{same_tag, makes, waits, holds, any_reg}
use Rattle.templates.specs.Machine.{Itb, any_makes, any_holds}
use Rattle.sound.proofs.Basics.{neither}
use Rattle.rules.proofs.Environment.{Env, resolve}
use Rattle.inorder.specs.Machine as InOrder
use Rattle.demands.proofs.Binding.{bind, bind_swap}
use Rattle.demands.proofs.Flush.{execute, flush, values, finish}

module _ (t : Tag) (v : Value) where
  -- the run with that value for the tag
  abbrev pub given : Run Env → Run Env
  given (going e p m) = going (bind t v e) p m
  given (stopped a n m) = stopped a n m

  pub given-value : (a : InstrAddr) (r : Run Env) → execute a (Done t v) r ≡ given r
  given-value a (going e p m) = refl
  given-value a (stopped b n m) = refl

  pub resolve-given : (e : Env) (x : Operand) → waits t x ≡ false → resolve (bind t v e) x ≡ resolve e x
  resolve-given e (Known u) h = refl
  resolve-given e (Waits s) h = rw h

  attempt-given : {A : Type 0} (a : InstrAddr) (m : List Value) (f g : A → Run Env) → ((x : A) → f x ≡ given (g x)) → (r : Result A Refusal)
      → attempt a m f r ≡ given (attempt a m g r)
  attempt-given a m f g h (Ok x) = h x
  attempt-given a m f g h (Err n) = refl

  execute-given : (a : InstrAddr) (w : Work) (r : Run Env) → holds t w ≡ false → same_tag (makes w) t ≡ false → execute a w (given r) ≡ given (execute a w r)
  execute-given a w (stopped b n m) h d = refl
  execute-given a (Done s u) (going e p m) h d = ap (λ k. going k p m) (bind_swap t v e s u d)
  execute-given a (Op s n x y) (going e p m) h d =
      let i = neither (waits t x) (waits t y) h in
      rw (resolve-given e x i.0, resolve-given e y i.1) (ap (λ k. going k p m) (bind_swap t v e s (result_of n (resolve e x) (resolve e y)) d))
  execute-given a (Jz x y) (going e p m) h d =
      let i = neither (waits t x) (waits t y) h in
      rw (resolve-given e x i.0, resolve-given e y i.1)
      (attempt-given a m (λ q. going (bind t v e) q m) (λ q. going e q m) (λ _. refl) (branch a (resolve e x) (resolve e y)))
  execute-given a (Load s x) (going e p m) h d =
      rw (resolve-given e x h)
      (attempt-given a m (λ u. going (bind s u (bind t v e)) p m) (λ u. going (bind s u e) p m)
      (λ u. ap (λ k. going k p m) (bind_swap t v e s u d)) (read_at m (resolve e x)))
  execute-given a (Store x y) (going e p m) h d =
      let i = neither (waits t x) (waits t y) h in
      rw (resolve-given e x i.0, resolve-given e y i.1)
      (attempt-given a m (λ m'. going (bind t v e) p m') (λ m'. going e p m') (λ _. refl) (write_at m (resolve e x) (resolve e y)))

  pub flush-given : (xs : List Itb) (r : Run Env) → any_holds t xs ≡ false → any_makes t xs ≡ false → flush xs (given r) ≡ given (flush xs r)
  flush-given [] r h d = refl
  flush-given (x ∷ xs) r h d =
      let i = neither (holds t x.work) (any_holds t xs) h in
      let j = neither (same_tag (makes x.work) t) (any_makes t xs) d in
      ap (flush xs) (execute-given x.address x.work r i.0 j.0) ∙ flush-given xs (execute x.address x.work r) i.1 j.1

  pub values-given : (e : Env) (rf : List Register) → any_reg t rf ≡ false → values (bind t v e) rf ≡ values e rf
  values-given e [] h = refl
  values-given e (r ∷ rf) h =
      let i = neither (waits t r.holds) (any_reg t rf) h in
      ap₂ (λ u us. InOrder.register u ∷ us) (resolve-given e r.holds i.0) (values-given e rf i.1)

  pub finish-given : (rf : List Register) (r : Run Env) → any_reg t rf ≡ false → finish rf (given r) ≡ finish rf r
  finish-given rf (going e p m) h = ap (λ us. going us p m) (values-given e rf h)
  finish-given rf (stopped a n m) h = refl
