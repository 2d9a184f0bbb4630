-- A tag that is filled in with the value it stands for changes nothing.
use mathlib.Core.Path.{◌≡◌, refl, sym, ap, ap₂, ◌∙◌}
use mathlib.Core.Bool.{false}
use mathlib.Core.List.{List, [], ◌∷◌}
use Rattle.std.specs.Prelude.{Result, Ok, Err}
use Rattle.records.specs.declared.Refusal.{Refusal}
use Rattle.value.specs.declared.Value.{Value}
use Rattle.value.specs.Operation.{result_of}
use Rattle.isa.specs.declared.InstrAddr.{InstrAddr}
use Rattle.isa.specs.declared.Tag.{Tag}
use Rattle.kernel.specs.Kernel.{read_at, write_at, branch, Run, going, stopped, attempt}
use Rattle.templates.specs.declared.Operand.{Operand}
use Rattle.templates.specs.declared.Operand.TheVariants.{Known, Waits}
use Rattle.templates.specs.declared.Work.{Work}
use Rattle.templates.specs.declared.Work.TheVariants.{Done, Op, Jz, Load, Store}
use Rattle.templates.specs.declared.Register.{Register}
use Rattle.templates.specs.Templates.{same_tag, makes, fill, fill_work, fill_regs}
use Rattle.templates.specs.Machine.{Itb, any_makes, fill_all}
use Rattle.sound.proofs.Basics.{by_test, neither, same_tag_lem}
use Rattle.rules.proofs.Environment.{Env, resolve}
use Rattle.inorder.specs.Machine as InOrder
use Rattle.demands.proofs.Binding.{bind, bind-itself, bind_other}
use Rattle.demands.proofs.Flush.{execute, flush, values, finish}

module _ (t : Tag) (v : Value) where
  -- ---- what the run has for the tag

  abbrev pub Has : Run Env → Type 0
  Has (going e p m) = e t ≡ v
  Has (stopped a n m) = Unit

  has_attempt : {A : Type 0} (a : InstrAddr) (m : List Value) (f : A → Run Env) → ((x : A) → Has (f x)) → (r : Result A Refusal) → Has (attempt a m f r)
  has_attempt a m f h (Ok x) = h x
  has_attempt a m f h (Err n) = tt

  execute_has : (a : InstrAddr) (w : Work) (r : Run Env) → same_tag (makes w) t ≡ false → Has r → Has (execute a w r)
  execute_has a w (stopped b n m) d h = tt
  execute_has a (Done s u) (going e p m) d h = bind_other t v e s u h d
  execute_has a (Op s n x y) (going e p m) d h = bind_other t v e s (result_of n (resolve e x) (resolve e y)) h d
  execute_has a (Jz x y) (going e p m) d h = has_attempt a m (λ q. going e q m) (λ _. h) (branch a (resolve e x) (resolve e y))
  execute_has a (Load s x) (going e p m) d h = has_attempt a m (λ u. going (bind s u e) p m) (λ u. bind_other t v e s u h d) (read_at m (resolve e x))
  execute_has a (Store x y) (going e p m) d h = has_attempt a m (λ m'. going e p m') (λ _. h) (write_at m (resolve e x) (resolve e y))

  pub flush_has : (xs : List Itb) (r : Run Env) → any_makes t xs ≡ false → Has r → Has (flush xs r)
  flush_has [] r d h = h
  flush_has (x ∷ xs) r d h =
      let n = neither (same_tag (makes x.work) t) (any_makes t xs) d in
      flush_has xs (execute x.address x.work r) n.1 (execute_has x.address x.work r n.0 h)

  pub has_value : (a : InstrAddr) (r : Run Env) → Has (execute a (Done t v) r)
  has_value a (going e p m) = bind-itself t v e
  has_value a (stopped b n m) = tt

  -- ---- so filling it in changes nothing

  resolve-fill : (e : Env) → e t ≡ v → (x : Operand) → resolve e (fill t v x) ≡ resolve e x
  resolve-fill e h (Known u) = refl
  resolve-fill e h (Waits s) = by_test (λ x. resolve e x ≡ e s) (same_tag s t) (λ q. sym h ∙ ap e (sym (same_tag_lem s t q))) (λ _. refl)

  execute-fill : (a : InstrAddr) (w : Work) (r : Run Env) → Has r → execute a (fill_work t v w) r ≡ execute a w r
  execute-fill a w (stopped b n m) h = refl
  execute-fill a (Done s u) (going e p m) h = refl
  execute-fill a (Op s n x y) (going e p m) h = rw (resolve-fill e h x, resolve-fill e h y)
  execute-fill a (Jz x y) (going e p m) h = rw (resolve-fill e h x, resolve-fill e h y)
  execute-fill a (Load s x) (going e p m) h = rw (resolve-fill e h x)
  execute-fill a (Store x y) (going e p m) h = rw (resolve-fill e h x, resolve-fill e h y)

  pub flush-fill : (xs : List Itb) (r : Run Env) → any_makes t xs ≡ false → Has r → flush (fill_all t v xs) r ≡ flush xs r
  flush-fill [] r d h = refl
  flush-fill (x ∷ xs) r d h =
      let n = neither (same_tag (makes x.work) t) (any_makes t xs) d in
      ap (flush (fill_all t v xs)) (execute-fill x.address x.work r h)
      ∙ flush-fill xs (execute x.address x.work r) n.1 (execute_has x.address x.work r n.0 h)

  values-fill : (e : Env) → e t ≡ v → (rf : List Register) → values e (fill_regs t v rf) ≡ values e rf
  values-fill e h [] = refl
  values-fill e h (r ∷ rf) = ap₂ (λ u us. InOrder.register u ∷ us) (resolve-fill e h r.holds) (values-fill e h rf)

  pub finish-fill : (rf : List Register) (r : Run Env) → Has r → finish (fill_regs t v rf) r ≡ finish rf r
  finish-fill rf (going e p m) h = ap (λ us. going us p m) (values-fill e h rf)
  finish-fill rf (stopped a n m) h = refl
