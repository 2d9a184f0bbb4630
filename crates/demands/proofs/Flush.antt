-- All that is held is executed, the oldest first: what a machine comes to.
use mathlib.Core.Path.{◌≡◌, refl, ap, ◌∙◌}
use mathlib.Core.Bool.{false, true≢false}
use mathlib.Core.List.{List, [], ◌∷◌, ◌++◌, map}
use Rattle.std.specs.Prelude.{Result, Ok, Err}
use Rattle.records.specs.declared.Refusal.{Refusal}
use Rattle.value.specs.declared.Value.{Value}
use Rattle.value.specs.declared.Value.TheVariants.{Undefined}
use Rattle.value.specs.Operation.{result_of}
use Rattle.isa.specs.declared.InstrAddr.{InstrAddr}
use Rattle.kernel.specs.Kernel.{instr_addr, read_at, write_at, branch, Run, going, stopped, attempt}
use Rattle.templates.specs.declared.Work.{Work}
use Rattle.templates.specs.declared.Work.TheVariants.{Done, Op, Jz, Load, Store}
use Rattle.templates.specs.declared.Register.{Register}
use Rattle.templates.specs.declared.Counter.{Counter}
use Rattle.templates.specs.declared.Counter.TheVariants.{At, Stall}
use Rattle.templates.specs.Machine.{Itb, Mach}
use Rattle.sound.specs.Sound.{is_jz, any_jz}
use Rattle.sound.proofs.Basics.{neither}
use Rattle.rules.proofs.Environment.{Env, resolve}
use Rattle.demands.proofs.Binding.{bind}
use Rattle.inorder.specs.declared.Register.{Register as InOrderRegister}
use Rattle.inorder.specs.Machine as InOrder

-- ---- one template

-- of address a; what stopped stays so
abbrev pub execute : InstrAddr → Work → Run Env → Run Env
execute a w (stopped b n m) = stopped b n m
execute a (Done t v) (going e p m) = going (bind t v e) p m
execute a (Op t n x y) (going e p m) = going (bind t (result_of n (resolve e x) (resolve e y)) e) p m
execute a (Jz x y) (going e p m) = attempt a m (λ q. going e q m) (branch a (resolve e x) (resolve e y))
execute a (Load t x) (going e p m) = attempt a m (λ v. going (bind t v e) p m) (read_at m (resolve e x))
execute a (Store x y) (going e p m) = attempt a m (λ m'. going e p m') (write_at m (resolve e x) (resolve e y))

-- ---- all of them

abbrev pub flush : List Itb → Run Env → Run Env
flush [] r = r
flush (x ∷ xs) r = flush xs (execute x.address x.work r)

abbrev pub values : Env → List Register → List InOrderRegister
values e rf = map (λ r. InOrder.register (resolve e r.holds)) rf

abbrev pub finish : List Register → Run Env → Run (List InOrderRegister)
finish rf (going e p m) = going (values e rf) p m
finish rf (stopped a n m) = stopped a n m

-- a stalled machine's counter is set by its last template
abbrev pub counter_of : Counter → InstrAddr
counter_of (At a) = a
counter_of Stall = instr_addr 0

abbrev pub nothing : Env
nothing t = Undefined

abbrev pub begin : Mach → List Value → Run Env
begin σ m = going nothing (counter_of σ.counter) m

abbrev pub outcome : Mach → List Value → Run (List InOrderRegister)
outcome σ m = finish σ.registers (flush σ.held (begin σ m))

-- ---- in two parts; and after a stop

pub flush-append : (xs ys : List Itb) (r : Run Env) → flush (xs ++ ys) r ≡ flush ys (flush xs r)
flush-append [] ys r = refl
flush-append (x ∷ xs) ys r = flush-append xs ys (execute x.address x.work r)

pub flush_stopped : (xs : List Itb) (a : InstrAddr) (n : Refusal) (m : List Value) → flush xs (stopped a n m) ≡ stopped a n m
flush_stopped [] a n m = refl
flush_stopped (x ∷ xs) a n m = flush_stopped xs a n m

-- ---- where there is no Jz, the counter is only carried along

abbrev pub at : InstrAddr → Run Env → Run Env
at q (going e p m) = going e q m
at q (stopped a n m) = stopped a n m

module _ (q : InstrAddr) where
  attempt-at : {A : Type 0} (a : InstrAddr) (m : List Value) (f g : A → Run Env) → ((x : A) → f x ≡ at q (g x)) → (r : Result A Refusal)
      → attempt a m f r ≡ at q (attempt a m g r)
  attempt-at a m f g h (Ok x) = h x
  attempt-at a m f g h (Err n) = refl

  execute-at : (a : InstrAddr) (w : Work) (r : Run Env) → is_jz w ≡ false → execute a w (at q r) ≡ at q (execute a w r)
  execute-at a w (stopped b n m) j = refl
  execute-at a (Done t v) (going e p m) j = refl
  execute-at a (Op t n x y) (going e p m) j = refl
  execute-at a (Jz x y) (going e p m) j = absurd (true≢false j)
  execute-at a (Load t x) (going e p m) j = attempt-at a m (λ v. going (bind t v e) q m) (λ v. going (bind t v e) p m) (λ _. refl) (read_at m (resolve e x))
  execute-at a (Store x y) (going e p m) j = attempt-at a m (λ m'. going e q m') (λ m'. going e p m') (λ _. refl) (write_at m (resolve e x) (resolve e y))

  pub flush-at : (xs : List Itb) (r : Run Env) → any_jz xs ≡ false → flush xs (at q r) ≡ at q (flush xs r)
  flush-at [] r j = refl
  flush-at (x ∷ xs) r j =
      let n = neither (is_jz x.work) (any_jz xs) j in
      ap (flush xs) (execute-at x.address x.work r n.0) ∙ flush-at xs (execute x.address x.work r) n.1
