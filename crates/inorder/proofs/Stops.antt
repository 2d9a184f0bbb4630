-- A step that stops changes nothing.
use mathlib.Core.Path.{◌≡◌, refl}
use mathlib.Core.List.{List}
use lib.ListN.{get_elem?}
use Rattle.std.specs.Prelude.{Result, Ok, Err}
use Rattle.records.specs.declared.Refusal.{Refusal}
use Rattle.value.specs.declared.Value.{Value}
use Rattle.isa.specs.declared.InstrAddr.{InstrAddr}
use Rattle.isa.specs.declared.Instr.{Instr}
use Rattle.isa.specs.declared.Instr.TheVariants.{Loadc, Loadpc, Op, Jz, Load, Store}
use Rattle.isa.specs.Program.{present}
use Rattle.kernel.specs.Kernel.{read_at, write_at, branch, Run, going, stopped, attempt}
use Rattle.inorder.specs.declared.Register.{Register}
use Rattle.inorder.specs.declared.InOrder.{InOrder}
use Rattle.inorder.specs.Machine.{held, perform, step, once}

-- a run that stopped did so at address a, with memory m
abbrev pub Stops : {E : Type 0} → InstrAddr → List Value → Run E → Type 0
Stops a m (going e ia m') = Unit
Stops a m (stopped ia n m') = (ia ≡ a) × (m' ≡ m)

attempt_stops : {A E : Type 0} (a : InstrAddr) (m : List Value) (f : A → Run E) → ((x : A) → Stops a m (f x)) → (t : Result A Refusal) → Stops a m (attempt a m f t)
attempt_stops a m f h (Ok x) = h x
attempt_stops a m f h (Err n) = (refl, refl)

perform_stops : (rf : List Register) (ia : InstrAddr) (m : List Value) (i : Instr) → Stops ia m (perform rf ia m i)
perform_stops rf ia m (Loadc r k) = tt
perform_stops rf ia m (Loadpc r) = tt
perform_stops rf ia m (Op r n r1 r2) = tt
perform_stops rf ia m (Jz r1 r2) = attempt_stops ia m _ (λ _. tt) (branch ia (held rf r1) (held rf r2))
perform_stops rf ia m (Load r r1) = attempt_stops ia m _ (λ _. tt) (read_at m (held rf r1))
perform_stops rf ia m (Store r1 r2) = attempt_stops ia m _ (λ _. tt) (write_at m (held rf r1) (held rf r2))

-- a step that stops leaves counter and memory
pub once_stops : (prog : List Instr) (s : InOrder) (m : List Value) → Stops s.counter m (once prog s m)
unfolding step
once_stops prog s m =
    attempt_stops s.counter m (perform s.registers s.counter m) (perform_stops s.registers s.counter m) (present (get_elem? prog s.counter.0))
