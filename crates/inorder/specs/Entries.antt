-- The entries of the in-order machine: step and run, on bytes, with their checks.
use Rattle.std.specs.Prelude.{◌≡◌, ℕ, zero, suc, ◌+◌, List, Result}
use Rattle.records.specs.declared.Fault.{Fault}
use Rattle.records.specs.declared.Refusal.{Refusal}
use Rattle.records.specs.Refusal.{faulted}
use Rattle.records.specs.Scan.{refused, accepted}
use Rattle.value.specs.declared.Value.{Value}
use Rattle.isa.specs.declared.Instr.{Instr}
use Rattle.isa.specs.Program.{program}
use Rattle.cells.specs.Cells.{cells, image, Formed}
use Rattle.kernel.specs.Checks.{checked, if_checked}
use Rattle.kernel.specs.Kernel.{Run, going, stopped}
use Rattle.inorder.specs.declared.Register.{Register}
use Rattle.inorder.specs.declared.InOrder.{InOrder}
use Rattle.inorder.specs.declared.Stepped.{Stepped}
use Rattle.inorder.specs.declared.Ran.{Ran}
use Rattle.inorder.specs.Machine.{with, once, after, memory}

-- refusals 1 to 3 of a program and a memory; a machine is never refused
abbrev pub entered : List ℕ → List ℕ → InOrder → Result Unit Fault
entered p b s = checked p b

-- ---- step

unfoldable pub stepped : List ℕ → InOrder → List ℕ → Stepped
stepped p s b =
    let v = entered p b s in
    if_checked v (after s (once (program p) s (cells b))) (record { machine = s; stop = v })

unfoldable pub stepped_memory : List ℕ → InOrder → List ℕ → List ℕ
stepped_memory p s b = if_checked (entered p b s) (image (memory (once (program p) s (cells b)))) b

pub record Steps (p : List ℕ) (s : InOrder) (b : List ℕ) (r : Stepped) (b' : List ℕ) : Type 0 where
  pub answer : r ≡ stepped p s b
  pub bytes : b' ≡ stepped_memory p s b

-- ---- run

-- a run's end: the machine, how many were executed, the stop, if there is one, and memory
pub record End : Type 0 where
  pub machine : InOrder
  pub executed : ℕ
  pub stop : Result Unit Fault
  pub memory : List Value

-- the rest of a run, unless the step stopped
abbrev pub proceed : (InOrder → List Value → End) → InOrder → ℕ → Run (List Register) → End
proceed rest s n (going rf ia m) = rest (with s ia rf) m
proceed rest s n (stopped ia why m) = record { machine = s; executed = n; stop = refused why 0; memory = m }

-- at most so many further instructions, after n that were executed
unfoldable pub run_from : List Instr → ℕ → InOrder → ℕ → List Value → End
run_from prog zero s n m = record { machine = s; executed = n; stop = accepted; memory = m }
run_from prog (suc further) s n m = proceed (λ s' m'. run_from prog further s' (n + 1) m') s n (once prog s m)

-- a run that goes on after another, unless that one stopped
abbrev pub then_run : List Instr → ℕ → End → End
then_run prog further e = if_checked e.stop (run_from prog further e.machine e.executed e.memory) e

abbrev pub ended : End → Ran
ended e = record { machine = e.machine; executed = e.executed; stop = e.stop }

unfoldable pub ran : List ℕ → InOrder → List ℕ → ℕ → Ran
ran p s b budget =
    let v = entered p b s in
    if_checked v (ended (run_from (program p) budget s 0 (cells b)))
    (record { machine = s; executed = 0; stop = v })

unfoldable pub ran_memory : List ℕ → InOrder → List ℕ → ℕ → List ℕ
ran_memory p s b budget = if_checked (entered p b s) (image (run_from (program p) budget s 0 (cells b)).memory) b

pub record Runs (p : List ℕ) (s : InOrder) (b : List ℕ) (budget : ℕ) (r : Ran) (b' : List ℕ) : Type 0 where
  pub answer : r ≡ ran p s b budget
  pub bytes : b' ≡ ran_memory p s b budget

-- the same of a program and a memory that were checked
pub record Goes (p : List ℕ) (s : InOrder) (b : List ℕ) (budget : ℕ) (r : Ran) (b' : List ℕ) : Type 0 where
  pub answer : r ≡ ended (run_from (program p) budget s 0 (cells b))
  pub holds : cells b' ≡ (run_from (program p) budget s 0 (cells b)).memory
  pub formed : Formed b → Formed b'

-- one step of it, on the machine and memory in place
pub record Turns (p : List ℕ) (s : InOrder) (b : List ℕ) (r : Result Unit Refusal) (s' : InOrder) (b' : List ℕ) : Type 0 where
  pub answer : record { machine = s'; stop = faulted r } ≡ after s (once (program p) s (cells b))
  pub holds : cells b' ≡ memory (once (program p) s (cells b))
  pub formed : Formed b → Formed b'
