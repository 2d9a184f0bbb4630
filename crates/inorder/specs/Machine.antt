-- The in-order machine: the rules of the memo's section 4.
use Rattle.std.specs.Prelude.{ℕ, zero, suc, List, get_or, set, replicate, Result}
use Rattle.std.proofs.Math.ListN.{get_elem?}
use Rattle.records.specs.declared.Refusal.{Refusal}
use Rattle.records.specs.Scan.{refused, accepted}
use Rattle.value.specs.declared.Value.{Value}
use Rattle.value.specs.declared.Value.TheVariants.{Word}
use Rattle.value.specs.Operation.{undefined, result_of}
use Rattle.isa.specs.declared.InstrAddr.{InstrAddr}
use Rattle.isa.specs.declared.Reg.{Reg}
use Rattle.isa.specs.declared.Instr.{Instr}
use Rattle.isa.specs.declared.Instr.TheVariants.{Loadc, Loadpc, Op, Jz, Load, Store}
use Rattle.isa.specs.Instruction.{registers}
use Rattle.isa.specs.Program.{present}
use Rattle.kernel.specs.Kernel.{instr_addr, next, read_at, write_at, branch, Run, going, stopped, attempt}
use Rattle.inorder.specs.declared.Register.{Register}
use Rattle.inorder.specs.declared.InOrder.{InOrder}
use Rattle.inorder.specs.declared.Stepped.{Stepped}

-- ---- registers: rf[r] and rf[r := v]

abbrev pub register : Value → Register
register v = record { value = v }

abbrev pub held : List Register → Reg → Value
held rf r = (get_or rf r.0 (register undefined)).value

abbrev pub put : List Register → Reg → Value → List Register
put rf r v = set rf r.0 (register v)

-- ---- one instruction

-- at address ia, with registers rf and memory m
abbrev pub perform : List Register → InstrAddr → List Value → Instr → Run (List Register)
perform rf ia m (Loadc r k) = going (put rf r (Word k)) (next ia) m
perform rf ia m (Loadpc r) = going (put rf r (Word ia.0)) (next ia) m
perform rf ia m (Op r n r1 r2) = going (put rf r (result_of n (held rf r1) (held rf r2))) (next ia) m
perform rf ia m (Jz r1 r2) = attempt ia m (λ to. going rf to m) (branch ia (held rf r1) (held rf r2))
perform rf ia m (Load r r1) = attempt ia m (λ v. going (put rf r v) (next ia) m) (read_at m (held rf r1))
perform rf ia m (Store r1 r2) = attempt ia m (λ m'. going rf (next ia) m') (write_at m (held rf r1) (held rf r2))

-- the instruction that was fetched, if there is one
abbrev pub execute : List Register → InstrAddr → List Value → Result Instr Refusal → Run (List Register)
execute rf ia m i = attempt ia m (perform rf ia m) i

-- ---- the machine

abbrev pub machine : InstrAddr → List Register → InOrder
machine ia rf = record { counter = ia; registers = rf }

-- the machine s with another counter and other registers
abbrev pub with : InOrder → InstrAddr → List Register → InOrder
with s ia rf = machine ia rf

abbrev pub start : InOrder
start = machine (instr_addr 0) (replicate registers (register undefined))

-- a program's step; a run that stopped stays stopped
unfoldable pub step : List Instr → Run (List Register) → Run (List Register)
step prog (going rf ia m) = execute rf ia m (present (get_elem? prog ia.0))
step prog (stopped ia n m) = stopped ia n m

-- so many steps
abbrev pub steps : List Instr → ℕ → Run (List Register) → Run (List Register)
steps prog zero t = t
steps prog (suc n) t = steps prog n (step prog t)

-- one step of the machine s
abbrev pub once : List Instr → InOrder → List Value → Run (List Register)
once prog s m = step prog (going s.registers s.counter m)

-- the machine moved on, or stopped as it was
abbrev pub after : InOrder → Run (List Register) → Stepped
after s (going rf ia m) = record { machine = with s ia rf; stop = accepted }
after s (stopped ia n m) = record { machine = s; stop = refused n 0 }

abbrev pub memory : {E : Type 0} → Run E → List Value
memory (going e ia m) = m
memory (stopped ia n m) = m
