-- The division example, run in order by computation: r3 stays undefined, and cell 0 holds 12.
use mathlib.Core.Path.{◌≡◌, refl}
use mathlib.Core.List.{List, [], ◌∷◌}
use Rattle.records.specs.declared.Refusal.TheVariants.{NoInstruction}
use Rattle.records.specs.Scan.{refused}
use Rattle.value.specs.declared.Value.TheVariants.{Undefined, Word}
use Rattle.value.specs.Operation.{result_of}
use Rattle.isa.specs.declared.Instr.{Instr}
use Rattle.isa.specs.declared.Instr.TheVariants.{Loadc, Op, Store}
use Rattle.isa.specs.Instruction.{reg}
use Rattle.inorder.specs.Machine.{start, held, step}
use Rattle.inorder.specs.Entries.{End, run_from}

-- r1 := Loadc(6); r2 := Loadc(0); r3 := Div(r1,r2); r4 := Add(r1,r1); Store(r2,r4)
unfoldable pub division : List Instr
division =
    Loadc (reg 1) 6 ∷
    Loadc (reg 2) 0 ∷
    Op (reg 3) 3 (reg 1) (reg 2) ∷
    Op (reg 4) 0 (reg 1) (reg 1) ∷
    Store (reg 2) (reg 4) ∷
    []

end : End
end = run_from division 100 start 0 (Undefined ∷ Undefined ∷ [])

executes_five : (end.executed ≡ 5) × (end.stop ≡ refused NoInstruction 0) × (end.machine.counter.0 ≡ 5)
unfolding end division run_from step result_of
executes_five = (refl, refl, refl)

leaves : (held end.machine.registers (reg 3) ≡ Undefined) × (held end.machine.registers (reg 4) ≡ Word 12) × (end.memory ≡ Word 12 ∷ Undefined ∷ [])
unfolding end division run_from step result_of
leaves = (refl, refl, refl)
