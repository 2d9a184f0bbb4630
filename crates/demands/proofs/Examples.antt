-- The scope paper's run in full, and one that stays blocked, by computation.
use mathlib.Core.Path.{◌≡◌, refl}
use mathlib.Core.List.{List, [], ◌∷◌}
use lib.ListN.{replicate}
use Rattle.std.specs.Prelude.{Ok, Err}
use Rattle.records.specs.declared.Refusal.TheVariants.{IsUndefined}
use Rattle.records.specs.Records.{records}
use Rattle.value.specs.declared.Value.{Value}
use Rattle.value.specs.declared.Value.TheVariants.{Undefined, Word}
use Rattle.value.specs.Operation.{result_of}
use Rattle.isa.specs.declared.Instr.TheVariants.{Load}
use Rattle.isa.specs.Instruction.{reg, parse}
use Rattle.isa.specs.Program.{program}
use Rattle.cells.specs.Cells as Cells
use Rattle.kernel.specs.Kernel.{instr_addr}
use Rattle.templates.specs.declared.Operand.TheVariants.{Waits}
use Rattle.templates.specs.declared.Counter.TheVariants.{At}
use Rattle.templates.specs.Templates.{put}
use Rattle.templates.specs.Machine.{start}
use Rattle.rules.specs.declared.Command.{Command}
use Rattle.rules.specs.declared.Command.TheVariants.{Issue}
use Rattle.rules.specs.Rules.{issue, apply}
use Rattle.rules.specs.Schedule.{command_of, obey}
use Rattle.rules.specs.Run.{End, commands, run, run_from}
use Rattle.rules.specs.Drain.{Drained, drain, drain_from, oldest, blocking, blocked_at}
use Rattle.inorder.specs.Machine.{step}
use Rattle.inorder.specs.Machine as Machine
use Rattle.inorder.specs.Entries as InOrder
use Rattle.inorder.proofs.Examples.{division}
use Rattle.demands.specs.Agrees.{Equal}
use Rattle.demands.specs.Table.{tag, word, r1}

-- ---- one run in full

-- two undefined cells
cells : List Value
cells = Undefined ∷ Undefined ∷ []

schedule : List Command
schedule = Issue (tag 1) ∷ Issue (tag 2) ∷ Issue (tag 3) ∷ Issue (tag 4) ∷ Issue (tag 0) ∷ []

ran : End
ran = run division schedule start cells

drained : Drained
drained = drain ran.machine ran.memory

in_order : InOrder.End
in_order = InOrder.run_from division 5 Machine.start 0 cells

-- the three files
reads_program : program (1 ∷ 1 ∷ 0 ∷ 0 ∷ 6 ∷ 0 ∷ 0 ∷ 0 ∷ 1 ∷ 2 ∷ 0 ∷ 0 ∷ 0 ∷ 0 ∷ 0 ∷ 0 ∷ 3 ∷ 3 ∷ 1 ∷ 2 ∷ 3 ∷ 0 ∷ 0 ∷ 0 ∷ 3 ∷ 4 ∷ 1 ∷ 1 ∷ 0 ∷ 0 ∷ 0 ∷ 0 ∷ 6 ∷ 0 ∷ 2 ∷ 4 ∷ 0 ∷ 0 ∷ 0 ∷ 0 ∷ []) ≡ division
unfolding division program records parse
reads_program = refl

reads_memory : Cells.cells (replicate 16 0) ≡ cells
unfolding cells Cells.cells records
reads_memory = refl

reads_schedule : commands (1 ∷ 0 ∷ 1 ∷ 0 ∷ 1 ∷ 0 ∷ 2 ∷ 0 ∷ 1 ∷ 0 ∷ 3 ∷ 0 ∷ 1 ∷ 0 ∷ 4 ∷ 0 ∷ 1 ∷ 0 ∷ 0 ∷ 0 ∷ []) ≡ schedule
unfolding schedule commands command_of
reads_schedule = refl

-- accepted 5 refused 0, issued 5
accepts_five : (ran.accepted ≡ 5) × (ran.issued ≡ 5) × (ran.verdict ≡ Ok tt)
unfolding ran cells schedule division run_from obey issue
accepts_five = (refl, refl, refl)

-- drained 14, and no template is left
drains_fourteen : (drained.rules ≡ 14) × (drained.machine.held ≡ [])
unfolding drained ran cells schedule division run_from obey issue drain_from oldest apply result_of
drains_fourteen = (refl, refl)

-- pc 5, r1 6, r2 0, r4 12, m0 12; every other register and cell is undefined
leaves : (drained.machine.counter ≡ At (instr_addr 5)) × (drained.machine.registers ≡ put (put (put start.registers (reg 1) (word 6)) (reg 2) (word 0)) (reg 4) (word 12)) × (drained.memory ≡ Word 12 ∷ Undefined ∷ [])
unfolding drained ran cells schedule division run_from obey issue drain_from oldest apply result_of
leaves = (refl, refl, refl)

-- five instructions in order come to the same
executes_five : (in_order.executed ≡ 5) × (in_order.stop ≡ Ok tt)
unfolding in_order cells division InOrder.run_from step result_of
executes_five = (refl, refl)

same : Equal in_order.machine.registers in_order.machine.counter in_order.memory drained.machine drained.memory
unfolding drained ran cells schedule division run_from obey issue drain_from oldest apply result_of in_order InOrder.run_from step
same = record { empty = refl; counter = refl; registers = refl; memory = refl }

-- ---- a run that stays blocked

-- r1 := Load(r2) with r2 undefined, on one cell
left : Drained
left =
    let e = run (Load (reg 1) (reg 2) ∷ []) (Issue (tag 1) ∷ []) start (Undefined ∷ []) in
    drain e.machine e.memory

-- blocked 0 by 16 after 0
blocks : (blocked_at left.machine.held ≡ instr_addr 0) × (blocking left.machine left.memory left.machine.held ≡ Err IsUndefined) × (left.rules ≡ 0)
unfolding left run_from obey issue drain_from oldest apply
blocks = (refl, refl, refl)

-- pc 1, r1 t1
waits : (left.machine.counter ≡ At (instr_addr 1)) × (left.machine.registers ≡ r1 (Waits (tag 1)))
unfolding left run_from obey issue drain_from oldest apply
waits = (refl, refl)
