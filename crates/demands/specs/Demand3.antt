-- Demand 3: a schedule from the start, then rules other than issue in any order, and the in-order machine.
use Rattle.std.specs.Prelude.{◌*◌, ◌≤◌, ◌≡◌, List, length, Ok}
use Rattle.value.specs.declared.Value.{Value}
use Rattle.isa.specs.declared.Instr.{Instr}
use Rattle.templates.specs.Machine.{Mach, start}
use Rattle.rules.specs.declared.Command.{Command}
use Rattle.rules.specs.Rules.{accepted}
use Rattle.rules.specs.Run.{End, run}
use Rattle.rules.specs.Drain.{Drained, drain}
use Rattle.inorder.specs.Machine as Machine
use Rattle.inorder.specs.Entries as InOrder
use Rattle.rules.specs.Moves.{Move, Stuck, continued}
use Rattle.rules.specs.Schedules.{obeyed, issues, RanTo}
use Rattle.demands.specs.OldestFirst.{DrainsBy}
use Rattle.demands.specs.Agrees.{AgreesWith}
use Rattle.demands.specs.Simulates.{Rewrites}

-- of a program, a memory and a schedule
module _ (prog : List Instr) (m : List Value) (cs : List Command) where
  -- where the accepted part of the schedule leads
  abbrev pub there : End
  there = run prog cs start m

  -- as many instructions in order as were issued
  abbrev pub in_order : InOrder.End
  in_order = InOrder.run_from prog there.issued Machine.start 0 m

  abbrev pub drained : Drained
  drained = drain there.machine there.memory

  -- if the schedule leads to a machine and a memory, in the sense given, the run accepts all of it and ends there
  abbrev pub AcceptedIf : (Mach → List Value → Type 0) → Type 0
  AcceptedIf Leads = (σ : Mach) (m' : List Value) → Leads σ m'
      → there ≡ record { accepted = length cs; issued = issues cs; verdict = Ok tt; machine = σ; memory = m' }

  pub record Demand3 : Type 0 where
    -- the run accepts as much of the schedule as is allowed
    pub ran : RanTo prog cs start m there
    -- a schedule each of whose records is allowed where it stands is accepted to its end
    pub accepts : AcceptedIf (λ σ m'. obeyed prog cs start m ≡ accepted σ m')
    -- so is one each of whose records is a rule of the memo that applies where it stands
    pub accepts_memo : AcceptedIf (Rewrites prog start m cs)
    -- from there, no more than four rules other than issue are accepted for each template
    pub bounded : (vs : List Move) (σ : Mach) (m' : List Value) → continued vs there.machine there.memory ≡ accepted σ m'
        → length vs ≤ 4 * length there.machine.held
    -- whatever their order, where none is allowed any more the machine agrees with the in-order machine
    pub agrees : (vs : List Move) (σ : Mach) (m' : List Value) → continued vs there.machine there.memory ≡ accepted σ m' → Stuck σ m'
        → AgreesWith there.issued in_order σ m'
    -- the drain is such an order, the oldest first
    pub drains : (vs : List Move) × DrainsBy vs there.machine there.memory drained
    pub stuck : Stuck drained.machine drained.memory
