-- The entries of the renaming machine on bytes, with their checks.
use Rattle.std.specs.Prelude.{◌≡◌, ℕ, ◌%◌, cond, List, eqb, length, get_or, Result}
use Rattle.records.specs.declared.Fault.{Fault}
use Rattle.records.specs.declared.Refusal.TheVariants.{BadLength}
use Rattle.records.specs.Refusal.{faulted}
use Rattle.records.specs.Scan.{refused}
use Rattle.isa.specs.Program.{program}
use Rattle.cells.specs.Cells.{cells, image, Formed}
use Rattle.kernel.specs.Checks.{if_checked}
use Rattle.templates.specs.declared.State.{State}
use Rattle.templates.specs.Layout.{mach_of, state_of}
use Rattle.entry.specs.Entry.{entered}
use Rattle.rules.specs.declared.Command.{Command}
use Rattle.renaming.specs.declared.Stepped.{Stepped}
use Rattle.renaming.specs.declared.Ran.{Ran}
use Rattle.renaming.specs.declared.Settled.{Settled}
use Rattle.rules.specs.Rules.{Step}
use Rattle.rules.specs.Schedule.{command_of, obey}
use Rattle.rules.specs.Run.{End, commands, run}
use Rattle.rules.specs.Drain.{Drained, drain, blocking, blocked_at}
use Rattle.renaming.specs.Answers.{Answer, answer_of, memory_of}

-- ---- step

-- the record is of 4 bytes
abbrev pub entered_with : List ℕ → List ℕ → State → List ℕ → Result Unit Fault
entered_with p b s one = cond (eqb (length one) 4) (entered p b s) (refused BadLength 0)

abbrev pub command : List ℕ → Command
command one = command_of (get_or one 0 0) (get_or one 1 0) (get_or one 2 0) (get_or one 3 0)

-- what the record does
abbrev pub once : List ℕ → State → List ℕ → List ℕ → Step
once p s b one = obey (program p) (command one) (mach_of s) (cells b)

abbrev pub step_answer : Answer → Stepped
step_answer a = record { state = a.state; verdict = faulted a.verdict }

unfoldable pub stepped : List ℕ → State → List ℕ → List ℕ → Stepped
stepped p s b one =
    let v = entered_with p b s one in
    if_checked v (step_answer (answer_of s (once p s b one))) (record { state = s; verdict = v })

unfoldable pub stepped_memory : List ℕ → State → List ℕ → List ℕ → List ℕ
stepped_memory p s b one = if_checked (entered_with p b s one) (image (memory_of (cells b) (once p s b one))) b

pub record Steps (p : List ℕ) (s : State) (b one : List ℕ) (r : Stepped) (b' : List ℕ) : Type 0 where
  pub answer : r ≡ stepped p s b one
  pub bytes : b' ≡ stepped_memory p s b one

-- ---- run

-- the schedule is whole records
abbrev pub entered_run : List ℕ → List ℕ → State → List ℕ → Result Unit Fault
entered_run p b s records = cond (eqb (length records % 4) 0) (entered p b s) (refused BadLength 0)

-- where the run leads
abbrev pub runs : List ℕ → State → List ℕ → List ℕ → End
runs p s b records = run (program p) (commands records) (mach_of s) (cells b)

abbrev pub ended : End → Ran
ended e = record { state = state_of e.machine; accepted = e.accepted; issued = e.issued; verdict = faulted e.verdict }

unfoldable pub ran : List ℕ → State → List ℕ → List ℕ → Ran
ran p s b records =
    let v = entered_run p b s records in
    if_checked v (ended (runs p s b records)) (record { state = s; accepted = 0; issued = 0; verdict = v })

unfoldable pub ran_memory : List ℕ → State → List ℕ → List ℕ → List ℕ
ran_memory p s b records = if_checked (entered_run p b s records) (image (runs p s b records).memory) b

pub record Runs (p : List ℕ) (s : State) (b records : List ℕ) (r : Ran) (b' : List ℕ) : Type 0 where
  pub answer : r ≡ ran p s b records
  pub bytes : b' ≡ ran_memory p s b records

-- the same of a state that was checked
pub record Goes (p : List ℕ) (s : State) (b records : List ℕ) (r : Ran) (b' : List ℕ) : Type 0 where
  pub answer : r ≡ ended (runs p s b records)
  pub holds : cells b' ≡ (runs p s b records).memory
  pub formed : Formed b → Formed b'

-- ---- drain

abbrev pub settled : Drained → Settled
settled d =
    record {
      state = state_of d.machine;
      rules = d.rules;
      verdict = faulted (blocking d.machine d.memory d.machine.held);
      address = blocked_at d.machine.held;
    }

unfoldable pub drained : List ℕ → State → List ℕ → Settled
drained p s b =
    let v = entered p b s in
    if_checked v (settled (drain (mach_of s) (cells b)))
    (record { state = s; rules = 0; verdict = v; address = record { 0 = 0 } })

unfoldable pub drained_memory : List ℕ → State → List ℕ → List ℕ
drained_memory p s b = if_checked (entered p b s) (image (drain (mach_of s) (cells b)).memory) b

pub record Drains (p : List ℕ) (s : State) (b : List ℕ) (r : Settled) (b' : List ℕ) : Type 0 where
  pub answer : r ≡ drained p s b
  pub bytes : b' ≡ drained_memory p s b

-- the same of a state that was checked
pub record Empties (s : State) (b : List ℕ) (r : Settled) (b' : List ℕ) : Type 0 where
  pub answer : r ≡ settled (drain (mach_of s) (cells b))
  pub holds : cells b' ≡ (drain (mach_of s) (cells b)).memory
  pub formed : Formed b → Formed b'
