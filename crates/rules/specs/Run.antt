-- A run of a schedule: its records are obeyed in order until the first that is refused.
use Rattle.std.specs.Prelude.{ℕ, ◌+◌, ◌*◌, ◌/◌, List, [], ◌∷◌, length, get_or, Result, Ok, Err}
use Rattle.records.specs.declared.Refusal.{Refusal}
use Rattle.records.specs.Records.{tabulate}
use Rattle.value.specs.declared.Value.{Value}
use Rattle.isa.specs.declared.Instr.{Instr}
use Rattle.templates.specs.Machine.{Mach}
use Rattle.rules.specs.declared.Command.{Command}
use Rattle.rules.specs.declared.Command.TheVariants.{Malformed, Issue, Apply}
use Rattle.rules.specs.Rules.{Step, accepted, refused}
use Rattle.rules.specs.Schedule.{command_of, obey}

-- the commands of a schedule's bytes
unfoldable pub commands : List ℕ → List Command
commands b = tabulate (length b / 4) (λ i. command_of (get_or b (4 * i) 0) (get_or b (4 * i + 1) 0) (get_or b (4 * i + 2) 0) (get_or b (4 * i + 3) 0))

-- a run's end: accepted records, accepted issues, the refusal, if there is one, and the machine and memory after the
-- accepted part
pub record End : Type 0 where
  pub accepted : ℕ
  pub issued : ℕ
  pub verdict : Result Unit Refusal
  pub machine : Mach
  pub memory : List Value

-- an accepted command, counted if it is an issue
abbrev pub counted : Command → ℕ → ℕ
counted Malformed k = k
counted (Issue t) k = k + 1
counted (Apply r place) k = k

-- the rest of a run, unless the command was refused
abbrev pub proceed : (Mach → List Value → End) → (Refusal → End) → Step → End
proceed rest here (accepted σ m) = rest σ m
proceed rest here (refused n) = here n

-- after n accepted records, k of them issues
unfoldable pub run_from : List Instr → List Command → ℕ → ℕ → Mach → List Value → End
run_from prog [] n k σ m = record { accepted = n; issued = k; verdict = Ok tt; machine = σ; memory = m }
run_from prog (c ∷ cs) n k σ m =
    proceed (λ σ' m'. run_from prog cs (n + 1) (counted c k) σ' m')
    (λ no. record { accepted = n; issued = k; verdict = Err no; machine = σ; memory = m })
    (obey prog c σ m)

abbrev pub run : List Instr → List Command → Mach → List Value → End
run prog cs σ m = run_from prog cs 0 0 σ m
