-- A schedule's records, each allowed where it stands, and the part of it that a run accepts.
use Rattle.std.specs.Prelude.{◌≡◌, ℕ, ◌≤◌, ◌<◌, List, [], ◌∷◌, length, take, Ok, Err, IsErr}
use Rattle.records.specs.declared.Refusal.{Refusal}
use Rattle.value.specs.declared.Value.{Value}
use Rattle.isa.specs.declared.Instr.{Instr}
use Rattle.templates.specs.Machine.{Mach}
use Rattle.rules.specs.declared.Command.{Command}
use Rattle.rules.specs.Rules.{Step, accepted, refused}
use Rattle.rules.specs.Schedule.{obey}
use Rattle.rules.specs.Run.{End, counted}
use Rattle.rules.specs.Moves.{in_turn}

abbrev pub obeyed : List Instr → List Command → Mach → List Value → Step
obeyed prog cs σ m = in_turn (obey prog) cs σ m

-- how many are issues
abbrev pub issues : List Command → ℕ
issues [] = 0
issues (c ∷ cs) = counted c (issues cs)

-- the end of a run is that of the longest part from the front whose records are each allowed where they stand
pub record RanTo (prog : List Instr) (cs : List Command) (σ : Mach) (m : List Value) (e : End) : Type 0 where
  pub within : e.accepted ≤ length cs
  pub allowed : obeyed prog (take e.accepted cs) σ m ≡ accepted e.machine e.memory
  pub issued : e.issued ≡ issues (take e.accepted cs)
  -- any longer part is refused, with the run's refusal
  pub longest : (n : ℕ) → e.accepted < n → n ≤ length cs
      → (why : Refusal) × (obeyed prog (take n cs) σ m ≡ refused why) × (e.verdict ≡ Err why)
  -- if there is one
  pub to_the_end : e.accepted ≡ length cs → e.verdict ≡ Ok tt
  pub cut_short : e.accepted < length cs → IsErr e.verdict
