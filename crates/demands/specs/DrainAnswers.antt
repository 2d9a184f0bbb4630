-- The public drain on bytes, of every state that passes the checks: at most four rules for each template, nothing but issue allowed at its end, and why it ended.
use Rattle.std.specs.Prelude.{ℕ, ◌*◌, ◌≤◌, ◌≡◌, ◌⊎◌, List, length, Err}
use Rattle.records.specs.declared.Refusal.{Refusal}
use Rattle.records.specs.Refusal.{fault}
use Rattle.records.specs.Scan.{accepted}
use Rattle.cells.specs.Cells.{cells}
use Rattle.templates.specs.declared.State.{State}
use Rattle.templates.specs.Layout.{places, mach_of}
use Rattle.renaming.specs.declared.Settled.{Settled}
use Rattle.entry.specs.Entry.{entered}
use Rattle.renaming.specs.Entries.{Drains}
use Rattle.rules.specs.Moves.{Stuck}
use Rattle.demands.specs.Agrees.{Blocked}

-- s is the state before the drain; r its answer and b' the memory after it
pub record Answered (s : State) (r : Settled) (b' : List ℕ) : Type 0 where
  pub bounded : r.rules ≤ 4 * s.count
  pub stuck : Stuck (mach_of r.state) (cells b')
  -- no template is left; or the answer has the oldest one's address, and its refusal as the fault
  pub answer : ((r.state.count ≡ 0) × (r.verdict ≡ accepted))
      ⊎ ((why : Refusal) × (r.verdict ≡ Err (fault why 0)) × Blocked r.address why (cells b') (mach_of r.state) (cells b'))

-- of a program p, a state s and a memory b; whatever the entry answers, by its promise
abbrev pub DrainAnswers : List ℕ → State → List ℕ → Type 0
DrainAnswers p s b =
    length s.templates ≡ places → entered p b s ≡ accepted → (r : Settled) (b' : List ℕ) → Drains p s b r b' → Answered s r b'
