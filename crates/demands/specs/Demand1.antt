-- Demand 1: an entry that is refused leaves the machine, memory and every other buffer that it was lent as they were.
use Rattle.std.specs.Prelude.{◌≡◌, ℕ, ◌*◌, ◌<◌, false, List, get_or, take, Result, IsErr}
use Rattle.records.specs.declared.Refusal.{Refusal}
use Rattle.records.specs.declared.Fault.{Fault}
use Rattle.records.specs.Scan.{accepted}
use Rattle.value.specs.declared.Value.{Value}
use Rattle.isa.specs.declared.DataAddr.{DataAddr}
use Rattle.isa.specs.declared.Instr.{Instr}
use Rattle.isa.specs.Program.{Wrote}
use Rattle.cells.specs.Cells.{Stores}
use Rattle.kernel.specs.Kernel.{Writes}
use Rattle.kernel.specs.Checks.{checked}
use Rattle.listing.specs.Listing.{Lists}
use Rattle.inorder.specs.declared.InOrder.{InOrder}
use Rattle.inorder.specs.declared.Stepped.{Stepped as InOrderStepped}
use Rattle.inorder.specs.declared.Ran.{Ran as InOrderRan}
use Rattle.inorder.specs.Entries as InOrder
use Rattle.templates.specs.declared.State.{State}
use Rattle.renaming.specs.declared.Stepped.{Stepped}
use Rattle.renaming.specs.declared.Ran.{Ran}
use Rattle.renaming.specs.declared.Settled.{Settled}
use Rattle.entry.specs.Entry.{entered}
use Rattle.renaming.specs.Entries.{entered_run, Steps, Runs, Drains}
use Rattle.report.specs.Report.{is_fit, Reports, Shows}

-- every element of a lent buffer is a byte
abbrev pub AreBytes : List ℕ → Type 0
AreBytes b = (i : ℕ) → get_or b i 0 < 256

-- whatever an entry answers, by its promise
pub record Demand1 : Type 0 where
  -- the renaming machine: a step that is refused, by the checks or by the rule
  pub step : (p : List ℕ) (s : State) (b one : List ℕ) → AreBytes b → (r : Stepped) (b' : List ℕ) → Steps p s b one r b' → IsErr r.verdict
      → (r.state ≡ s) × (b' ≡ b)
  -- a run that is refused by the checks
  pub run : (p : List ℕ) (s : State) (b records : List ℕ) (r : Ran) (b' : List ℕ) → Runs p s b records r b' → IsErr (entered_run p b s records)
      → (r.verdict ≡ entered_run p b s records) × (r.state ≡ s) × (r.accepted ≡ 0) × (r.issued ≡ 0) × (b' ≡ b)
  -- a run that passes the checks leaves what the run of its accepted records alone leaves, and that one isn't refused
  pub part : (p : List ℕ) (s : State) (b records : List ℕ) (r : Ran) (b' : List ℕ) → Runs p s b records r b' → entered_run p b s records ≡ accepted
      → Runs p s b (take (4 * r.accepted) records) (record { state = r.state; accepted = r.accepted; issued = r.issued; verdict = accepted }) b'
  -- a drain that is refused by the checks
  pub drain : (p : List ℕ) (s : State) (b : List ℕ) (r : Settled) (b' : List ℕ) → Drains p s b r b' → IsErr (entered p b s)
      → (r.verdict ≡ entered p b s) × (r.state ≡ s) × (r.rules ≡ 0) × (b' ≡ b)
  -- the in-order machine: a step that is refused or stops
  pub in_order_step : (p : List ℕ) (s : InOrder) (b : List ℕ) → AreBytes b → (r : InOrderStepped) (b' : List ℕ) → InOrder.Steps p s b r b' → IsErr r.stop
      → (r.machine ≡ s) × (b' ≡ b)
  -- a run that is refused by the checks
  pub in_order_run : (p : List ℕ) (s : InOrder) (b : List ℕ) (budget : ℕ) (r : InOrderRan) (b' : List ℕ) → InOrder.Runs p s b budget r b'
      → IsErr (checked p b) → (r.stop ≡ checked p b) × (r.machine ≡ s) × (r.executed ≡ 0) × (b' ≡ b)
  -- an instruction that isn't written
  pub write : (i : Instr) (out : List ℕ) (r : Result Unit Refusal) (out' : List ℕ) → Wrote i out r out' → IsErr r → out' ≡ out
  -- a listing that isn't written
  pub list : (p out : List ℕ) (r : Result ℕ Fault) (out' : List ℕ) → Lists p out r out' → IsErr r → out' ≡ out
  -- a cell outside memory
  pub store : (b : List ℕ) (a : DataAddr) (v : Value) (r : Result Unit Refusal) (b' : List ℕ) → Stores b a v r b' → IsErr r → b' ≡ b
  -- an address that is undefined, or outside memory
  pub write_at : (b : List ℕ) (a v : Value) (r : Result Unit Refusal) (b' : List ℕ) → Writes b a v r b' → IsErr r → b' ≡ b
  -- a report that isn't written: nothing was run
  pub report : (p b s out : List ℕ) (r : Result ℕ Refusal) (b' out' : List ℕ) → Reports p b s out r b' out' → IsErr r → (b' ≡ b) × (out' ≡ out)
  -- a report on a file that is refused: nothing was run
  pub input : (p b s out : List ℕ) (r : Result ℕ Refusal) (b' out' : List ℕ) → Reports p b s out r b' out' → is_fit p b s ≡ false → b' ≡ b
  -- a machine's contents that aren't written
  pub contents : (s : State) (b out : List ℕ) (r : Result ℕ Refusal) (out' : List ℕ) → Shows s b out r out' → IsErr r → out' ≡ out
