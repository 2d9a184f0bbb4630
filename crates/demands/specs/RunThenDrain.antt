-- Demand 3 on bytes: the public run from the start, then the public drain, and the public in-order run of as many instructions as were issued.
use Rattle.std.specs.Prelude.{ℕ, ◌≤◌, ◌<◌, ◌≡◌, ◌⊎◌, List, map, Err}
use Rattle.records.specs.declared.Refusal.TheVariants.{IsUndefined, Outside}
use Rattle.records.specs.Refusal.{fault}
use Rattle.records.specs.Scan.{accepted}
use Rattle.templates.specs.declared.Counter.TheVariants.{At}
use Rattle.templates.specs.Machine.{start}
use Rattle.templates.specs.Layout.{state_of}
use Rattle.renaming.specs.declared.Ran.{Ran}
use Rattle.renaming.specs.declared.Settled.{Settled}
use Rattle.renaming.specs.Entries.{entered_run, Runs, Drains}
use Rattle.inorder.specs.declared.Ran.{Ran as InOrderRan}
use Rattle.inorder.specs.Machine as Machine
use Rattle.inorder.specs.Entries as InOrder
use Rattle.demands.specs.Agrees.{valued}
use Rattle.demands.specs.Demand1.{AreBytes}

-- the in-order run went through: nothing blocks the drain, and the machines are equal
pub record Emptied (d : Settled) (q : InOrderRan) : Type 0 where
  pub verdict : d.verdict ≡ accepted
  pub empty : d.state.count ≡ 0
  pub counter : d.state.counter ≡ At q.machine.counter
  pub registers : d.state.registers ≡ map valued q.machine.registers

-- it stopped: the drain names the stop, and where
pub record StoppedAt (d : Settled) (q : InOrderRan) : Type 0 where
  pub verdict : d.verdict ≡ q.stop
  pub reason : (q.stop ≡ Err (fault IsUndefined 0)) ⊎ (q.stop ≡ Err (fault Outside 0))
  pub address : d.address ≡ q.machine.counter

-- r is the run's answer; d and memory b those of the drain after it; q and memory c those of the in-order run
pub record SameEnd (r : Ran) (d : Settled) (b : List ℕ) (q : InOrderRan) (c : List ℕ) : Type 0 where
  pub within : q.executed ≤ r.issued
  pub went : q.executed ≡ r.issued → Emptied d q
  pub halted : q.executed < r.issued → StoppedAt d q
  pub memory : b ≡ c

-- a program p, a memory b and a schedule that pass the checks from the start; whatever the three entries answer, by their promises
abbrev pub RunThenDrain : List ℕ → List ℕ → List ℕ → Type 0
RunThenDrain p b records =
    AreBytes p → AreBytes b → entered_run p b (state_of start) records ≡ accepted
    → (r : Ran) (b' : List ℕ) → Runs p (state_of start) b records r b'
    → (d : Settled) (b'' : List ℕ) → Drains p r.state b' d b''
    → (q : InOrderRan) (c : List ℕ) → InOrder.Runs p Machine.start b r.issued q c
    → SameEnd r d b'' q c
