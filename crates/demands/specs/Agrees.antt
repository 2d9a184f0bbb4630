-- When a machine that can do nothing but issue agrees with a run of the in-order machine.
use Rattle.std.specs.Prelude.{ℕ, ◌≤◌, ◌<◌, ◌≡◌, ◌⊎◌, true, ◌||◌, List, [], ◌∷◌, map, Err}
use Rattle.records.specs.declared.Refusal.{Refusal}
use Rattle.records.specs.declared.Refusal.TheVariants.{IsUndefined, Outside}
use Rattle.records.specs.Refusal.{fault}
use Rattle.value.specs.declared.Value.{Value}
use Rattle.isa.specs.declared.InstrAddr.{InstrAddr}
use Rattle.kernel.specs.Kernel.{Run, going, stopped}
use Rattle.templates.specs.declared.Operand.TheVariants.{Known}
use Rattle.templates.specs.declared.Register.{Register}
use Rattle.templates.specs.declared.Counter.TheVariants.{At}
use Rattle.templates.specs.Templates.{register, is_memory}
use Rattle.templates.specs.Machine.{Itb, Mach}
use Rattle.sound.specs.Sound.{is_jz}
use Rattle.rules.specs.Rules.{refused, apply}
use Rattle.rules.specs.Drain.{asks}
use Rattle.inorder.specs.declared.Register.{Register as InOrderRegister}
use Rattle.inorder.specs.Entries as InOrder

-- a register that holds a value
abbrev pub valued : InOrderRegister → Register
valued r = register (Known r.value)

-- the in-order machine goes on, with registers rf, counter ia and memory m': no template is left, and the rest is equal
pub record Equal (rf : List InOrderRegister) (ia : InstrAddr) (m' : List Value) (σ : Mach) (m : List Value) : Type 0 where
  pub empty : σ.held ≡ []
  pub counter : σ.counter ≡ At ia
  pub registers : σ.registers ≡ map valued rf
  pub memory : m ≡ m'

-- it stopped at ia, for a reason, with memory m': the oldest template is a Load, a Store or a Jz from there, and it is refused for that reason
pub record Blocked (ia : InstrAddr) (why : Refusal) (m' : List Value) (σ : Mach) (m : List Value) : Type 0 where
  pub oldest : Itb
  pub later : List Itb
  pub held : σ.held ≡ oldest ∷ later
  pub kind : (is_memory oldest.work || is_jz oldest.work) ≡ true
  pub address : oldest.address ≡ ia
  pub refusal : apply (asks oldest.work) 0 σ m ≡ refused why
  pub reason : (why ≡ IsUndefined) ⊎ (why ≡ Outside)
  pub memory : m ≡ m'

abbrev pub Agrees : Run (List InOrderRegister) → Mach → List Value → Type 0
Agrees (going rf ia m') σ m = Equal rf ia m' σ m
Agrees (stopped ia why m') σ m = Blocked ia why m' σ m

-- the same of a run of n instructions: it executed them all, or it stopped
pub record AgreesWith (n : ℕ) (run : InOrder.End) (σ : Mach) (m : List Value) : Type 0 where
  pub within : run.executed ≤ n
  pub went : run.executed ≡ n → Equal run.machine.registers run.machine.counter run.memory σ m
  pub halted : run.executed < n → (why : Refusal) × (run.stop ≡ Err (fault why 0)) × Blocked run.machine.counter why run.memory σ m
