-- The memo's section 6: the renaming machine and the in-order machine simulate each other.
use Rattle.std.specs.Prelude.{◌≡◌, ℕ, List, [], ◌∷◌, map}
use Rattle.value.specs.declared.Value.{Value}
use Rattle.isa.specs.declared.Tag.{Tag}
use Rattle.isa.specs.declared.Instr.{Instr}
use Rattle.isa.specs.declared.Instr.TheVariants.{Loadc, Loadpc, Op, Jz, Load, Store}
use Rattle.templates.specs.declared.Counter.TheVariants.{At}
use Rattle.templates.specs.Templates.{no_tag}
use Rattle.templates.specs.Machine.{Mach, mach, start}
use Rattle.rules.specs.declared.Rule.{Rule}
use Rattle.rules.specs.declared.Command.{Command}
use Rattle.rules.specs.declared.Command.TheVariants.{Issue, Apply}
use Rattle.rules.specs.Rules.{accepted, issue}
use Rattle.rules.specs.Drain.{drain}
use Rattle.inorder.specs.declared.InOrder.{InOrder}
use Rattle.inorder.specs.Machine as Machine
use Rattle.inorder.specs.Entries as InOrder
use Rattle.rules.specs.Schedules.{obeyed, issues}
use Rattle.demands.specs.Agrees.{valued, Agrees}
use Rattle.demands.specs.Memo.{Fetches, Renames}
use Rattle.demands.specs.MemoBase.{Executes}

-- the memo's ITBL: the renaming machine with the same counter and values, and no template
abbrev pub itbl : InOrder → Mach
itbl s = mach (At s.counter) (map valued s.registers) []

-- where no template is held, tag 1 is unused
abbrev pub tag_for : Instr → Tag
tag_for (Loadc r v) = record { 0 = 1 }
tag_for (Loadpc r) = record { 0 = 1 }
tag_for (Op r n r₁ r₂) = record { 0 = 1 }
tag_for (Jz r₁ r₂) = no_tag
tag_for (Load r r₁) = record { 0 = 1 }
tag_for (Store r₁ r₂) = no_tag

-- ---- Theorem 1

-- several of the memo's rules, and their commands
pub data Rewrites (prog : List Instr) : Mach → List Value → List Command → Mach → List Value → Type 0 where
  none : (σ : Mach) (m : List Value) → Rewrites prog σ m [] σ m
  next : (σ σ₁ σ₂ : Mach) (m m₁ m₂ : List Value) (c : Command) (cs : List Command)
      → Renames prog σ m c σ₁ m₁ → Rewrites prog σ₁ m₁ cs σ₂ m₂ → Rewrites prog σ m (c ∷ cs) σ₂ m₂

-- if s and m become s' and m', then so do their ITBL by rules of the renaming machine, one of them an issue
pub record Theorem1 (prog : List Instr) (s : InOrder) (m : List Value) (s' : InOrder) (m' : List Value) : Type 0 where
  pub commands : List Command
  pub rewrites : Rewrites prog (itbl s) m commands (itbl s') m'
  pub one : issues commands ≡ 1

-- an issue, with tag 1 or 0, and the drain after it do so
pub record IssueAndDrain (prog : List Instr) (s : InOrder) (m : List Value) (s' : InOrder) (m' : List Value) : Type 0 where
  pub instruction : Instr
  pub fetched : Fetches prog s.counter instruction
  pub after : Mach
  pub issues : issue prog (tag_for instruction) (itbl s) m ≡ accepted after m
  pub machine : (drain after m).machine ≡ itbl s'
  pub memory : (drain after m).memory ≡ m'

-- of a run from the start, of at most n instructions: a schedule leads to its end, with an issue for each that was executed
pub record Simulates (prog : List Instr) (m : List Value) (n : ℕ) : Type 0 where
  pub schedule : List Command
  pub leads :
      let e = InOrder.run_from prog n Machine.start 0 m in
      obeyed prog schedule start m ≡ accepted (itbl e.machine) e.memory
  pub issued : issues schedule ≡ (InOrder.run_from prog n Machine.start 0 m).executed

-- ---- Theorem 2

-- the memo's ITBF, where the drain leaves no template
pub record ITBF (σ : Mach) (m : List Value) (s : InOrder) (m' : List Value) : Type 0 where
  pub machine : (drain σ m).machine ≡ itbl s
  pub memory : (drain σ m).memory ≡ m'

pub record Theorem2 (prog : List Instr) (σ : Mach) (m : List Value) : Type 0 where
  -- an issue is one step in order
  pub issues : (t : Tag) (σ' : Mach) (m' : List Value) (s₁ s₂ : InOrder) (m₁ m₂ : List Value)
      → Renames prog σ m (Issue t) σ' m' → ITBF σ m s₁ m₁ → ITBF σ' m' s₂ m₂ → Executes prog s₁ m₁ s₂ m₂
  -- any other rule is none: the drain leaves the same, even where a template is left
  pub others : (r : Rule) (place : ℕ) (σ' : Mach) (m' : List Value)
      → Renames prog σ m (Apply r place) σ' m' → ((drain σ' m').machine ≡ (drain σ m).machine) × ((drain σ' m').memory ≡ (drain σ m).memory)
  -- after an issue a template is left exactly where the in-order machine stops, and it is the one that stopped
  pub agrees : (t : Tag) (σ' : Mach) (m' : List Value) (s : InOrder) (l : List Value)
      → Renames prog σ m (Issue t) σ' m' → ITBF σ m s l → Agrees (Machine.once prog s l) (drain σ' m').machine (drain σ' m').memory
