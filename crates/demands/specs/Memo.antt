-- The memo's section 5: the rules of the renaming machine, a constructor for each, with the scope paper's decisions where the memo is open.
use Rattle.std.specs.Prelude.{◌≡◌, ◌≢◌, ℕ, ◌≤◌, ◌<◌, true, false, List, [], ◌∷◌, ◌++◌, length, set}
use Rattle.std.proofs.Math.Option.{some}
use Rattle.std.proofs.Math.ListN.{get_elem?}
use Rattle.value.specs.declared.Value.{Value}
use Rattle.value.specs.declared.Value.TheVariants.{Word}
use Rattle.value.specs.Operation.{result_of}
use Rattle.isa.specs.declared.InstrAddr.{InstrAddr}
use Rattle.isa.specs.declared.Reg.{Reg}
use Rattle.isa.specs.declared.Tag.{Tag}
use Rattle.isa.specs.declared.Instr.{Instr}
use Rattle.kernel.specs.Kernel.{instr_addr, next}
use Rattle.templates.specs.declared.Operand.{Operand}
use Rattle.templates.specs.declared.Operand.TheVariants.{Known, Waits}
use Rattle.templates.specs.declared.Work.TheVariants.{Done, Op, Jz, Load, Store}
use Rattle.templates.specs.declared.Register.{Register}
use Rattle.templates.specs.declared.Counter.{Counter}
use Rattle.templates.specs.declared.Counter.TheVariants.{At, Stall}
use Rattle.templates.specs.Templates.{no_tag, any_reg, fill_regs, contents, put}
use Rattle.templates.specs.Machine.{Itb, ITB, any_makes, any_holds, any_memory, fill_all, Mach, mach, room, last_tag}
use Rattle.rules.specs.declared.Rule.TheVariants as Rule
use Rattle.rules.specs.declared.Command.{Command}
use Rattle.rules.specs.declared.Command.TheVariants.{Issue, Apply}

-- ---- the memo's terms

abbrev pub Proc : Counter → List Register → List Itb → Mach
Proc pc rf itbs = mach pc rf itbs

-- prog[ia] = i
abbrev pub Fetches : List Instr → InstrAddr → Instr → Type 0
Fetches prog ia i = get_elem? prog ia.0 ≡ some i

-- room for one more template
abbrev pub Room : List Itb → Type 0
Room itbs = length itbs < room

-- an unused tag: of 1 to 64, and no template produces it
pub record Unused (t : Tag) (itbs : List Itb) : Type 0 where
  pub from : 1 ≤ t.0
  pub to : t.0 ≤ last_tag
  pub new : any_makes t itbs ≡ false

-- ---- the rules: by a command, the machine and memory on the left become those on the right

pub data Renames (prog : List Instr) : Mach → List Value → Command → Mach → List Value → Type 0 where
  -- the schedule names the tag, and it is 0 where the instruction writes no register
  loadc_issue : (ia : InstrAddr) (rf : List Register) (itbs : List Itb) (m : List Value) (t : Tag) (r : Reg) (v : ℕ)
      → Fetches prog ia (Instr.Loadc r v) → Room itbs → Unused t itbs
      → Renames prog (Proc (At ia) rf itbs) m (Issue t) (Proc (At (next ia)) (put rf r (Waits t)) (itbs ++ ITB ia (Done t (Word v)) ∷ [])) m
  loadpc_issue : (ia : InstrAddr) (rf : List Register) (itbs : List Itb) (m : List Value) (t : Tag) (r : Reg)
      → Fetches prog ia (Instr.Loadpc r) → Room itbs → Unused t itbs
      → Renames prog (Proc (At ia) rf itbs) m (Issue t) (Proc (At (next ia)) (put rf r (Waits t)) (itbs ++ ITB ia (Done t (Word ia.0)) ∷ [])) m
  op_issue : (ia : InstrAddr) (rf : List Register) (itbs : List Itb) (m : List Value) (t : Tag) (n : ℕ) (r r₁ r₂ : Reg)
      → Fetches prog ia (Instr.Op r n r₁ r₂) → Room itbs → Unused t itbs
      → Renames prog (Proc (At ia) rf itbs) m (Issue t)
      (Proc (At (next ia)) (put rf r (Waits t)) (itbs ++ ITB ia (Op t n (contents rf r₁) (contents rf r₂)) ∷ [])) m
  jz_issue : (ia : InstrAddr) (rf : List Register) (itbs : List Itb) (m : List Value) (r₁ r₂ : Reg)
      → Fetches prog ia (Instr.Jz r₁ r₂) → Room itbs
      → Renames prog (Proc (At ia) rf itbs) m (Issue no_tag) (Proc Stall rf (itbs ++ ITB ia (Jz (contents rf r₁) (contents rf r₂)) ∷ [])) m
  load-issue : (ia : InstrAddr) (rf : List Register) (itbs : List Itb) (m : List Value) (t : Tag) (r r₁ : Reg)
      → Fetches prog ia (Instr.Load r r₁) → Room itbs → Unused t itbs
      → Renames prog (Proc (At ia) rf itbs) m (Issue t)
      (Proc (At (next ia)) (put rf r (Waits t)) (itbs ++ ITB ia (Load t (contents rf r₁)) ∷ [])) m
  store-issue : (ia : InstrAddr) (rf : List Register) (itbs : List Itb) (m : List Value) (r₁ r₂ : Reg)
      → Fetches prog ia (Instr.Store r₁ r₂) → Room itbs
      → Renames prog (Proc (At ia) rf itbs) m (Issue no_tag) (Proc (At (next ia)) rf (itbs ++ ITB ia (Store (contents rf r₁) (contents rf r₂)) ∷ [])) m
  -- the other rules' place is the number of templates before theirs
  op : (pc : Counter) (rf : List Register) (itbs₁ itbs₂ : List Itb) (m : List Value) (ia₁ : InstrAddr) (t : Tag) (n : ℕ) (v₁ v₂ : Value)
      → Renames prog (Proc pc rf (itbs₁ ++ ITB ia₁ (Op t n (Known v₁) (Known v₂)) ∷ itbs₂)) m (Apply Rule.Operate (length itbs₁))
      (Proc pc rf (itbs₁ ++ ITB ia₁ (Done t (result_of n v₁ v₂)) ∷ itbs₂)) m
  -- one forward fills every holder
  value-forward : (pc : Counter) (rf : List Register) (itbs₁ itbs₂ : List Itb) (m : List Value) (ia₁ : InstrAddr) (t : Tag) (v : Value)
      → any_holds t itbs₂ ≡ true
      → Renames prog (Proc pc rf (itbs₁ ++ ITB ia₁ (Done t v) ∷ itbs₂)) m (Apply Rule.Forward (length itbs₁))
      (Proc pc rf (itbs₁ ++ ITB ia₁ (Done t v) ∷ fill_all t v itbs₂)) m
  -- to the register that holds the tag, whichever the instruction named
  value-commit : (pc : Counter) (rf : List Register) (itbs₁ itbs₂ : List Itb) (m : List Value) (ia₁ : InstrAddr) (t : Tag) (v : Value)
      → any_reg t rf ≡ true
      → Renames prog (Proc pc rf (itbs₁ ++ ITB ia₁ (Done t v) ∷ itbs₂)) m (Apply Rule.Commit (length itbs₁))
      (Proc pc (fill_regs t v rf) (itbs₁ ++ ITB ia₁ (Done t v) ∷ itbs₂)) m
  -- the wildcard is any value
  tag-retire : (pc : Counter) (rf : List Register) (itbs₁ itbs₂ : List Itb) (m : List Value) (ia₁ : InstrAddr) (t : Tag) (v : Value)
      → any_reg t rf ≡ false → any_holds t itbs₂ ≡ false
      → Renames prog (Proc pc rf (itbs₁ ++ ITB ia₁ (Done t v) ∷ itbs₂)) m (Apply Rule.Retire (length itbs₁)) (Proc pc rf (itbs₁ ++ itbs₂)) m
  -- a Jz stands last and the counter is stalled, as in every sound state
  jz_jump : (rf : List Register) (itbs : List Itb) (m : List Value) (ia₁ : InstrAddr) (nia : ℕ)
      → Renames prog (Proc Stall rf (itbs ++ ITB ia₁ (Jz (Known (Word 0)) (Known (Word nia))) ∷ [])) m (Apply Rule.Jump (length itbs))
      (Proc (At (instr_addr nia)) rf itbs) m
  -- the target may be a tag or undefined
  jz_no_jump : (rf : List Register) (itbs : List Itb) (m : List Value) (ia₁ : InstrAddr) (v : ℕ) (tv : Operand)
      → v ≢ 0
      → Renames prog (Proc Stall rf (itbs ++ ITB ia₁ (Jz (Known (Word v)) tv) ∷ [])) m (Apply Rule.NoJump (length itbs)) (Proc (At (next ia₁)) rf itbs) m
  -- edition one of the memory order: no Load or Store is ahead
  load : (pc : Counter) (rf : List Register) (itbs₁ itbs₂ : List Itb) (m : List Value) (ia₁ : InstrAddr) (t : Tag) (a : ℕ) (v : Value)
      → any_memory itbs₁ ≡ false → get_elem? m a ≡ some v
      → Renames prog (Proc pc rf (itbs₁ ++ ITB ia₁ (Load t (Known (Word a))) ∷ itbs₂)) m (Apply Rule.Load (length itbs₁))
      (Proc pc rf (itbs₁ ++ ITB ia₁ (Done t v) ∷ itbs₂)) m
  -- an undefined value may be stored
  store : (pc : Counter) (rf : List Register) (itbs₁ itbs₂ : List Itb) (m : List Value) (ia₁ : InstrAddr) (a : ℕ) (v : Value)
      → any_memory itbs₁ ≡ false → a < length m
      → Renames prog (Proc pc rf (itbs₁ ++ ITB ia₁ (Store (Known (Word a)) (Known v)) ∷ itbs₂)) m (Apply Rule.Store (length itbs₁))
      (Proc pc rf (itbs₁ ++ itbs₂)) (set m a v)
