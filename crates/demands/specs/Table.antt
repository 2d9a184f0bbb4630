-- The scope paper's examples P1 to P12, as one table of cases over the definitions.
use Rattle.std.specs.Prelude.{◌≡◌, ℕ, true, List, [], ◌∷◌, length, Result, Ok, Err}
use Rattle.records.specs.declared.Refusal.TheVariants.{BadInstruction, StillHeld, EarlierMemory}
use Rattle.records.specs.declared.Refusal.{Refusal}
use Rattle.value.specs.declared.Value.{Value}
use Rattle.value.specs.declared.Value.TheVariants.{Word}
use Rattle.value.specs.Operation.{undefined, result_of}
use Rattle.isa.specs.declared.Tag.{Tag}
use Rattle.isa.specs.declared.Instr.{Instr}
use Rattle.isa.specs.Instruction.{reg, read_of}
use Rattle.kernel.specs.Kernel.{instr_addr}
use Rattle.templates.specs.declared.Operand.{Operand}
use Rattle.templates.specs.declared.Operand.TheVariants.{Known, Waits}
use Rattle.templates.specs.declared.Work.{Work}
use Rattle.templates.specs.declared.Work.TheVariants.{Done, Op, Jz, Load, Store}
use Rattle.templates.specs.declared.Register.{Register}
use Rattle.templates.specs.declared.Counter.TheVariants.{At, Stall}
use Rattle.templates.specs.Templates.{put}
use Rattle.templates.specs.Machine.{Itb, ITB, Mach, mach, start}
use Rattle.sound.specs.Sound.{sound_mach}
use Rattle.rules.specs.declared.Rule.TheVariants as Rule
use Rattle.rules.specs.declared.Command.{Command}
use Rattle.rules.specs.declared.Command.TheVariants.{Issue, Apply}
use Rattle.rules.specs.Rules.{Step, accepted, refused}
use Rattle.rules.specs.Schedule.{obey}

-- ---- cases

pub data Case : Type 0 where
  -- an operation of two values, and its result
  computes : ℕ → Value → Value → Value → Case
  -- an instruction record's bytes, and what they are read as
  reads : List ℕ → Result Instr Refusal → Case
  -- a schedule's command, with a program, a machine and a memory, and what it does
  obeys : List Instr → Command → Mach → List Value → Step → Case

-- a machine that isn't sound would be refused before its command
abbrev pub Holds : Case → Type 0
Holds (computes n x y v) = result_of n x y ≡ v
Holds (reads b i) = read_of b ≡ i
Holds (obeys prog c σ m s) = (sound_mach (length prog) σ ≡ true) × (obey prog c σ m ≡ s)

abbrev pub All : List Case → Type 0
All [] = Unit
All (c ∷ cs) = Holds c × All cs

-- ---- what the cases are made of

abbrev pub tag : ℕ → Tag
tag n = record { 0 = n }

abbrev pub word : ℕ → Operand
word w = Known (Word w)

-- r1 holds this, every other register is undefined
abbrev pub r1 : Operand → List Register
r1 o = put start.registers (reg 1) o

-- from the instruction at this address
abbrev pub from : ℕ → Work → Itb
from a w = ITB (instr_addr a) w

-- ---- the table

abbrev pub table : List Case
table =
    -- P1 Add
    computes 0 (Word 4294967295) (Word 1) (Word 0) ∷
    -- P2 Sub
    computes 1 (Word 0) (Word 1) (Word 4294967295) ∷
    -- P3 Div: -7 by 2 is -3
    computes 3 (Word 4294967289) (Word 2) (Word 4294967293) ∷
    -- P4 Div
    computes 3 (Word 7) (Word 0) undefined ∷
    -- P5 Less: -1 is smaller than 0
    computes 4 (Word 4294967295) (Word 0) (Word 1) ∷
    -- P6 Mul
    computes 2 (Word 65536) (Word 65536) (Word 0) ∷
    -- P7
    reads (1 ∷ 1 ∷ 0 ∷ 0 ∷ 6 ∷ 0 ∷ 0 ∷ 0 ∷ []) (Ok (Instr.Loadc (reg 1) 6)) ∷
    -- P8
    reads (1 ∷ 1 ∷ 1 ∷ 0 ∷ 6 ∷ 0 ∷ 0 ∷ 0 ∷ []) (Err BadInstruction) ∷
    -- P9 r1 := Add(r1,r1) with tag 1: t1 := Add(5,5), and r1 holds t1
    obeys (Instr.Op (reg 1) 0 (reg 1) (reg 1) ∷ [])
    (Issue (tag 1))
    (mach (At (instr_addr 0)) (r1 (word 5)) [])
    []
    (accepted (mach (At (instr_addr 1)) (r1 (Waits (tag 1))) (from 0 (Op (tag 1) 0 (word 5) (word 5)) ∷ [])) []) ∷
    -- P10 retire of t1 := 6 while r1 holds t1
    obeys (Instr.Loadc (reg 1) 6 ∷ [])
    (Apply Rule.Retire 0)
    (mach (At (instr_addr 1)) (r1 (Waits (tag 1))) (from 0 (Done (tag 1) (Word 6)) ∷ []))
    []
    (refused StillHeld) ∷
    -- P11 r1 := Load(r3) after Store(r2,r1), which waits; both addresses are 0
    obeys (Instr.Store (reg 2) (reg 1) ∷ Instr.Load (reg 1) (reg 3) ∷ [])
    (Apply Rule.Load 1)
    (mach (At (instr_addr 2)) (r1 (Waits (tag 1))) (from 0 (Store (word 0) (word 5)) ∷ from 1 (Load (tag 1) (word 0)) ∷ []))
    (undefined ∷ [])
    (refused EarlierMemory) ∷
    -- P12 no-jump on Jz(7, t1): the target is still a tag
    obeys (Instr.Loadc (reg 1) 6 ∷ Instr.Jz (reg 2) (reg 1) ∷ [])
    (Apply Rule.NoJump 1)
    (mach Stall (r1 (Waits (tag 1))) (from 0 (Done (tag 1) (Word 6)) ∷ from 1 (Jz (word 7) (Waits (tag 1))) ∷ []))
    []
    (accepted (mach (At (instr_addr 2)) (r1 (Waits (tag 1))) (from 0 (Done (tag 1) (Word 6)) ∷ [])) []) ∷
    []
