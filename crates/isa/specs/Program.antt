-- A program: its instructions, and the scan of its records.
use Rattle.std.specs.Prelude.{◌≡◌, ℕ, Bool, cond, List, [], ◌∷◌, ◌++◌, ltb, length, drop, Result, Ok, Err, is_ok}
use Rattle.std.proofs.Math.Option.{Option, none, some}
use Rattle.std.proofs.Math.ListN.{get_elem?}
use Rattle.records.specs.declared.Record.{Record}
use Rattle.records.specs.declared.Fault.{Fault}
use Rattle.records.specs.declared.Refusal.TheVariants.{BadLength, BadInstruction, NoInstruction}
use Rattle.records.specs.declared.Refusal.{Refusal}
use Rattle.records.specs.Records.{records, bytes}
use Rattle.records.specs.Scan.{scanned}
use Rattle.isa.specs.declared.InstrAddr.{InstrAddr}
use Rattle.isa.specs.declared.Instr.{Instr}
use Rattle.isa.specs.Instruction.{is_formed, parse, spelled, record_of}

-- the first of the instructions and the rest, as far as records are well formed
abbrev pub leads : Result Instr Refusal → List Instr → List Instr
leads (Ok i) is = i ∷ is
leads (Err n) is = []

-- the instructions of records, up to the first malformed one
abbrev pub instructions : List Record → List Instr
instructions [] = []
instructions (r ∷ rs) = leads (parse r) (instructions rs)

-- a program's instructions: the one at address a is number a, from 0
unfoldable pub program : List ℕ → List Instr
program b = instructions (records b)

abbrev pub is_instr : Record → Bool
is_instr r = is_ok (parse r)

unfoldable pub scan_of : List ℕ → Result Unit Fault
scan_of b = scanned BadInstruction is_instr b

-- what is at an address
abbrev pub parsed : Option Record → Result Instr Refusal
parsed (some r) = parse r
parsed none = Err NoInstruction

unfoldable pub fetched : List ℕ → InstrAddr → Result Instr Refusal
fetched b a = parsed (get_elem? (records b) a.0)

-- what the record at an address spells, which in a well-formed program is the same
abbrev pub spelling : Option Record → Result Instr Refusal
spelling (some r) = spelled r
spelling none = Err NoInstruction

unfoldable pub decoded : List ℕ → InstrAddr → Result Instr Refusal
decoded b a = spelling (get_elem? (records b) a.0)

-- the instruction at an address of a well-formed program, if there is one
abbrev pub present : Option Instr → Result Instr Refusal
present (some i) = Ok i
present none = Err NoInstruction

-- what the writer answers, and what it leaves in the output
abbrev pub writes : Instr → List ℕ → Result Unit Refusal
writes i out = cond (ltb (length out) 8) (Err BadLength) (cond (is_formed i) (Ok tt) (Err BadInstruction))

abbrev pub written : Instr → List ℕ → List ℕ
written i out = cond (ltb (length out) 8) out (cond (is_formed i) (bytes (record_of i) ++ drop 8 out) out)

pub record Wrote (i : Instr) (out : List ℕ) (r : Result Unit Refusal) (out' : List ℕ) : Type 0 where
  pub answer : r ≡ writes i out
  pub output : out' ≡ written i out
