-- The instructions and their records.
use Rattle.std.specs.Prelude.{ℕ, Bool, true, cond, ◌&&◌, List, eqb, leb, ltb, length, Result, Ok, Err}
use Rattle.records.specs.declared.Record.{Record}
use Rattle.records.specs.declared.Refusal.TheVariants.{BadLength, BadInstruction}
use Rattle.records.specs.declared.Refusal.{Refusal}
use Rattle.records.specs.Records.{record_from}
use Rattle.isa.specs.declared.Reg.{Reg}
use Rattle.isa.specs.declared.Instr.{Instr}
use Rattle.isa.specs.declared.Instr.TheVariants.{Loadc, Loadpc, Op, Jz, Load, Store}

abbrev pub registers : ℕ
registers = 32

-- the highest operation
abbrev pub last_operation : ℕ
last_operation = 4

abbrev pub reg : ℕ → Reg
reg n = record { 0 = n }

abbrev pub is_reg : Reg → Bool
is_reg r = ltb r.0 registers

abbrev pub is_formed : Instr → Bool
is_formed (Loadc r k) = is_reg r
is_formed (Loadpc r) = is_reg r
is_formed (Op r n r1 r2) = is_reg r && is_reg r1 && is_reg r2 && leb n last_operation
is_formed (Jz r1 r2) = is_reg r1 && is_reg r2
is_formed (Load r r1) = is_reg r && is_reg r1
is_formed (Store r1 r2) = is_reg r1 && is_reg r2

-- the instruction, if the bytes that it doesn't use are zero and it is well formed
abbrev pub if_formed : Bool → Instr → Result Instr Refusal
if_formed unused i = cond (unused && is_formed i) (Ok i) (Err BadInstruction)

-- bytes 0 to 3 are code, r, r1, r2, and the word is the constant
unfoldable pub parse : Record → Result Instr Refusal
parse f =
    let r = reg f.b1 in
    let r1 = reg f.b2 in
    let r2 = reg f.b3 in
    let k = f.word in
    cond (eqb f.b0 1) (if_formed (eqb f.b2 0 && eqb f.b3 0) (Loadc r k))
    (cond (eqb f.b0 2) (if_formed (eqb f.b2 0 && eqb f.b3 0 && eqb k 0) (Loadpc r))
    (cond (eqb f.b0 3) (if_formed true (Op r k r1 r2))
    (cond (eqb f.b0 4) (if_formed (eqb f.b1 0 && eqb k 0) (Jz r1 r2))
    (cond (eqb f.b0 5) (if_formed (eqb f.b3 0 && eqb k 0) (Load r r1))
    (cond (eqb f.b0 6) (if_formed (eqb f.b1 0 && eqb k 0) (Store r1 r2))
    (Err BadInstruction))))))

-- what the fields spell: neither registers nor unused bytes are judged, and no instruction is made of another code or operation
unfoldable pub spelled : Record → Result Instr Refusal
spelled f =
    let r = reg f.b1 in
    let r1 = reg f.b2 in
    let r2 = reg f.b3 in
    let k = f.word in
    cond (eqb f.b0 1) (Ok (Loadc r k))
    (cond (eqb f.b0 2) (Ok (Loadpc r))
    (cond (eqb f.b0 3) (cond (leb k last_operation) (Ok (Op r k r1 r2)) (Err BadInstruction))
    (cond (eqb f.b0 4) (Ok (Jz r1 r2))
    (cond (eqb f.b0 5) (Ok (Load r r1))
    (cond (eqb f.b0 6) (Ok (Store r1 r2))
    (Err BadInstruction))))))

abbrev pub record_of : Instr → Record
record_of (Loadc r k) = record { b0 = 1; b1 = r.0; b2 = 0; b3 = 0; word = k }
record_of (Loadpc r) = record { b0 = 2; b1 = r.0; b2 = 0; b3 = 0; word = 0 }
record_of (Op r n r1 r2) = record { b0 = 3; b1 = r.0; b2 = r1.0; b3 = r2.0; word = n }
record_of (Jz r1 r2) = record { b0 = 4; b1 = 0; b2 = r1.0; b3 = r2.0; word = 0 }
record_of (Load r r1) = record { b0 = 5; b1 = r.0; b2 = r1.0; b3 = 0; word = 0 }
record_of (Store r1 r2) = record { b0 = 6; b1 = 0; b2 = r1.0; b3 = r2.0; word = 0 }

-- the reader takes exactly 8 bytes
unfoldable pub read_of : List ℕ → Result Instr Refusal
read_of b = cond (eqb (length b) 8) (parse (record_from b 0)) (Err BadLength)
