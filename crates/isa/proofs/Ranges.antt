-- The registers of a well-formed instruction are registers.
use mathlib.Core.Path.{◌≡◌}
use Prim.Native.Nat.{◌<◌}
use mathlib.Core.Bool.{true, ◌&&◌}
use lib.Dec.{leb}
use borrow.Author.Tests.{ltb-true}
use Rattle.records.proofs.Basics.{both}
use Rattle.isa.specs.declared.Reg.{Reg}
use Rattle.isa.specs.declared.Instr.{Instr}
use Rattle.isa.specs.declared.Instr.TheVariants.{Loadc, Loadpc, Op, Jz, Load, Store}
use Rattle.isa.specs.Instruction.{is_reg, is_formed, last_operation}

abbrev pub InRange : Instr → Type 0
InRange (Loadc r k) = r.0 < 32
InRange (Loadpc r) = r.0 < 32
InRange (Op r n r1 r2) = (r.0 < 32) × (r1.0 < 32) × (r2.0 < 32)
InRange (Jz r1 r2) = (r1.0 < 32) × (r2.0 < 32)
InRange (Load r r1) = (r.0 < 32) × (r1.0 < 32)
InRange (Store r1 r2) = (r1.0 < 32) × (r2.0 < 32)

below : (r : Reg) → is_reg r ≡ true → r.0 < 32
below r e = ltb-true r.0 32 e

two : (r1 r2 : Reg) → is_reg r1 && is_reg r2 ≡ true → (r1.0 < 32) × (r2.0 < 32)
two r1 r2 e = let p = both (is_reg r1) (is_reg r2) e in (below r1 p.0, below r2 p.1)

pub in_range : (i : Instr) → is_formed i ≡ true → InRange i
in_range (Loadc r k) e = below r e
in_range (Loadpc r) e = below r e
in_range (Op r n r1 r2) e =
    let p = both (is_reg r && is_reg r1 && is_reg r2) (leb n last_operation) e in
    let q = both (is_reg r && is_reg r1) (is_reg r2) p.0 in
    let t = two r r1 q.0 in
    (t.0, t.1, below r2 q.1)
in_range (Jz r1 r2) e = two r1 r2 e
in_range (Load r r1) e = two r r1 e
in_range (Store r1 r2) e = two r1 r2 e
