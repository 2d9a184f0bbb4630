-- A line has at most 31 bytes, so that the listing of a program has room.
use mathlib.Core.Path.{◌≡◌, refl, ap}
use Prim.Native.Nat.{ℕ, zero, suc, ◌+◌, ◌*◌, ◌/◌, ◌^◌, ◌<◌, ◌≤◌}
use native.Mathlib.Omega.{arith}
use mathlib.Core.Bool.{Bool, true, false, cond, ◌&&◌}
use mathlib.Core.List.{List}
use lib.Dec.{eqb, leb}
use lib.ListN.{length, get_or, length-append}
use borrow.Author.Tests.{ltb-true}
use Rattle.records.specs.declared.Record.{Record}
use Rattle.std.specs.Prelude.{Result, Ok, Err}
use Rattle.records.specs.declared.Refusal.{Refusal}
use Rattle.records.specs.Records.{record_from, tabulate, records}
use Rattle.records.proofs.Basics.{both}
use Rattle.isa.specs.declared.Reg.{Reg}
use Rattle.isa.specs.declared.Instr.{Instr}
use Rattle.isa.specs.declared.Instr.TheVariants.{Loadc, Loadpc, Op, Jz, Load, Store}
use Rattle.isa.specs.Instruction.{registers, last_operation, is_reg, is_formed, record_of, parse}
use Rattle.isa.specs.Program.{leads, instructions, program}
use Rattle.isa.proofs.RoundTrip.{record-parsed}
use Rattle.text.specs.Text.{numbered}
use Rattle.text.proofs.Decimal.{decimal_width}
use Rattle.listing.specs.Listing.{name_text, reg_text, pair_text, body_text, line_text, listing, room}

-- ---- a line
either : (t : Bool) (x y : List ℕ) (n : ℕ) → length x ≤ n → length y ≤ n → length (cond t x y) ≤ n
either true x y n h l = h
either false x y n h l = l

name_short : (n : ℕ) → length (name_text n) ≤ 4
unfolding name_text
name_short n =
    either (eqb n 0) _ _ 4 (omega arith)
    (either (eqb n 1) _ _ 4 (omega arith)
    (either (eqb n 2) _ _ 4 (omega arith)
    (either (eqb n 3) _ _ 4 (omega arith) (omega arith))))

reg_short : (r : Reg) → is_reg r ≡ true → length (reg_text r) ≤ 3
unfolding reg_text
reg_short r f =
    let small = ltb-true r.0 registers f in
    omega (arith, decimal_width 2 r.0 (omega arith) (omega arith))

pair_short : (r1 r2 : Reg) → is_reg r1 ≡ true → is_reg r2 ≡ true → length (pair_text r1 r2) ≤ 9
unfolding pair_text
pair_short r1 r2 f1 f2 = simp length-append (omega (arith, reg_short r1 f1, reg_short r2 f2))

body_short : (i : Instr) → is_formed i ≡ true → (record_of i).word < 2 ^ 32 → length (body_text i) ≤ 24
unfolding body_text
body_short (Loadc r k) f h = let d = decimal_width 10 k (omega arith) (omega arith) in simp length-append (omega (arith, reg_short r f))
body_short (Loadpc r) f h = simp length-append (omega (arith, reg_short r f))
body_short (Op r n r1 r2) f h =
    let all = (both (is_reg r && is_reg r1 && is_reg r2) (leb n last_operation) f).0 in
    let front = both (is_reg r && is_reg r1) (is_reg r2) all in
    let f' = both (is_reg r) (is_reg r1) front.0 in
    simp length-append (omega (arith, reg_short r f'.0, name_short n, pair_short r1 r2 f'.1 front.1))
body_short (Jz r1 r2) f h = let f' = both (is_reg r1) (is_reg r2) f in simp length-append (omega (arith, pair_short r1 r2 f'.0 f'.1))
body_short (Load r r1) f h = let f' = both (is_reg r) (is_reg r1) f in simp length-append (omega (arith, reg_short r f'.0, reg_short r1 f'.1))
body_short (Store r1 r2) f h = let f' = both (is_reg r1) (is_reg r2) f in simp length-append (omega (arith, pair_short r1 r2 f'.0 f'.1))

line_short : (a : ℕ) (i : Instr) → a < 1024 → is_formed i ≡ true → (record_of i).word < 2 ^ 32 → length (line_text a i) ≤ room
unfolding line_text
line_short a i l f h = let d = decimal_width 4 a (omega arith) (omega arith) in let b = body_short i f h in simp length-append (omega arith)

-- ---- the listing
lead_short : (a : ℕ) (r : Record) (is : List Instr) (n : ℕ) (t : Result Instr Refusal)
    → parse r ≡ t → a < 1024 → r.word < 2 ^ 32 → length (numbered line_text (suc a) is) ≤ room * n → length (numbered line_text a (leads t is)) ≤ room * suc n
unfolding numbered
lead_short a r is n (Ok i) e l h rest =
    let p = record-parsed r i e in
    let word : (record_of i).word ≡ r.word = ap (λ (r : Record). r.word) p.same in
    let line = line_short a i l p.formed (omega arith) in
    simp length-append (omega arith)
lead_short a r is n (Err m) e l h rest = omega arith

lines_short : (a n : ℕ) (f : ℕ → Record) → a + n ≤ 1024 → ((i : ℕ) → (f i).word < 2 ^ 32) → length (numbered line_text a (instructions (tabulate n f))) ≤ room * n
unfolding numbered
lines_short a zero f l h = omega arith
lines_short a (suc n) f l h =
    lead_short a (f 0) (instructions (tabulate n (λ i. f (suc i)))) n (parse (f 0)) refl (omega arith) (h 0)
    (lines_short (suc a) n (λ i. f (suc i)) (omega arith) (λ i. h (suc i)))

pub listing_short : (p : List ℕ) → length p ≤ 8192 → ((i : ℕ) → get_or p i 0 < 256) → length (listing p) ≤ room * (length p / 8)
unfolding listing program records
listing_short p l small =
    lines_short 0 (length p / 8) (λ i. record_from p (8 * i)) (omega arith)
    (λ i. let at = 8 * i + 4 in omega (arith, small at, small (at + 1), small (at + 2), small (at + 3)))
