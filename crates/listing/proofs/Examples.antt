-- The scope paper's lines, the largest number, and the longest line, by computation.
use mathlib.Core.Path.{◌≡◌, refl}
use mathlib.Core.List.{[], ◌∷◌, ◌++◌}
use lib.ListN.{length}
use Rattle.isa.specs.declared.Instr.TheVariants.{Loadc, Loadpc, Op, Jz, Load, Store}
use Rattle.isa.specs.Instruction.{reg}
use Rattle.text.specs.Text.{ascii, decimal, numbered}
use Rattle.listing.specs.Listing.{name_text, reg_text, pair_text, body_text, line_text, room}

lines : numbered line_text 0 (
    Loadc (reg 1) 6 ∷
    Loadc (reg 2) 0 ∷
    Op (reg 3) 3 (reg 1) (reg 2) ∷
    Op (reg 4) 0 (reg 1) (reg 1) ∷
    Store (reg 2) (reg 4) ∷
    Jz (reg 1) (reg 2) ∷
    Load (reg 4) (reg 1) ∷
    Loadpc (reg 5) ∷
    [])
    ≡ ascii "0: r1 := Loadc(6)\n"
    ++ (ascii "1: r2 := Loadc(0)\n"
    ++ (ascii "2: r3 := Div(r1,r2)\n"
    ++ (ascii "3: r4 := Add(r1,r1)\n"
    ++ (ascii "4: Store(r2,r4)\n"
    ++ (ascii "5: Jz(r1,r2)\n"
    ++ (ascii "6: r4 := Load(r1)\n"
    ++ ascii "7: r5 := Loadpc\n"))))))
unfolding numbered line_text body_text name_text pair_text reg_text decimal
lines = refl

largest : decimal 4294967295 ≡ ascii "4294967295"
unfolding decimal
largest = refl

longest : length (line_text 1023 (Loadc (reg 31) 4294967295)) ≡ room
unfolding line_text body_text reg_text decimal
longest = refl
