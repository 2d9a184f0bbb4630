-- The text of a program: a line for each instruction, with its address.
use Rattle.std.specs.Prelude.{◌≡◌, ℕ, ◌*◌, ◌/◌, cond, List, ◌++◌, eqb, ltb, length, Result, Ok, Err}
use Rattle.records.specs.declared.Fault.{Fault}
use Rattle.records.specs.declared.Refusal.TheVariants.{BadLength}
use Rattle.records.specs.Scan.{refused}
use Rattle.isa.specs.declared.Reg.{Reg}
use Rattle.isa.specs.declared.Instr.{Instr}
use Rattle.isa.specs.declared.Instr.TheVariants.{Loadc, Loadpc, Op, Jz, Load, Store}
use Rattle.isa.specs.Program.{program, scan_of}
use Rattle.text.specs.Text.{into, ascii, decimal, numbered}

-- ---- a line

-- an operation's name
unfoldable pub name_text : ℕ → List ℕ
name_text n =
    cond (eqb n 0) (ascii "Add")
    (cond (eqb n 1) (ascii "Sub")
    (cond (eqb n 2) (ascii "Mul")
    (cond (eqb n 3) (ascii "Div")
    (ascii "Less"))))

unfoldable pub reg_text : Reg → List ℕ
reg_text r = ascii "r" ++ decimal r.0

-- two registers in brackets
unfoldable pub pair_text : Reg → Reg → List ℕ
pair_text r1 r2 = ascii "(" ++ (reg_text r1 ++ (ascii "," ++ (reg_text r2 ++ ascii ")")))

unfoldable pub body_text : Instr → List ℕ
body_text (Loadc r k) = reg_text r ++ (ascii " := Loadc(" ++ (decimal k ++ ascii ")"))
body_text (Loadpc r) = reg_text r ++ ascii " := Loadpc"
body_text (Op r n r1 r2) = reg_text r ++ (ascii " := " ++ (name_text n ++ pair_text r1 r2))
body_text (Jz r1 r2) = ascii "Jz" ++ pair_text r1 r2
body_text (Load r r1) = reg_text r ++ (ascii " := Load(" ++ (reg_text r1 ++ ascii ")"))
body_text (Store r1 r2) = ascii "Store" ++ pair_text r1 r2

-- the address, the instruction and a newline
unfoldable pub line_text : ℕ → Instr → List ℕ
line_text a i = decimal a ++ (ascii ": " ++ (body_text i ++ ascii "\n"))

-- ---- the listing

unfoldable pub listing : List ℕ → List ℕ
listing p = numbered line_text 0 (program p)

-- the bytes that the buffer needs for each instruction
abbrev pub room : ℕ
room = 31

-- a buffer of n bytes that is too short is refused as the program's length is, before any record
unfoldable pub checked : List ℕ → ℕ → Result Unit Fault
checked p n = cond (ltb n (room * (length p / 8))) (refused BadLength 0) (scan_of p)

abbrev pub if_accepted : {A : Type 0} → Result Unit Fault → A → A → A
if_accepted (Ok u) x y = x
if_accepted (Err f) x y = y

abbrev pub answered : Result Unit Fault → ℕ → Result ℕ Fault
answered (Ok u) n = Ok n
answered (Err f) n = Err f

-- the answer: how many bytes were written, or the fault
abbrev pub listed : List ℕ → List ℕ → Result ℕ Fault
listed p out = answered (checked p (length out)) (length (listing p))

-- what the buffer holds then
abbrev pub listed_into : List ℕ → List ℕ → List ℕ
listed_into p out = if_accepted (checked p (length out)) (into out (listing p)) out

pub record Lists (p out : List ℕ) (r : Result ℕ Fault) (out' : List ℕ) : Type 0 where
  pub answer : r ≡ listed p out
  pub output : out' ≡ listed_into p out
