-- What the functions of this crate promise where their types say how large a number is.
use Rattle.std.specs.Prelude.{◌≡◌, ℕ, ◌<◌, List, [], ◌∷◌, map, length, set}
use Rattle.value.specs.declared.Value.{Value}
use Rattle.value.specs.declared.Value.TheVariants.{Undefined, Word}
use Rattle.isa.specs.Instruction.{registers}
use Rattle.isa.specs.declared.Reg.{Reg}
use Rattle.isa.specs.declared.Tag.{Tag}
use Rattle.templates.specs.declared.Operand.{Operand}
use Rattle.templates.specs.declared.Operand.TheVariants.{Known, Waits}
use Rattle.templates.specs.declared.Register.{Register}
use Rattle.templates.specs.declared.Template.{Template}
use Rattle.templates.specs.declared.Work.{Work}
use Rattle.templates.specs.declared.Work.TheVariants.{Done, Op, Jz, Load, Store}
use Rattle.templates.specs.Machine.{Itb, ITB}
use Rattle.templates.specs.Layout.{places, itb, itbs, template}
use Rattle.rows.specs.Rows.{Row, waiting, value_number, number, row_of, tag_at, address_at, fill_number}
use Rattle.rows.specs.Shown.{numbers_of}

-- ---- what a type says

abbrev pub SmallTag : Tag → Type 0
SmallTag t = t.0 < 256

abbrev pub SmallValue : Value → Type 0
SmallValue Undefined = Unit {0}
SmallValue (Word w) = w < 4294967296

abbrev pub SmallOperand : Operand → Type 0
SmallOperand (Known v) = SmallValue v
SmallOperand (Waits t) = SmallTag t

abbrev pub SmallWork : Work → Type 0
SmallWork (Done t v) = SmallTag t × SmallValue v
SmallWork (Op t n x y) = SmallTag t × (n < 256) × SmallOperand x × SmallOperand y
SmallWork (Jz x y) = SmallOperand x × SmallOperand y
SmallWork (Load t x) = SmallTag t × SmallOperand x
SmallWork (Store x y) = SmallOperand x × SmallOperand y

abbrev pub Small : Itb → Type 0
Small x = (x.address.0 < 4294967296) × SmallWork x.work

-- of each of a list
abbrev pub All : {A : Type 0} → (A → Type 0) → List A → Type 0
All P [] = Unit {0}
All P (x ∷ xs) = P x × All P xs

-- ---- coded

pub record CodesValue (v : Value) (k : ℕ) : Type 0 where
  pub is : k ≡ value_number v
  pub small : SmallValue v

pub record Codes (o : Operand) (k : ℕ) : Type 0 where
  pub is : k ≡ number o
  pub small : SmallOperand o

pub record CodesRow (x : Itb) (r : Row) : Type 0 where
  pub is : r ≡ row_of x
  pub small : Small x

-- ---- changes

pub record Fills (t : Tag) (v : Value) (rf rf' : List ℕ) : Type 0 where
  pub numbers : rf' ≡ map (fill_number (waiting t) (value_number v)) rf
  pub small : SmallValue v

pub record Holds (r : Reg) (o : Operand) (rf rf' : List ℕ) : Type 0 where
  pub numbers : rf' ≡ set rf r.0 (number o)
  pub small : SmallOperand o

pub record Puts (p : ℕ) (x : Template) (ts ts' : List Row) : Type 0 where
  pub rows : ts' ≡ set ts p (row_of (itb x))
  pub small : Small (itb x)

-- a value template with the tag and the address of the one that stood there
abbrev pub Finishes : ℕ → Value → List Row → List Row → Type 0
Finishes p v ts ts' = Puts p (template (ITB (address_at ts p) (Done (tag_at ts p) v))) ts ts'

-- ---- the way in

pub record TurnsRegisters (rs : List Register) (r : List ℕ) : Type 0 where
  pub numbers : r ≡ numbers_of rs
  pub long : length rs ≡ registers
  pub small : All (λ x. SmallOperand x.holds) rs

pub record TurnsTemplates (xs : List Template) (ts : List Row) : Type 0 where
  pub rows : ts ≡ map row_of (itbs xs)
  pub long : length xs ≡ places
  pub small : All Small (itbs xs)
