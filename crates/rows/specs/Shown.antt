-- The templates and registers that rows and numbers show, and which rows and numbers stand for some.
use Rattle.std.specs.Prelude.{◌≡◌, ℕ, ◌≤◌, List, ◌++◌, map, length, take, replicate}
use Rattle.value.specs.Operation.{undefined}
use Rattle.isa.specs.Instruction.{registers}
use Rattle.templates.specs.declared.Operand.TheVariants.{Known}
use Rattle.templates.specs.declared.Register.{Register}
use Rattle.templates.specs.declared.Template.{Template}
use Rattle.templates.specs.Templates.{register}
use Rattle.templates.specs.Machine.{Itb}
use Rattle.templates.specs.Layout.{places, template, blank}
use Rattle.rows.specs.Rows.{Row, number, operand_of, row_of, itb_of}

-- ---- what is shown

abbrev pub held_of : ℕ → List Row → List Itb
held_of n ts = map itb_of (take n ts)

abbrev pub regs_of : List ℕ → List Register
regs_of rf = map (λ k. register (operand_of k)) rf

abbrev pub numbers_of : List Register → List ℕ
numbers_of rs = map (λ x. number x.holds) rs

-- ---- the working table: coding what its first n rows show gives them again

pub record Table (n : ℕ) (ts : List Row) : Type 0 where
  pub long : length ts ≡ places
  pub few : n ≤ places
  pub plain : map row_of (held_of n ts) ≡ take n ts

-- and the same of the registers
pub record File (rf : List ℕ) : Type 0 where
  pub long : length rf ≡ registers
  pub plain : numbers_of (regs_of rf) ≡ rf

-- ---- laid out: what is shown, in a table of so many places

abbrev pub laid : {A : Type 0} → ℕ → A → List A → List A
laid k d xs = take k (xs ++ replicate k d)

abbrev pub laid_templates : ℕ → List Row → List Template
laid_templates n ts = laid places blank (map template (held_of n ts))

abbrev pub laid_registers : List ℕ → List Register
laid_registers rf = laid registers (register (Known undefined)) (regs_of rf)
