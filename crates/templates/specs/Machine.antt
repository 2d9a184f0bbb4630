-- The machine without blanks: the memo's Proc, with the templates that it holds and nothing that is derived from them.
use Rattle.std.specs.Prelude.{ℕ, suc, Bool, cond, List, [], ◌∷◌, map, replicate}
use Rattle.value.specs.declared.Value.{Value}
use Rattle.value.specs.Operation.{undefined}
use Rattle.isa.specs.declared.InstrAddr.{InstrAddr}
use Rattle.isa.specs.declared.Tag.{Tag}
use Rattle.isa.specs.Instruction.{registers}
use Rattle.templates.specs.declared.Operand.TheVariants.{Known}
use Rattle.templates.specs.declared.Work.{Work}
use Rattle.templates.specs.declared.Work.TheVariants.{Done}
use Rattle.templates.specs.declared.Counter.{Counter}
use Rattle.templates.specs.declared.Counter.TheVariants.{At}
use Rattle.templates.specs.declared.Register.{Register}
use Rattle.templates.specs.Templates.{no_tag, same_tag, any, makes, holds, is_memory, fill_work, register}

-- ---- a template

-- the memo's ITB(ia, it): an instruction's address, and what is still to do for it
pub record Itb : Type 0 where
  pub address : InstrAddr
  pub work : Work

abbrev pub ITB : InstrAddr → Work → Itb
ITB ia w = record { address = ia; work = w }

-- what stands at a place that is none: address 0, tag 0, undefined value
abbrev pub nothing : Itb
nothing = ITB (record { 0 = 0 }) (Done no_tag undefined)

abbrev pub fill_itb : Tag → Value → Itb → Itb
fill_itb t v x = ITB x.address (fill_work t v x.work)

-- ---- several templates, the oldest first

abbrev pub any_makes : Tag → List Itb → Bool
any_makes t xs = any (λ x. same_tag (makes x.work) t) xs

-- the place of the tag's producer, or how many templates there are
abbrev pub producer : Tag → List Itb → ℕ
producer t [] = 0
producer t (x ∷ xs) = cond (same_tag (makes x.work) t) 0 (suc (producer t xs))

abbrev pub any_holds : Tag → List Itb → Bool
any_holds t xs = any (λ x. holds t x.work) xs

abbrev pub any_memory : List Itb → Bool
any_memory xs = any (λ x. is_memory x.work) xs

abbrev pub fill_all : Tag → Value → List Itb → List Itb
fill_all t v xs = map (fill_itb t v) xs

-- ---- the machine

-- the memo's Proc without its program: `held` is its ITBs
pub record Mach : Type 0 where
  pub counter : Counter
  pub registers : List Register
  pub held : List Itb

abbrev pub mach : Counter → List Register → List Itb → Mach
mach c rf xs = record { counter = c; registers = rf; held = xs }

-- a machine with another counter, other registers and other templates; whatever else it has stays
abbrev pub with : Mach → Counter → List Register → List Itb → Mach
with σ c rf xs = mach c rf xs

-- the most templates that it has room for
abbrev pub room : ℕ
room = 64

-- tags are 1 to this one
abbrev pub last_tag : ℕ
last_tag = 64

abbrev pub start : Mach
start = mach (At (record { 0 = 0 })) (replicate registers (register (Known undefined))) []
