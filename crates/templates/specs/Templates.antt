-- What a template's work makes and holds, and what filling a tag in does; the same of registers.
use Rattle.std.specs.Prelude.{ℕ, Bool, true, false, cond, ◌||◌, List, [], ◌∷◌, map, eqb, get_or, set}
use Rattle.value.specs.declared.Value.{Value}
use Rattle.value.specs.Operation.{undefined}
use Rattle.isa.specs.declared.Reg.{Reg}
use Rattle.isa.specs.declared.Tag.{Tag}
use Rattle.templates.specs.declared.Operand.{Operand}
use Rattle.templates.specs.declared.Operand.TheVariants.{Known, Waits}
use Rattle.templates.specs.declared.Work.{Work}
use Rattle.templates.specs.declared.Work.TheVariants.{Done, Op, Jz, Load, Store}
use Rattle.templates.specs.declared.Register.{Register}

-- 0 means no tag
abbrev pub no_tag : Tag
no_tag = record { 0 = 0 }

abbrev pub same_tag : Tag → Tag → Bool
same_tag s t = eqb s.0 t.0

-- one of a list
abbrev pub any : {A : Type 0} → (A → Bool) → List A → Bool
any f [] = false
any f (x ∷ xs) = f x || any f xs

-- ---- one template's work

-- the tag that it makes, its name; 0 for none
abbrev pub makes : Work → Tag
makes (Done t v) = t
makes (Op t n x y) = t
makes (Jz x y) = no_tag
makes (Load t x) = t
makes (Store x y) = no_tag

-- the operand holds the tag t
abbrev pub waits : Tag → Operand → Bool
waits t (Known v) = false
waits t (Waits s) = same_tag s t

-- its first operand at 0, else its second; undefined where there is none
abbrev pub operand_at : Work → ℕ → Operand
operand_at (Done t v) j = Known undefined
operand_at (Op t n x y) j = cond (eqb j 0) x y
operand_at (Jz x y) j = cond (eqb j 0) x y
operand_at (Load t x) j = cond (eqb j 0) x (Known undefined)
operand_at (Store x y) j = cond (eqb j 0) x y

-- one of its operands holds the tag t
abbrev pub holds : Tag → Work → Bool
holds t (Done s v) = false
holds t (Op s n x y) = waits t x || waits t y
holds t (Jz x y) = waits t x || waits t y
holds t (Load s x) = waits t x
holds t (Store x y) = waits t x || waits t y

abbrev pub is_memory : Work → Bool
is_memory (Done t v) = false
is_memory (Op t n x y) = false
is_memory (Jz x y) = false
is_memory (Load t x) = true
is_memory (Store x y) = true

-- ---- a value filled in for a tag

abbrev pub fill : Tag → Value → Operand → Operand
fill t v (Known x) = Known x
fill t v (Waits s) = cond (same_tag s t) (Known v) (Waits s)

abbrev pub fill_work : Tag → Value → Work → Work
fill_work t v (Done s x) = Done s x
fill_work t v (Op s n x y) = Op s n (fill t v x) (fill t v y)
fill_work t v (Jz x y) = Jz (fill t v x) (fill t v y)
fill_work t v (Load s x) = Load s (fill t v x)
fill_work t v (Store x y) = Store (fill t v x) (fill t v y)

-- ---- registers

abbrev pub register : Operand → Register
register o = record { holds = o }

abbrev pub contents : List Register → Reg → Operand
contents rf r = (get_or rf r.0 (register (Known undefined))).holds

abbrev pub put : List Register → Reg → Operand → List Register
put rf r o = set rf r.0 (register o)

abbrev pub any_reg : Tag → List Register → Bool
any_reg t rf = any (λ r. waits t r.holds) rf

abbrev pub fill_regs : Tag → Value → List Register → List Register
fill_regs t v rf = map (λ r. register (fill t v r.holds)) rf
