-- The drain: the lowest place with an allowed rule other than issue, there the lowest rule number, until none.
use Rattle.std.specs.Prelude.{ℕ, zero, suc, ◌+◌, ◌*◌, cond, List, [], ◌∷◌, eqb, length, Result, Ok, Err}
use Rattle.records.specs.declared.Refusal.{Refusal}
use Rattle.records.specs.declared.Refusal.TheVariants.{NoTemplate}
use Rattle.value.specs.declared.Value.{Value}
use Rattle.value.specs.declared.Value.TheVariants.{Undefined, Word}
use Rattle.isa.specs.declared.InstrAddr.{InstrAddr}
use Rattle.isa.specs.declared.Tag.{Tag}
use Rattle.templates.specs.declared.Operand.{Operand}
use Rattle.templates.specs.declared.Operand.TheVariants.{Known, Waits}
use Rattle.templates.specs.declared.Work.{Work}
use Rattle.templates.specs.declared.Work.TheVariants.{Done, Op, Jz, Load, Store}
use Rattle.templates.specs.declared.Register.{Register}
use Rattle.templates.specs.Templates.{any_reg}
use Rattle.templates.specs.Machine.{Itb, any_holds, Mach, room}
use Rattle.rules.specs.declared.Rule.{Rule}
use Rattle.rules.specs.declared.Rule.TheVariants as Rule
use Rattle.rules.specs.Rules.{Step, accepted, refused, apply}

-- ---- the next rule

-- the first of two that is accepted
abbrev pub first : Step → Step → Step
first (accepted σ m) other = accepted σ m
first (refused n) other = other

-- by their numbers, 2 to 9
abbrev pub rules : List Rule
rules = Rule.Operate ∷ Rule.Forward ∷ Rule.Commit ∷ Rule.Retire ∷ Rule.Load ∷ Rule.Store ∷ Rule.Jump ∷ Rule.NoJump ∷ []

abbrev pub first_of : List Rule → ℕ → Mach → List Value → Step
first_of [] place σ m = refused NoTemplate
first_of (r ∷ rs) place σ m = first (apply r place σ m) (first_of rs place σ m)

-- at one of n places, from a place on
abbrev pub seek : ℕ → ℕ → Mach → List Value → Step
seek zero place σ m = refused NoTemplate
seek (suc n) place σ m = first (first_of rules place σ m) (seek n (suc place) σ m)

unfoldable pub oldest : Mach → List Value → Step
oldest σ m = seek (length σ.held) 0 σ m

-- ---- the drain

pub record Drained : Type 0 where
  pub rules : ℕ
  pub machine : Mach
  pub memory : List Value

-- after n rules, the rest of a drain, unless no rule is allowed
abbrev pub further : (Mach → List Value → Drained) → Drained → Step → Drained
further rest here (accepted σ m) = rest σ m
further rest here (refused n) = here

-- at most so many further rules
unfoldable pub drain_from : ℕ → ℕ → Mach → List Value → Drained
drain_from zero n σ m = record { rules = n; machine = σ; memory = m }
drain_from (suc fuel) n σ m =
    further (λ σ' m'. drain_from fuel (n + 1) σ' m') (record { rules = n; machine = σ; memory = m }) (oldest σ m)

-- four rules for each template are enough
abbrev pub drain : Mach → List Value → Drained
drain σ m = drain_from (4 * room) 0 σ m

-- ---- what blocks it

-- the rule that a template waits to do; of a Jz that of jump
abbrev pub asks : Work → Rule
asks (Done t v) = Rule.Retire
asks (Op t n x y) = Rule.Operate
asks (Jz x y) = Rule.Jump
asks (Load t x) = Rule.Load
asks (Store x y) = Rule.Store

abbrev pub refusal : Step → Result Unit Refusal
refusal (accepted σ m) = Ok tt
refusal (refused n) = Err n

-- the rule's refusal at a place, if there is one
abbrev pub refusal_at : Rule → ℕ → Mach → List Value → Result Unit Refusal
refusal_at r place σ m = refusal (apply r place σ m)

-- why the template x at a place doesn't run
abbrev pub blocked_by : ℕ → Mach → List Value → Itb → Result Unit Refusal
blocked_by place σ m x = refusal_at (asks x.work) place σ m

-- the oldest of the templates that are left: its refusal, if there is one, and its address
abbrev pub blocking : Mach → List Value → List Itb → Result Unit Refusal
blocking σ m [] = Ok tt
blocking σ m (x ∷ xs) = blocked_by 0 σ m x

abbrev pub blocked_at : List Itb → InstrAddr
blocked_at [] = record { 0 = 0 }
blocked_at (x ∷ xs) = x.address

-- ---- what the code's leaves answer

-- the one rule that can be the lowest allowed at a template, by the registers and the templates behind it
abbrev pub due_value : List Register → List Itb → Tag → Rule
due_value rf post t = cond (any_holds t post) Rule.Forward (cond (any_reg t rf) Rule.Commit Rule.Retire)

abbrev pub due_jump : Operand → Rule
due_jump (Known Undefined) = Rule.Jump
due_jump (Known (Word w)) = cond (eqb w 0) Rule.Jump Rule.NoJump
due_jump (Waits t) = Rule.Jump

abbrev pub due : List Register → List Itb → Work → Rule
due rf post (Done t v) = due_value rf post t
due rf post (Op t n x y) = Rule.Operate
due rf post (Jz x y) = due_jump x
due rf post (Load t x) = Rule.Load
due rf post (Store x y) = Rule.Store
