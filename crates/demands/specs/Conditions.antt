-- What each command, and each step of the in-order machine, needs, in the scope paper's order, each condition with the refusal that is given when it is the first to fail.
use Rattle.std.specs.Prelude.{◌≡◌, ◌⊎◌, suc, Bool, true, false, ◌&&◌, ◌||◌, not, List, [], ◌∷◌, eqb, ltb, length, get_or, take, drop}
use Rattle.std.proofs.Math.Option.{Option, none, some}
use Rattle.std.proofs.Math.ListN.{get_elem?}
use Rattle.records.specs.declared.Refusal.{Refusal}
use Rattle.records.specs.declared.Refusal.TheVariants.{BadSchedule, NoInstruction, Stalled, Full, BadTag, NoTemplate, OtherKind, NeedsTag, NotHeld, StillHeld, EarlierMemory, IsUndefined, Outside, OtherWay}
use Rattle.value.specs.declared.Value.{Value}
use Rattle.value.specs.declared.Value.TheVariants.{Undefined, Word}
use Rattle.value.specs.Operation.{undefined}
use Rattle.isa.specs.declared.Tag.{Tag}
use Rattle.isa.specs.declared.Instr.{Instr}
use Rattle.templates.specs.declared.Operand.{Operand}
use Rattle.templates.specs.declared.Operand.TheVariants.{Known, Waits}
use Rattle.templates.specs.declared.Work.{Work}
use Rattle.templates.specs.declared.Work.TheVariants.{Done, Op, Jz, Load, Store}
use Rattle.templates.specs.declared.Counter.{Counter}
use Rattle.templates.specs.declared.Counter.TheVariants.{At, Stall}
use Rattle.templates.specs.Templates.{makes, operand_at, any_reg}
use Rattle.templates.specs.Machine.{Itb, nothing, any_holds, any_memory, Mach, room}
use Rattle.sound.specs.Sound.{is_jz}
use Rattle.rules.specs.declared.Rule.{Rule}
use Rattle.rules.specs.declared.Command.{Command}
use Rattle.rules.specs.declared.Command.TheVariants.{Malformed, Issue, Apply}
use Rattle.rules.specs.Rules.{tag_ok}
use Rattle.inorder.specs.declared.Register.{Register}
use Rattle.inorder.specs.declared.InOrder.{InOrder}
use Rattle.inorder.specs.Machine.{held}

-- ---- conditions in order

pub record Condition : Type 0 where
  pub holds : Bool
  pub refusal : Refusal

-- it holds, or this is the refusal
infix 20 ◌else◌
abbrev pub ◌else◌ : Bool → Refusal → Condition
b else n = record { holds = b; refusal = n }

abbrev pub AllHold : List Condition → Type 0
AllHold [] = Unit
AllHold (c ∷ cs) = (c.holds ≡ true) × AllHold cs

-- the first that fails has the refusal n
abbrev pub FirstFails : Refusal → List Condition → Type 0
FirstFails n [] = ⊥
FirstFails n (c ∷ cs) = ((c.holds ≡ false) × (c.refusal ≡ n)) ⊎ ((c.holds ≡ true) × FirstFails n cs)

-- ---- operands

abbrev pub is_known : Operand → Bool
is_known (Known v) = true
is_known (Waits t) = false

abbrev pub value_in : Operand → Value
value_in (Known v) = v
value_in (Waits t) = undefined

abbrev pub is_defined : Value → Bool
is_defined Undefined = false
is_defined (Word w) = true

-- a Jz condition that is zero, and one that isn't
abbrev pub is_zero : Value → Bool
is_zero Undefined = false
is_zero (Word w) = eqb w 0

abbrev pub is_not_zero : Value → Bool
is_not_zero Undefined = false
is_not_zero (Word w) = not (eqb w 0)

-- an address inside memory
abbrev pub is_within : List Value → Value → Bool
is_within m Undefined = false
is_within m (Word w) = ltb w (length m)

-- ---- the kind of template that a rule is for

abbrev pub is_value : Work → Bool
is_value (Done t v) = true
is_value (Op t n x y) = false
is_value (Jz x y) = false
is_value (Load t x) = false
is_value (Store x y) = false

abbrev pub is_op : Work → Bool
is_op (Done t v) = false
is_op (Op t n x y) = true
is_op (Jz x y) = false
is_op (Load t x) = false
is_op (Store x y) = false

abbrev pub is_load : Work → Bool
is_load (Done t v) = false
is_load (Op t n x y) = false
is_load (Jz x y) = false
is_load (Load t x) = true
is_load (Store x y) = false

abbrev pub is_store : Work → Bool
is_store (Done t v) = false
is_store (Op t n x y) = false
is_store (Jz x y) = false
is_store (Load t x) = false
is_store (Store x y) = true

-- ---- the rules but issue: of the template with work w, `pre` before it and `post` behind it

module _ (σ : Mach) (m : List Value) (pre post : List Itb) (w : Work) where
  -- its operands
  abbrev pub first : Operand
  first = operand_at w 0

  abbrev pub second : Operand
  second = operand_at w 1

  abbrev pub needs : Rule → List Condition
  needs Rule.Operate = (is_op w else OtherKind) ∷ (is_known first && is_known second else NeedsTag) ∷ []
  needs Rule.Forward = (is_value w else OtherKind) ∷ (any_holds (makes w) post else NotHeld) ∷ []
  needs Rule.Commit = (is_value w else OtherKind) ∷ (any_reg (makes w) σ.registers else NotHeld) ∷ []
  needs Rule.Retire = (is_value w else OtherKind) ∷ (not (any_reg (makes w) σ.registers || any_holds (makes w) post) else StillHeld) ∷ []
  needs Rule.Load =
      (is_load w else OtherKind)
      ∷ (not (any_memory pre) else EarlierMemory)
      ∷ (is_known first else NeedsTag)
      ∷ (is_defined (value_in first) else IsUndefined)
      ∷ (is_within m (value_in first) else Outside)
      ∷ []
  needs Rule.Store =
      (is_store w else OtherKind)
      ∷ (not (any_memory pre) else EarlierMemory)
      ∷ (is_known first && is_known second else NeedsTag)
      ∷ (is_defined (value_in first) else IsUndefined)
      ∷ (is_within m (value_in first) else Outside)
      ∷ []
  needs Rule.Jump =
      (is_jz w else OtherKind)
      ∷ (is_known first else NeedsTag)
      ∷ (is_defined (value_in first) else IsUndefined)
      ∷ (is_zero (value_in first) else OtherWay)
      ∷ (is_known second else NeedsTag)
      ∷ (is_defined (value_in second) else IsUndefined)
      ∷ []
  needs Rule.NoJump =
      (is_jz w else OtherKind)
      ∷ (is_known first else NeedsTag)
      ∷ (is_defined (value_in first) else IsUndefined)
      ∷ (is_not_zero (value_in first) else OtherWay)
      ∷ []

-- ---- issue

abbrev pub is_address : Counter → Bool
is_address (At ia) = true
is_address Stall = false

abbrev pub instr_at : List Instr → Counter → Option Instr
instr_at prog (At ia) = get_elem? prog ia.0
instr_at prog Stall = none

abbrev pub is_there : Option Instr → Bool
is_there (some i) = true
is_there none = false

abbrev pub tag_fits : List Itb → Tag → Option Instr → Bool
tag_fits itbs t (some i) = tag_ok itbs t i
tag_fits itbs t none = false

-- ---- a command

abbrev pub conditions : List Instr → Command → Mach → List Value → List Condition
conditions prog Malformed σ m = (false else BadSchedule) ∷ []
conditions prog (Issue t) σ m =
    (is_address σ.counter else Stalled)
    ∷ (is_there (instr_at prog σ.counter) else NoInstruction)
    ∷ (ltb (length σ.held) room else Full)
    ∷ (tag_fits σ.held t (instr_at prog σ.counter) else BadTag)
    ∷ []
conditions prog (Apply r k) σ m =
    (ltb k (length σ.held) else NoTemplate)
    ∷ needs σ m (take k σ.held) (drop (suc k) σ.held) (get_or σ.held k nothing).work r

-- ---- a step of the in-order machine

module _ (rf : List Register) (m : List Value) where
  abbrev pub address : Value → List Condition
  address v = (is_defined v else IsUndefined) ∷ (is_within m v else Outside) ∷ []

  -- a taken Jz needs its target
  abbrev pub to_execute : Instr → List Condition
  to_execute (Instr.Loadc r k) = []
  to_execute (Instr.Loadpc r) = []
  to_execute (Instr.Op r n r₁ r₂) = []
  to_execute (Instr.Jz r₁ r₂) =
      (is_defined (held rf r₁) else IsUndefined)
      ∷ (is_not_zero (held rf r₁) || is_defined (held rf r₂) else IsUndefined)
      ∷ []
  to_execute (Instr.Load r r₁) = address (held rf r₁)
  to_execute (Instr.Store r₁ r₂) = address (held rf r₁)

  abbrev pub fetched : Option Instr → List Condition
  fetched (some i) = to_execute i
  fetched none = []

abbrev pub step_conditions : List Instr → InOrder → List Value → List Condition
step_conditions prog s m =
    let i = get_elem? prog s.counter.0 in
    (is_there i else NoInstruction) ∷ fetched s.registers m i
