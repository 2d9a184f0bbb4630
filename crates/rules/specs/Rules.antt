-- The nine rules of the memo's section 5, on the machine without blanks.
use Rattle.std.specs.Prelude.{ℕ, suc, Bool, cond, ◌||◌, List, [], ◌∷◌, ◌++◌, eqb, leb, ltb, length, get_or, take, drop, Result, Ok, Err}
use Rattle.std.proofs.Math.ListN.{get_elem?}
use Rattle.records.specs.declared.Refusal.TheVariants.{Stalled, Full, BadTag, NoTemplate, OtherKind, NeedsTag, NotHeld, StillHeld, EarlierMemory, IsUndefined, OtherWay}
use Rattle.records.specs.declared.Refusal.{Refusal}
use Rattle.value.specs.declared.Value.{Value}
use Rattle.value.specs.declared.Value.TheVariants.{Undefined, Word}
use Rattle.value.specs.Operation.{result_of}
use Rattle.isa.specs.declared.InstrAddr.{InstrAddr}
use Rattle.isa.specs.declared.Tag.{Tag}
use Rattle.isa.specs.declared.Instr.{Instr}
use Rattle.isa.specs.declared.Instr.TheVariants as Instr
use Rattle.isa.specs.Program.{present}
use Rattle.kernel.specs.Kernel.{next, read_at, write_at, target}
use Rattle.templates.specs.declared.Operand.{Operand}
use Rattle.templates.specs.declared.Operand.TheVariants.{Known, Waits}
use Rattle.templates.specs.declared.Work.{Work}
use Rattle.templates.specs.declared.Work.TheVariants.{Done, Op, Jz, Load, Store}
use Rattle.templates.specs.declared.Register.{Register}
use Rattle.templates.specs.declared.Counter.{Counter}
use Rattle.templates.specs.declared.Counter.TheVariants.{At, Stall}
use Rattle.templates.specs.Templates.{any_reg, fill_regs, contents, put}
use Rattle.templates.specs.Machine.{Itb, ITB, nothing, any_makes, any_holds, any_memory, fill_all, Mach, with, room}
use Rattle.sound.specs.Sound.{is_new}
use Rattle.rules.specs.declared.Rule.{Rule}
use Rattle.rules.specs.declared.Rule.TheVariants as Rule

-- a rule is accepted, with the machine and the memory that it leaves, or refused
pub data Step : Type 0 where
  accepted : Mach → List Value → Step
  refused : Refusal → Step

-- the machine with other templates
abbrev pub holding : Mach → List Itb → Mach
holding σ xs = with σ σ.counter σ.registers xs

-- ---- conditions, each with its number for no

abbrev pub tried : {A : Type 0} → (A → Step) → Result A Refusal → Step
tried f (Ok x) = f x
tried f (Err n) = refused n

-- a needed operand
abbrev pub known : (Value → Step) → Operand → Step
known f (Known v) = f v
known f (Waits t) = refused NeedsTag

-- a Jz condition: zero, or not
abbrev pub condition : Step → Step → Value → Step
condition zero other Undefined = refused IsUndefined
condition zero other (Word w) = cond (eqb w 0) zero other

-- a template of the rule's kind
abbrev pub on_value : (Tag → Value → Step) → Work → Step
on_value f (Done t v) = f t v
on_value f (Op t n x y) = refused OtherKind
on_value f (Jz x y) = refused OtherKind
on_value f (Load t x) = refused OtherKind
on_value f (Store x y) = refused OtherKind

abbrev pub on_op : (Tag → ℕ → Operand → Operand → Step) → Work → Step
on_op f (Done t v) = refused OtherKind
on_op f (Op t n x y) = f t n x y
on_op f (Jz x y) = refused OtherKind
on_op f (Load t x) = refused OtherKind
on_op f (Store x y) = refused OtherKind

abbrev pub on_jz : (Operand → Operand → Step) → Work → Step
on_jz f (Done t v) = refused OtherKind
on_jz f (Op t n x y) = refused OtherKind
on_jz f (Jz x y) = f x y
on_jz f (Load t x) = refused OtherKind
on_jz f (Store x y) = refused OtherKind

abbrev pub on_load : (Tag → Operand → Step) → Work → Step
on_load f (Done t v) = refused OtherKind
on_load f (Op t n x y) = refused OtherKind
on_load f (Jz x y) = refused OtherKind
on_load f (Load t x) = f t x
on_load f (Store x y) = refused OtherKind

abbrev pub on_store : (Operand → Operand → Step) → Work → Step
on_store f (Done t v) = refused OtherKind
on_store f (Op t n x y) = refused OtherKind
on_store f (Jz x y) = refused OtherKind
on_store f (Load t x) = refused OtherKind
on_store f (Store x y) = f x y

-- the Store is removed, and memory is the one written
abbrev pub storing : Mach → List Itb → List Itb → Result (List Value) Refusal → Step
storing σ pre post w = tried (λ m'. accepted (holding σ (pre ++ post)) m') w

-- ---- the rules but issue: at the template of address a, with `pre` before it and `post` behind it

module _ (σ : Mach) (m : List Value) (pre : List Itb) (a : InstrAddr) (post : List Itb) where
  -- the template becomes another
  abbrev pub becomes : Work → Step
  becomes w = accepted (holding σ (pre ++ ITB a w ∷ post)) m

  abbrev pub operate : Work → Step
  operate = on_op (λ t n x y. known (λ u. known (λ v. becomes (Done t (result_of n u v))) y) x)

  -- in every later template
  abbrev pub forward : Work → Step
  forward =
      on_value
      (λ t v.
      cond (any_holds t post)
      (accepted (holding σ (pre ++ ITB a (Done t v) ∷ fill_all t v post)) m)
      (refused NotHeld))

  -- in the register that holds the tag
  abbrev pub commit : Work → Step
  commit =
      on_value
      (λ t v.
      cond (any_reg t σ.registers)
      (accepted (with σ σ.counter (fill_regs t v σ.registers) (pre ++ ITB a (Done t v) ∷ post)) m)
      (refused NotHeld))

  abbrev pub retire : Work → Step
  retire =
      on_value
      (λ t v.
      cond (any_reg t σ.registers || any_holds t post)
      (refused StillHeld)
      (accepted (holding σ (pre ++ post)) m))

  abbrev pub load : Work → Step
  load =
      on_load
      (λ t x.
      cond (any_memory pre)
      (refused EarlierMemory)
      (known (λ u. tried (λ v. becomes (Done t v)) (read_at m u)) x))

  abbrev pub store : Work → Step
  store =
      on_store
      (λ x y.
      cond (any_memory pre)
      (refused EarlierMemory)
      (known (λ u. known (λ v. storing σ pre post (write_at m u v)) y) x))

  -- the Jz is removed, and the counter is set
  abbrev pub go_to : InstrAddr → Step
  go_to ia = accepted (with σ (At ia) σ.registers (pre ++ post)) m

  abbrev pub jump : Work → Step
  jump = on_jz (λ x y. known (λ u. condition (known (λ v. tried go_to (target v)) y) (refused OtherWay) u) x)

  -- it doesn't look at the target
  abbrev pub no_jump : Work → Step
  no_jump = on_jz (λ x y. known (λ u. condition (refused OtherWay) (go_to (next a)) u) x)

abbrev pub rule : Rule → Mach → List Value → List Itb → InstrAddr → List Itb → Work → Step
rule Rule.Operate = operate
rule Rule.Forward = forward
rule Rule.Commit = commit
rule Rule.Retire = retire
rule Rule.Load = load
rule Rule.Store = store
rule Rule.Jump = jump
rule Rule.NoJump = no_jump

-- the rule at place k
unfoldable pub apply : Rule → ℕ → Mach → List Value → Step
apply r k σ m =
    let x = get_or σ.held k nothing in
    cond (ltb k (length σ.held))
    (rule r σ m (take k σ.held) x.address (drop (suc k) σ.held) x.work)
    (refused NoTemplate)

-- ---- issue: of the instruction at the counter, with a tag that the schedule names

-- the tag lies in 1 to 64, and no template produces it
abbrev pub is_fresh : Tag → List Itb → Bool
is_fresh t ts = is_new (λ s. any_makes s ts) t

-- a writing instruction needs a fresh tag; Jz and Store need 0
abbrev pub tag_suits : Bool → Tag → Instr → Bool
tag_suits fresh t (Instr.Loadc r k) = fresh
tag_suits fresh t (Instr.Loadpc r) = fresh
tag_suits fresh t (Instr.Op r n r1 r2) = fresh
tag_suits fresh t (Instr.Jz r1 r2) = eqb t.0 0
tag_suits fresh t (Instr.Load r r1) = fresh
tag_suits fresh t (Instr.Store r1 r2) = eqb t.0 0

abbrev pub tag_ok : List Itb → Tag → Instr → Bool
tag_ok ts t i = tag_suits (is_fresh t ts) t i

-- in this machine
abbrev pub tag_allowed : Mach → Tag → Instr → Bool
tag_allowed σ t i = tag_ok σ.held t i

-- the new template's work: the operands' present contents
abbrev pub work_of : List Register → InstrAddr → Tag → Instr → Work
work_of rf ia t (Instr.Loadc r k) = Done t (Word k)
work_of rf ia t (Instr.Loadpc r) = Done t (Word ia.0)
work_of rf ia t (Instr.Op r n r1 r2) = Op t n (contents rf r1) (contents rf r2)
work_of rf ia t (Instr.Jz r1 r2) = Jz (contents rf r1) (contents rf r2)
work_of rf ia t (Instr.Load r r1) = Load t (contents rf r1)
work_of rf ia t (Instr.Store r1 r2) = Store (contents rf r1) (contents rf r2)

-- the tag in the destination
abbrev pub renamed : List Register → Tag → Instr → List Register
renamed rf t (Instr.Loadc r k) = put rf r (Waits t)
renamed rf t (Instr.Loadpc r) = put rf r (Waits t)
renamed rf t (Instr.Op r n r1 r2) = put rf r (Waits t)
renamed rf t (Instr.Jz r1 r2) = rf
renamed rf t (Instr.Load r r1) = put rf r (Waits t)
renamed rf t (Instr.Store r1 r2) = rf

abbrev pub counter_after : InstrAddr → Instr → Counter
counter_after ia (Instr.Loadc r k) = At (next ia)
counter_after ia (Instr.Loadpc r) = At (next ia)
counter_after ia (Instr.Op r n r1 r2) = At (next ia)
counter_after ia (Instr.Jz r1 r2) = Stall
counter_after ia (Instr.Load r r1) = At (next ia)
counter_after ia (Instr.Store r1 r2) = At (next ia)

module _ (t : Tag) (σ : Mach) (m : List Value) where
  -- the machine with the instruction as its last template
  abbrev pub issued : InstrAddr → Instr → Mach
  issued ia i =
      with σ (counter_after ia i) (renamed σ.registers t i)
      (σ.held ++ ITB ia (work_of σ.registers ia t i) ∷ [])

  abbrev pub issue_at : InstrAddr → Instr → Step
  issue_at ia i =
      cond (leb room (length σ.held))
      (refused Full)
      (cond (tag_allowed σ t i) (accepted (issued ia i) m) (refused BadTag))

  abbrev pub issue_from : List Instr → Counter → Step
  issue_from prog Stall = refused Stalled
  issue_from prog (At ia) = tried (issue_at ia) (present (get_elem? prog ia.0))

unfoldable pub issue : List Instr → Tag → Mach → List Value → Step
issue prog t σ m = issue_from t σ m prog σ.counter
