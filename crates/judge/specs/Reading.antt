-- What a rule answers at place p of the first n rows: what it makes, or the refusal, in the scope paper's order.
use Rattle.std.specs.Prelude.{ℕ, Bool, cond, ◌||◌, List, eqb, ltb, Result, Ok, Err}
use Rattle.records.specs.declared.Refusal.TheVariants.{NoTemplate, OtherKind, NeedsTag, NotHeld, StillHeld, EarlierMemory, IsUndefined, OtherWay}
use Rattle.records.specs.declared.Refusal.{Refusal}
use Rattle.value.specs.declared.Value.{Value}
use Rattle.value.specs.declared.Value.TheVariants.{Undefined, Word}
use Rattle.value.specs.Operation.{result_of}
use Rattle.isa.specs.declared.InstrAddr.{InstrAddr}
use Rattle.records.specs.Refusal.{verdict_of}
use Rattle.kernel.specs.Kernel.{read_at, write_at, target}
use Rattle.templates.specs.declared.Operand.{Operand}
use Rattle.templates.specs.declared.Operand.TheVariants.{Known, Waits}
use Rattle.rows.specs.Rows.{Row, a_value, an_op, a_jz, a_load, a_store, kind_at, operation_at, tag_at, first_at, second_at, held_behind, memory_before, in_register}
use Rattle.rules.specs.declared.Rule.{Rule}

-- ---- 11: not of the rule's kind

abbrev pub of_kind : {A : Type 0} → ℕ → ℕ → Result A Refusal → Result A Refusal
of_kind kind k t = cond (eqb k kind) t (Err OtherKind)

-- ---- 12: a needed operand is a tag

abbrev pub needing : {A : Type 0} → (Value → Result A Refusal) → Operand → Result A Refusal
needing f (Known v) = f v
needing f (Waits t) = Err NeedsTag

-- ---- 15: a Load or a Store is earlier

abbrev pub in_order : {A : Type 0} → Bool → Result A Refusal → Result A Refusal
in_order earlier t = cond earlier (Err EarlierMemory) t

-- ---- 16 and 18: a Jz's condition, zero or not

abbrev pub branching : {A : Type 0} → Result A Refusal → Result A Refusal → Value → Result A Refusal
branching zero other Undefined = Err IsUndefined
branching zero other (Word w) = cond (eqb w 0) zero other

-- ---- what several rules ask

abbrev pub is_of_kind : ℕ → ℕ → List Row → Result Unit Refusal
is_of_kind kind p ts = of_kind kind (kind_at ts p) (Ok tt)

abbrev pub is_first : ℕ → List Row → Result Unit Refusal
is_first p ts = in_order (memory_before p ts) (Ok tt)

abbrev pub known : Operand → Result Value Refusal
known o = needing (λ v. Ok v) o

abbrev pub tested : Value → Result ℕ Refusal
tested Undefined = Err IsUndefined
tested (Word w) = Ok w

abbrev pub conditioned : ℕ → List Row → Result ℕ Refusal
conditioned p ts = of_kind a_jz (kind_at ts p) (needing tested (first_at ts p))

-- ---- the value that the template becomes

abbrev pub operating : ℕ → List Row → Result Value Refusal
operating p ts = of_kind an_op (kind_at ts p) (needing (λ u. needing (λ v. Ok (result_of (operation_at ts p) u v)) (second_at ts p)) (first_at ts p))

abbrev pub loading : List Value → ℕ → List Row → Result Value Refusal
loading m p ts = of_kind a_load (kind_at ts p) (in_order (memory_before p ts) (needing (λ u. read_at m u) (first_at ts p)))

-- ---- memory after it

abbrev pub storing : List Value → ℕ → List Row → Result (List Value) Refusal
storing m p ts = of_kind a_store (kind_at ts p) (in_order (memory_before p ts) (needing (λ u. needing (λ v. write_at m u v) (second_at ts p)) (first_at ts p)))

-- the address and the data of a Store
abbrev pub stored_at : ℕ → List Row → Result (Value × Value) Refusal
stored_at p ts = of_kind a_store (kind_at ts p) (in_order (memory_before p ts) (needing (λ u. needing (λ v. Ok (u, v)) (second_at ts p)) (first_at ts p)))

-- ---- where the counter goes

abbrev pub targeted : Operand → Result InstrAddr Refusal
targeted o = needing target o

abbrev pub jumping : ℕ → List Row → Result InstrAddr Refusal
jumping p ts = of_kind a_jz (kind_at ts p) (needing (branching (targeted (second_at ts p)) (Err OtherWay)) (first_at ts p))

-- ---- nothing but the verdict

abbrev pub falling : ℕ → List Row → Result (Unit {0}) Refusal
falling p ts = of_kind a_jz (kind_at ts p) (needing (branching (Err OtherWay) (Ok tt)) (first_at ts p))

-- 13: nothing holds the tag
abbrev pub forwarding : ℕ → ℕ → List Row → Result (Unit {0}) Refusal
forwarding n p ts = of_kind a_value (kind_at ts p) (cond (held_behind n p ts) (Ok tt) (Err NotHeld))

abbrev pub committing : ℕ → List Row → List ℕ → Result (Unit {0}) Refusal
committing p ts rf = of_kind a_value (kind_at ts p) (cond (in_register (tag_at ts p) rf) (Ok tt) (Err NotHeld))

-- 14: it is held
abbrev pub retiring : ℕ → ℕ → List Row → List ℕ → Result (Unit {0}) Refusal
retiring n p ts rf = of_kind a_value (kind_at ts p) (cond (in_register (tag_at ts p) rf || held_behind n p ts) (Err StillHeld) (Ok tt))

-- ---- the rule's refusal, if there is one

module _ (n p : ℕ) (ts : List Row) (rf : List ℕ) (m : List Value) where
  abbrev pub verdict_on : Rule → Result Unit Refusal
  verdict_on Rule.Operate = verdict_of (operating p ts)
  verdict_on Rule.Forward = forwarding n p ts
  verdict_on Rule.Commit = committing p ts rf
  verdict_on Rule.Retire = retiring n p ts rf
  verdict_on Rule.Load = verdict_of (loading m p ts)
  verdict_on Rule.Store = verdict_of (storing m p ts)
  verdict_on Rule.Jump = verdict_of (jumping p ts)
  verdict_on Rule.NoJump = falling p ts

  -- 10: no template there
  abbrev pub refusal_on : Rule → Result Unit Refusal
  refusal_on r = cond (ltb p n) (verdict_on r) (Err NoTemplate)
