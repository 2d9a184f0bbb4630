-- An accepted rule, by cases: each rule's conditions are taken apart here, once.
use Prim.Native.Nat.{ℕ, suc, ◌<◌}
use native.Mathlib.Omega.{arith}
use mathlib.Core.Path.{◌≡◌, refl, sym, subst}
use mathlib.Core.Logic.{◌≢◌}
use mathlib.Core.Bool.{true, false, ◌||◌}
use mathlib.Core.List.{List, [], ◌∷◌, ◌++◌}
use mathlib.Core.Option.{Option, none, some}
use lib.Dec.{eqb, ltb}
use lib.ListN.{length, get_or, set, take, drop, get_elem?, length-append}
use lib.Seq.{split_at, take-append_seam, get_or-append_seam}
use borrow.Author.Tests.{ltb-true, lt-ltb}
use Rattle.records.specs.declared.Refusal.TheVariants.{NoTemplate, OtherKind, NeedsTag, NotHeld, StillHeld, EarlierMemory, IsUndefined, Outside, OtherWay}
use Rattle.records.specs.declared.Refusal.{Refusal}
use Rattle.std.specs.Prelude.{Ok}
use Rattle.value.specs.declared.Value.{Value}
use Rattle.value.specs.declared.Value.TheVariants.{Undefined, Word}
use Rattle.value.specs.Operation.{result_of}
use Rattle.isa.specs.declared.InstrAddr.{InstrAddr}
use Rattle.isa.specs.declared.Tag.{Tag}
use Rattle.cells.specs.Cells.{inside, load_from}
use Rattle.kernel.specs.Kernel.{instr_addr, next, read_at, write_at, target, branch}
use Rattle.templates.specs.declared.Operand.{Operand}
use Rattle.templates.specs.declared.Operand.TheVariants.{Known, Waits}
use Rattle.templates.specs.declared.Work.{Work}
use Rattle.templates.specs.declared.Work.TheVariants.{Done, Op, Jz, Load, Store}
use Rattle.templates.specs.Templates.{any_reg, fill_regs}
use Rattle.templates.specs.Machine.{Itb, ITB, nothing, any_holds, any_memory, fill_all, Mach, mach}
use Rattle.rules.specs.declared.Rule.{Rule}
use Rattle.rules.specs.declared.Rule.TheVariants as Rule
use Rattle.rules.specs.Rules.{Step, accepted, refused, holding, tried, known, condition, on_value, on_op, on_jz, on_load, on_store, becomes, go_to, rule, apply}
use Rattle.sound.proofs.Basics.{by_test, neither}
use Rattle.rules.proofs.Environment.{Env, resolve}
use Rattle.rules.proofs.Order.{MayLoad, MayStore, may_load, may_store}

-- a property of what an accepted rule leaves
abbrev pub OnStep : (Mach → List Value → Type 0) → Step → Type 0
OnStep P (accepted σ m) = P σ m
OnStep P (refused n) = Unit

-- what is to be shown of P for every rule at a template of address a, with `pre` before it and `post` behind it
pub record Cases (σ : Mach) (m : List Value) (pre : List Itb) (a : InstrAddr) (post : List Itb) (P : Work → Step → Type 0) : Type 0 where
  pub refuses : (w : Work) (n : Refusal) → P w (refused n)
  pub operates : (t : Tag) (n : ℕ) (u v : Value) → P (Op t n (Known u) (Known v)) (becomes σ m pre a post (Done t (result_of n u v)))
  pub forwards : (t : Tag) (v : Value) → any_holds t post ≡ true
      → P (Done t v) (accepted (holding σ (pre ++ ITB a (Done t v) ∷ fill_all t v post)) m)
  pub commits : (t : Tag) (v : Value) → any_reg t σ.registers ≡ true
      → P (Done t v) (accepted (mach σ.counter (fill_regs t v σ.registers) (pre ++ ITB a (Done t v) ∷ post)) m)
  pub retires : (t : Tag) (v : Value) → any_reg t σ.registers ≡ false → any_holds t post ≡ false
      → P (Done t v) (accepted (holding σ (pre ++ post)) m)
  pub loads : (t : Tag) (x : ℕ) (v : Value) → get_elem? m x ≡ some v → MayLoad x (length m) pre
      → P (Load t (Known (Word x))) (becomes σ m pre a post (Done t v))
  pub stores : (x : ℕ) (v : Value) → x < length m → MayStore x (length m) pre
      → P (Store (Known (Word x)) (Known v)) (accepted (holding σ (pre ++ post)) (set m x v))
  -- whatever the target stands for
  pub jumps : (u : Value) (y : Operand) (ia : InstrAddr) → ((e : Env) → branch a u (resolve e y) ≡ Ok ia)
      → P (Jz (Known u) y) (go_to σ m pre a post ia)

module _ (σ : Mach) (m : List Value) (pre : List Itb) (a : InstrAddr) (post : List Itb) (P : Work → Step → Type 0)
    (k : Cases σ m pre a post P) where
  -- ---- the conditions

  other_kind_lem : (w : Work) → P w (refused OtherKind)
  other_kind_lem w = k.refuses w OtherKind

  undefined : (w : Work) → P w (refused IsUndefined)
  undefined w = k.refuses w IsUndefined

  when_known : (w : Operand → Work) (f : Value → Step) → ((v : Value) → P (w (Known v)) (f v)) → (x : Operand) → P (w x) (known f x)
  when_known w f h (Known v) = h v
  when_known w f h (Waits t) = k.refuses (w (Waits t)) NeedsTag

  value-cases : (f : Tag → Value → Step) → ((t : Tag) (v : Value) → P (Done t v) (f t v)) → (w : Work) → P w (on_value f w)
  value-cases f h (Done t v) = h t v
  value-cases f h (Op t n x y) = other_kind_lem (Op t n x y)
  value-cases f h (Jz x y) = other_kind_lem (Jz x y)
  value-cases f h (Load t x) = other_kind_lem (Load t x)
  value-cases f h (Store x y) = other_kind_lem (Store x y)

  op_cases : (f : Tag → ℕ → Operand → Operand → Step) → ((t : Tag) (n : ℕ) (x y : Operand) → P (Op t n x y) (f t n x y)) → (w : Work) → P w (on_op f w)
  op_cases f h (Done t v) = other_kind_lem (Done t v)
  op_cases f h (Op t n x y) = h t n x y
  op_cases f h (Jz x y) = other_kind_lem (Jz x y)
  op_cases f h (Load t x) = other_kind_lem (Load t x)
  op_cases f h (Store x y) = other_kind_lem (Store x y)

  jz_cases : (f : Operand → Operand → Step) → ((x y : Operand) → P (Jz x y) (f x y)) → (w : Work) → P w (on_jz f w)
  jz_cases f h (Done t v) = other_kind_lem (Done t v)
  jz_cases f h (Op t n x y) = other_kind_lem (Op t n x y)
  jz_cases f h (Jz x y) = h x y
  jz_cases f h (Load t x) = other_kind_lem (Load t x)
  jz_cases f h (Store x y) = other_kind_lem (Store x y)

  load-cases : (f : Tag → Operand → Step) → ((t : Tag) (x : Operand) → P (Load t x) (f t x)) → (w : Work) → P w (on_load f w)
  load-cases f h (Done t v) = other_kind_lem (Done t v)
  load-cases f h (Op t n x y) = other_kind_lem (Op t n x y)
  load-cases f h (Jz x y) = other_kind_lem (Jz x y)
  load-cases f h (Load t x) = h t x
  load-cases f h (Store x y) = other_kind_lem (Store x y)

  store-cases : (f : Operand → Operand → Step) → ((x y : Operand) → P (Store x y) (f x y)) → (w : Work) → P w (on_store f w)
  store-cases f h (Done t v) = other_kind_lem (Done t v)
  store-cases f h (Op t n x y) = other_kind_lem (Op t n x y)
  store-cases f h (Jz x y) = other_kind_lem (Jz x y)
  store-cases f h (Load t x) = other_kind_lem (Load t x)
  store-cases f h (Store x y) = h x y

  -- ---- memory

  load_from_lem : (t : Tag) (u : Value) → any_memory pre ≡ false → P (Load t (Known u)) (tried (λ v. becomes σ m pre a post (Done t v)) (read_at m u))
  unfolding load_from
  load_from_lem t Undefined h = undefined (Load t (Known Undefined))
  load_from_lem t (Word x) h = at (get_elem? m x) refl
    where
      at : (o : Option Value) → get_elem? m x ≡ o → P (Load t (Known (Word x))) (tried (λ v. becomes σ m pre a post (Done t v)) (inside o))
      at none e = k.refuses (Load t (Known (Word x))) Outside
      at (some v) e = k.loads t x v e (may_load x (length m) pre h)

  store_to : (u v : Value) → any_memory pre ≡ false
      → P (Store (Known u) (Known v)) (tried (λ m'. accepted (holding σ (pre ++ post)) m') (write_at m u v))
  store_to Undefined v h = undefined (Store (Known Undefined) (Known v))
  store_to (Word x) v h =
      by_test (λ r. P (Store (Known (Word x)) (Known v)) (tried (λ m'. accepted (holding σ (pre ++ post)) m') r)) (ltb x (length m))
      (λ l. k.stores x v (ltb-true x (length m) l) (may_store x (length m) pre h))
      (λ _. k.refuses (Store (Known (Word x)) (Known v)) Outside)

  -- ---- a Jz

  other_way_lem : (w : Work) → P w (refused OtherWay)
  other_way_lem w = k.refuses w OtherWay

  jump_to : (w : ℕ) → eqb w 0 ≡ true → (v : Value) → P (Jz (Known (Word w)) (Known v)) (tried (go_to σ m pre a post) (target v))
  jump_to w z Undefined = undefined (Jz (Known (Word w)) (Known Undefined))
  jump_to w z (Word n) = k.jumps (Word w) (Known (Word n)) (instr_addr n) (λ e. rw z refl)

  jump_on : (u : Value) (y : Operand)
      → P (Jz (Known u) y) (condition (known (λ v. tried (go_to σ m pre a post) (target v)) y) (refused OtherWay) u)
  jump_on Undefined y = undefined (Jz (Known Undefined) y)
  jump_on (Word w) y =
      by_test (P (Jz (Known (Word w)) y)) (eqb w 0)
      (λ z. when_known (λ x. Jz (Known (Word w)) x) (λ v. tried (go_to σ m pre a post) (target v)) (jump_to w z) y)
      (λ _. other_way_lem (Jz (Known (Word w)) y))

  go_on : (u : Value) (y : Operand) → P (Jz (Known u) y) (condition (refused OtherWay) (go_to σ m pre a post (next a)) u)
  go_on Undefined y = undefined (Jz (Known Undefined) y)
  go_on (Word w) y =
      by_test (P (Jz (Known (Word w)) y)) (eqb w 0) (λ _. other_way_lem (Jz (Known (Word w)) y))
      (λ z. k.jumps (Word w) y (next a) (λ e. rw z refl))

  -- ---- the rules

  rule-cases : (r : Rule) (w : Work) → P w (rule r σ m pre a post w)
  rule-cases Rule.Operate =
      op_cases _ (λ t n x y. when_known (λ z. Op t n z y) _ (λ u. when_known (λ z. Op t n (Known u) z) _ (λ v. k.operates t n u v) y) x)
  rule-cases Rule.Forward =
      value-cases _ (λ t v. by_test (P (Done t v)) (any_holds t post) (k.forwards t v) (λ _. k.refuses (Done t v) NotHeld))
  rule-cases Rule.Commit =
      value-cases _ (λ t v. by_test (P (Done t v)) (any_reg t σ.registers) (k.commits t v) (λ _. k.refuses (Done t v) NotHeld))
  rule-cases Rule.Retire =
      value-cases _
      (λ t v.
      by_test (P (Done t v)) (any_reg t σ.registers || any_holds t post) (λ _. k.refuses (Done t v) StillHeld)
      (λ h. let n = neither (any_reg t σ.registers) (any_holds t post) h in k.retires t v n.0 n.1))
  rule-cases Rule.Load =
      load-cases _
      (λ t x.
      by_test (P (Load t x)) (any_memory pre) (λ _. k.refuses (Load t x) EarlierMemory)
      (λ h. when_known (Load t) _ (λ u. load_from_lem t u h) x))
  rule-cases Rule.Store =
      store-cases _
      (λ x y.
      by_test (P (Store x y)) (any_memory pre) (λ _. k.refuses (Store x y) EarlierMemory)
      (λ h. when_known (λ z. Store z y) _ (λ u. when_known (Store (Known u)) _ (λ v. store_to u v h) y) x))
  rule-cases Rule.Jump = jz_cases _ (λ x y. when_known (λ z. Jz z y) _ (λ u. jump_on u y) x)
  rule-cases Rule.NoJump = jz_cases _ (λ x y. when_known (λ z. Jz z y) _ (λ u. go_on u y) x)

-- ---- at a place

behind : (pre : List Itb) (x : Itb) (xs : List Itb) → drop (suc (length pre)) (pre ++ x ∷ xs) ≡ xs
behind [] x xs = refl
behind (y ∷ pre) x xs = behind pre x xs

-- a rule at a template acts on it, between those before and those behind
pub apply_at : (r : Rule) (σ : Mach) (m : List Value) (pre : List Itb) (x : Itb) (xs : List Itb) → σ.held ≡ pre ++ x ∷ xs
    → apply r (length pre) σ m ≡ rule r σ m pre x.address xs x.work
unfolding apply
apply_at r σ m pre x xs e =
    let there : length pre < length (pre ++ x ∷ xs) = rw length-append (omega arith) in
    rw (e, lt-ltb (length pre) (length (pre ++ x ∷ xs)) there, take-append_seam pre (x ∷ xs), get_or-append_seam pre x xs nothing, behind pre x xs) refl

-- P of every rule at every place: from its cases at every template of the list
pub apply-cases : (P : List Itb → Step → Type 0) (r : Rule) (place : ℕ) (σ : Mach) (m : List Value) → P σ.held (refused NoTemplate)
    → ((pre : List Itb) (a : InstrAddr) (post : List Itb) → Cases σ m pre a post (λ w s. P (pre ++ ITB a w ∷ post) s))
    → P σ.held (apply r place σ m)
unfolding apply
apply-cases P r place σ m absent k =
    let ts = σ.held in
    let x = get_or ts place nothing in
    let pre = take place ts in
    let post = drop (suc place) ts in
    by_test (P ts) (ltb place (length ts))
    (λ h.
    subst (λ (l : List Itb). P l (rule r σ m pre x.address post x.work))
    (sym (split_at ts place nothing (ltb-true place (length ts) h)))
    (rule-cases σ m pre x.address post (λ w s. P (pre ++ ITB x.address w ∷ post) s) (k pre x.address post) r x.work))
    (λ _. absent)
