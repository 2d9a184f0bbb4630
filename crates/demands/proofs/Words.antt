-- From words come words: a run of bytes leaves words in memory.
use Prim.Native.Nat.{ℕ, zero, suc, ◌+◌, ◌-◌, ◌*◌, ◌/◌, ◌^◌, ◌<◌, ◌≤◌}
use native.Mathlib.Nat.{div-le_self}
use native.Mathlib.Omega.{arith}
use mathlib.Core.Path.{◌≡◌, refl, sym, ap, subst}
use mathlib.Core.List.{List, [], ◌∷◌, ◌++◌, map}
use mathlib.Core.Option.{Option, none, some}
use lib.Dec.{eqb, leb}
use lib.IntN.{ℤ, pos, negsuc, neg_ℤ}
use lib.Signed.{mag, lt_z, quot_z}
use lib.ListN.{length, get_or, set, take, replicate, get_elem?}
use mir.Syntax.{w32}
use mir.Val.{of_z}
use mir.Facts.{sfits_to_z}
use Rattle.records.specs.declared.Record.{Record}
use Rattle.records.specs.Records.{record_from, tabulate, records}
use Rattle.std.specs.Prelude.{Result, Ok, Err}
use Rattle.records.specs.declared.Refusal.{Refusal}
use Rattle.records.proofs.Basics.{same_some, some_not_none}
use Rattle.value.specs.declared.Value.{Value}
use Rattle.value.specs.declared.Value.TheVariants.{Undefined, Word}
use Rattle.value.specs.Operation.{low, signed, less, div, result_of}
use Rattle.isa.specs.declared.InstrAddr.{InstrAddr}
use Rattle.isa.specs.declared.Instr.{Instr}
use Rattle.isa.specs.declared.Reg.{Reg}
use Rattle.isa.specs.declared.Tag.{Tag}
use Rattle.isa.specs.Instruction.{parse, registers}
use Rattle.isa.specs.Instruction as Instruction
use Rattle.isa.specs.Program.{leads, instructions, program, present}
use Rattle.isa.proofs.RoundTrip.{record-parsed}
use Rattle.cells.specs.Cells.{cells, value_of}
use Rattle.cells.proofs.Memory.{Words}
use Rattle.templates.specs.declared.Operand.{Operand}
use Rattle.templates.specs.declared.Operand.TheVariants.{Known, Waits}
use Rattle.templates.specs.declared.Work.{Work}
use Rattle.templates.specs.declared.Work.TheVariants.{Done, Op, Jz, Load, Store}
use Rattle.templates.specs.declared.Register.{Register}
use Rattle.templates.specs.declared.Counter.{Counter}
use Rattle.templates.specs.declared.Counter.TheVariants.{At, Stall}
use Rattle.templates.specs.Templates.{same_tag, register, fill, fill_work, contents}
use Rattle.templates.specs.Machine.{Itb, ITB, fill_itb, Mach, start, room}
use Rattle.sound.proofs.Basics.{by_test}
use Rattle.rules.specs.declared.Command.{Command}
use Rattle.rules.specs.declared.Command.TheVariants.{Malformed, Issue, Apply}
use Rattle.rules.specs.Rules.{Step, accepted, refused, tried, tag_ok, work_of, renamed, issue_at, issue_from, issue}
use Rattle.rules.specs.Schedule.{obey}
use Rattle.rules.specs.Run.{run}
use Rattle.rules.proofs.Cases.{OnStep, Cases, apply-cases}
use Rattle.records.proofs.Leading.{found_inside}
use Rattle.rules.specs.Schedules.{obeyed}
use Rattle.demands.specs.Demand1.{AreBytes}
use Rattle.demands.proofs.Turns.{on_each, on_accepted, in_turn_lem}
use Rattle.rules.proofs.Accepted.{run_accepts}

-- ---- of every element

abbrev AllOf : {A : Type 0} → (A → Type 0) → List A → Type 0
AllOf P [] = Unit
AllOf P (x ∷ xs) = P x × AllOf P xs

module _ {A : Type 0} (P : A → Type 0) where
  all_append : (xs ys : List A) → AllOf P xs → AllOf P ys → AllOf P (xs ++ ys)
  all_append [] ys h g = g
  all_append (x ∷ xs) ys h g = (h.0, all_append xs ys h.1 g)

  all_left : (xs ys : List A) → AllOf P (xs ++ ys) → AllOf P xs
  all_left [] ys h = tt
  all_left (x ∷ xs) ys h = (h.0, all_left xs ys h.1)

  all_right : (xs ys : List A) → AllOf P (xs ++ ys) → AllOf P ys
  all_right [] ys h = h
  all_right (x ∷ xs) ys h = all_right xs ys h.1

  all_set : (xs : List A) (i : ℕ) (y : A) → AllOf P xs → P y → AllOf P (set xs i y)
  all_set [] i y h g = tt
  all_set (x ∷ xs) zero y h g = (g, h.1)
  all_set (x ∷ xs) (suc i) y h g = (h.0, all_set xs i y h.1 g)

  all-at : (xs : List A) (i : ℕ) {y : A} → AllOf P xs → get_elem? xs i ≡ some y → P y
  all-at [] i h e = some_not_none e refl
  all-at (x ∷ xs) zero h e = subst P (sym (same_some e refl)) h.0
  all-at (x ∷ xs) (suc i) h e = all-at xs i h.1 e

  all_get_d : (xs : List A) (i : ℕ) (d : A) → AllOf P xs → P d → P (get_or xs i d)
  all_get_d [] i d h g = g
  all_get_d (x ∷ xs) zero d h g = h.0
  all_get_d (x ∷ xs) (suc i) d h g = all_get_d xs i d h.1 g

  all_replicate : (n : ℕ) (x : A) → P x → AllOf P (replicate n x)
  all_replicate zero x h = tt
  all_replicate (suc n) x h = (h, all_replicate n x h)

  all-tabulate : (n : ℕ) (f : ℕ → A) → ((i : ℕ) → P (f i)) → AllOf P (tabulate n f)
  all-tabulate zero f h = tt
  all-tabulate (suc n) f h = (h 0, all-tabulate n (λ i. f (suc i)) (λ i. h (suc i)))

all_map : {A B : Type 0} (P : A → Type 0) (Q : B → Type 0) (f : A → B) → ((x : A) → P x → Q (f x)) → (xs : List A) → AllOf P xs → AllOf Q (map f xs)
all_map P Q f g [] h = tt
all_map P Q f g (x ∷ xs) h = (g x h.0, all_map P Q f g xs h.1)

-- ---- words

abbrev IsWord : Value → Type 0
IsWord Undefined = Unit
IsWord (Word w) = w < 2 ^ 32

abbrev InOperand : Operand → Type 0
InOperand (Known v) = IsWord v
InOperand (Waits t) = Unit

abbrev InWork : Work → Type 0
InWork (Done t v) = IsWord v
InWork (Op t n x y) = InOperand x × InOperand y
InWork (Jz x y) = InOperand x × InOperand y
InWork (Load t x) = InOperand x
InWork (Store x y) = InOperand x × InOperand y

abbrev InRegister : Register → Type 0
InRegister r = InOperand r.holds

abbrev InTemplate : Itb → Type 0
InTemplate x = InWork x.work

abbrev InInstr : Instr → Type 0
InInstr (Instr.Loadc r k) = k < 2 ^ 32
InInstr (Instr.Loadpc r) = Unit
InInstr (Instr.Op r n r₁ r₂) = Unit
InInstr (Instr.Jz r₁ r₂) = Unit
InInstr (Instr.Load r r₁) = Unit
InInstr (Instr.Store r₁ r₂) = Unit

-- every value in machine and memory is undefined or a word
record HoldWords (σ : Mach) (m : List Value) : Type 0 where
  registers : AllOf InRegister σ.registers
  templates : AllOf InTemplate σ.held
  memory : AllOf IsWord m

pub words_of : (m : List Value) → AllOf IsWord m → Words m
words_of [] h = tt
words_of (Undefined ∷ m) h = (omega arith, words_of m h.1)
words_of (Word w ∷ m) h = (h.0, words_of m h.1)

-- ---- an operation's result

low_word : (n : ℕ) → low n < 2 ^ 32
low_word n = omega arith

negated_word : (k : ℕ) → of_z w32 (neg_ℤ (pos k)) < 2 ^ 32
negated_word zero = omega arith
negated_word (suc k) = omega arith

quotient-word : (x y : ℤ) → mag x < 2 ^ 31 → of_z w32 (quot_z x y) < 2 ^ 32
quotient-word (pos a) (pos b) h = omega (arith, div-le_self a b)
quotient-word (pos a) (negsuc b) h = negated_word (a / suc b)
quotient-word (negsuc a) (pos b) h = negated_word (suc a / b)
quotient-word (negsuc a) (negsuc b) h = omega (arith, div-le_self (suc a) (suc b))

div_word : (a b : ℕ) → a < 2 ^ 32 → IsWord (div a b)
div_word a b h =
    by_test IsWord (eqb b 0) (λ _. tt) (λ _. quotient-word (signed a) (signed b) (sfits_to_z {w = w32} {n = a} (record { fits = h })).sfits)

less-word : (a b : ℕ) → less a b < 2 ^ 32
less-word a b = by_test (λ (n : ℕ). n < 2 ^ 32) (lt_z (signed a) (signed b)) (λ _. omega arith) (λ _. omega arith)

result-word : (n : ℕ) (u v : Value) → IsWord u → IsWord v → IsWord (result_of n u v)
unfolding result_of
result-word n Undefined v h g = tt
result-word n (Word a) Undefined h g = tt
result-word n (Word a) (Word b) h g =
    by_test IsWord (eqb n 0) (λ _. low_word (a + b))
    (λ _. by_test IsWord (eqb n 1) (λ _. low_word (a + (2 ^ 32 - b)))
    (λ _. by_test IsWord (eqb n 2) (λ _. low_word (a * b))
    (λ _. by_test IsWord (eqb n 3) (λ _. div_word a b h)
    (λ _. by_test IsWord (eqb n 4) (λ _. less-word a b) (λ _. tt)))))

-- ---- a value filled in

module _ (t : Tag) (v : Value) (h : IsWord v) where
  fill-word : (x : Operand) → InOperand x → InOperand (fill t v x)
  fill-word (Known u) g = g
  fill-word (Waits s) g = by_test InOperand (same_tag s t) (λ _. h) (λ _. tt)

  work-word : (w : Work) → InWork w → InWork (fill_work t v w)
  work-word (Done s u) g = g
  work-word (Op s n x y) g = (fill-word x g.0, fill-word y g.1)
  work-word (Jz x y) g = (fill-word x g.0, fill-word y g.1)
  work-word (Load s x) g = fill-word x g
  work-word (Store x y) g = (fill-word x g.0, fill-word y g.1)

-- ---- the rules but issue

module _ (σ : Mach) (m : List Value) (rf : AllOf InRegister σ.registers) (l : AllOf IsWord m) (pre : List Itb) (a : InstrAddr) (post : List Itb) where
  abbrev Was : Work → Type 0
  Was w = AllOf InTemplate (pre ++ ITB a w ∷ post)

  front : (w : Work) → Was w → AllOf InTemplate pre
  front w h = all_left InTemplate pre (ITB a w ∷ post) h

  here : (w : Work) → Was w → InWork w
  here w h = (all_right InTemplate pre (ITB a w ∷ post) h).0

  back : (w : Work) → Was w → AllOf InTemplate post
  back w h = (all_right InTemplate pre (ITB a w ∷ post) h).1

  with-work : (w w' : Work) (ts : List Itb) → Was w → InWork w' → AllOf InTemplate ts → AllOf InTemplate (pre ++ ITB a w' ∷ ts)
  with-work w w' ts h g k = all_append InTemplate pre (ITB a w' ∷ ts) (front w h) (g, k)

  without : (w : Work) → Was w → AllOf InTemplate (pre ++ post)
  without w h = all_append InTemplate pre post (front w h) (back w h)

  words_cases : Cases σ m pre a post (λ w r. Was w → OnStep HoldWords r)
  words_cases =
      record {
        refuses = λ w n h. tt;
        operates = λ t n u v h.
            let w = Op t n (Known u) (Known v) in
            record { registers = rf; templates = with-work w (Done t (result_of n u v)) post h (result-word n u v (here w h).0 (here w h).1) (back w h); memory = l };
        forwards = λ t v e h.
            let w = Done t v in
            record {
              registers = rf;
              templates = with-work w w _ h (here w h) (all_map InTemplate InTemplate (fill_itb t v) (λ x. work-word t v (here w h) x.work) post (back w h));
              memory = l;
            };
        commits = λ t v e h.
            record {
              registers = all_map InRegister InRegister (λ r. register (fill t v r.holds)) (λ r. fill-word t v (here (Done t v) h) r.holds) σ.registers rf;
              templates = h;
              memory = l;
            };
        retires = λ t v e f h. record { registers = rf; templates = without (Done t v) h; memory = l };
        loads = λ t x v e g h.
            let w = Load t (Known (Word x)) in
            record { registers = rf; templates = with-work w (Done t v) post h (all-at IsWord m x l e) (back w h); memory = l };
        stores = λ x v e g h.
            let w = Store (Known (Word x)) (Known v) in
            record { registers = rf; templates = without w h; memory = all_set IsWord m x v l (here w h).1 };
        jumps = λ u y ia b h. record { registers = rf; templates = without (Jz (Known u) y) h; memory = l };
      }

-- ---- issue

module _ (prog : List Instr) (few : length prog ≤ 1024) (ok : AllOf InInstr prog) (σ : Mach) (m : List Value) (h : HoldWords σ m) where
  holds-word : (r : Reg) → InOperand (contents σ.registers r)
  holds-word r = all_get_d InRegister σ.registers r.0 (register (Known Undefined)) h.registers tt

  new_work : (t : Tag) (ia : InstrAddr) → ia.0 < 1024 → (i : Instr) → InInstr i → InWork (work_of σ.registers ia t i)
  new_work t ia l (Instr.Loadc r k) g = g
  new_work t ia l (Instr.Loadpc r) g = omega arith
  new_work t ia l (Instr.Op r n r₁ r₂) g = (holds-word r₁, holds-word r₂)
  new_work t ia l (Instr.Jz r₁ r₂) g = (holds-word r₁, holds-word r₂)
  new_work t ia l (Instr.Load r r₁) g = holds-word r₁
  new_work t ia l (Instr.Store r₁ r₂) g = (holds-word r₁, holds-word r₂)

  tag-put : (t : Tag) (r : Reg) → AllOf InRegister (set σ.registers r.0 (register (Waits t)))
  tag-put t r = all_set InRegister σ.registers r.0 (register (Waits t)) h.registers tt

  new_registers : (t : Tag) (i : Instr) → AllOf InRegister (renamed σ.registers t i)
  new_registers t (Instr.Loadc r k) = tag-put t r
  new_registers t (Instr.Loadpc r) = tag-put t r
  new_registers t (Instr.Op r n r₁ r₂) = tag-put t r
  new_registers t (Instr.Jz r₁ r₂) = h.registers
  new_registers t (Instr.Load r r₁) = tag-put t r
  new_registers t (Instr.Store r₁ r₂) = h.registers

  issue_words_at : (t : Tag) (ia : InstrAddr) (o : Option Instr) → get_elem? prog ia.0 ≡ o → OnStep HoldWords (tried (issue_at t σ m ia) (present o))
  issue_words_at t ia none e = tt
  issue_words_at t ia (some i) e =
      by_test (OnStep HoldWords) (leb room (length σ.held)) (λ _. tt)
      (λ _.
      by_test (OnStep HoldWords) (tag_ok σ.held t i)
      (λ _.
      record {
        registers = new_registers t i;
        templates =
            all_append InTemplate σ.held (ITB ia (work_of σ.registers ia t i) ∷ []) h.templates
            (new_work t ia (omega (arith, found_inside prog ia.0 e)) i (all-at InInstr prog ia.0 ok e), tt);
        memory = h.memory;
      })
      (λ _. tt))

  issue_words_from : (t : Tag) (c : Counter) → OnStep HoldWords (issue_from t σ m prog c)
  issue_words_from t (At ia) = issue_words_at t ia (get_elem? prog ia.0) refl
  issue_words_from t Stall = tt

  obey_words : (c : Command) → OnStep HoldWords (obey prog c σ m)
  unfolding obey issue
  obey_words Malformed = tt
  obey_words (Issue t) = issue_words_from t σ.counter
  obey_words (Apply r place) =
      apply-cases (λ ts s. AllOf InTemplate ts → OnStep HoldWords s) r place σ m (λ _. tt) (words_cases σ m h.registers h.memory) h.templates

-- ---- a run

premise_in : (A : Type 0) (P : Mach → List Value → Type 0) (r : Step) → (A → OnStep P r) → OnStep (λ σ m. A → P σ m) r
premise_in A P (accepted σ m) f = f
premise_in A P (refused n) f = tt

module _ (prog : List Instr) (few : length prog ≤ 1024) (ok : AllOf InInstr prog) where
  obeyed_words : (cs : List Command) (σ : Mach) (m : List Value) → OnStep (λ σ' m'. HoldWords σ m → HoldWords σ' m') (obeyed prog cs σ m)
  obeyed_words cs σ m =
      in_turn_lem (obey prog) (λ _. Unit) (λ cs σ m σ' m'. HoldWords σ m → HoldWords σ' m') (λ σ m g h. h)
      (λ c cs σ m g.
      on_each _ _ (λ τ k f. (tt, λ σ' m' e h. e (f h))) (obey prog c σ m)
      (premise_in (HoldWords σ m) HoldWords (obey prog c σ m) (λ h. obey_words prog few ok σ m h c)))
      cs σ m tt

  start_words : (m : List Value) → AllOf IsWord m → HoldWords start m
  start_words m h = record { registers = all_replicate InRegister registers (register (Known Undefined)) tt; templates = tt; memory = h }

  run_words : (cs : List Command) (m : List Value) → AllOf IsWord m → Words (run prog cs start m).memory
  run_words cs m h =
      let e = run prog cs start m in
      let r = run_accepts prog cs start m in
      let left = on_accepted (λ σ' m'. HoldWords start m → HoldWords σ' m') r.allowed (obeyed_words (take e.accepted cs) start m) (start_words m h) in
      words_of e.memory left.memory

-- ---- of bytes

module _ (b : List ℕ) (small : AreBytes b) where
  record-word : (i : ℕ) → (record_from b i).word < 2 ^ 32
  record-word i =
      let b₀ = small (i + 4) in
      let b₁ = small (i + 4 + 1) in
      let b₂ = small (i + 4 + 2) in
      let b₃ = small (i + 4 + 3) in
      omega arith

  all-records : AllOf (λ (r : Record). r.word < 2 ^ 32) (records b)
  unfolding records
  all-records = all-tabulate (λ (r : Record). r.word < 2 ^ 32) (length b / 8) (λ i. record_from b (8 * i)) (λ i. record-word (8 * i))

  pub cells_words : AllOf IsWord (cells b)
  unfolding cells
  cells_words =
      all_map (λ (r : Record). r.word < 2 ^ 32) IsWord value_of (λ r h. by_test IsWord (eqb r.b0 1) (λ _. h) (λ _. tt)) (records b) all-records

constant_word : (r : Record) (i : Instr) → Instruction.record_of i ≡ r → r.word < 2 ^ 32 → InInstr i
constant_word r (Instr.Loadc q k) e h = let same : k ≡ r.word = ap (λ (x : Record). x.word) e in omega arith
constant_word r (Instr.Loadpc q) e h = tt
constant_word r (Instr.Op q n r₁ r₂) e h = tt
constant_word r (Instr.Jz r₁ r₂) e h = tt
constant_word r (Instr.Load q r₁) e h = tt
constant_word r (Instr.Store r₁ r₂) e h = tt

leads_words : (t : Result Instr Refusal) (is : List Instr) → ((i : Instr) → t ≡ Ok i → InInstr i) → AllOf InInstr is → AllOf InInstr (leads t is)
leads_words (Ok i) is h g = (h i refl, g)
leads_words (Err n) is h g = tt

instructions_words : (rs : List Record) → AllOf (λ (r : Record). r.word < 2 ^ 32) rs → AllOf InInstr (instructions rs)
instructions_words [] h = tt
instructions_words (r ∷ rs) h =
    leads_words (parse r) (instructions rs) (λ i e. constant_word r i (record-parsed r i e).same h.0) (instructions_words rs h.1)

pub bytes_run_words : (p b : List ℕ) → AreBytes p → AreBytes b → length (program p) ≤ 1024 → (cs : List Command)
    → Words (run (program p) cs start (cells b)).memory
unfolding program
bytes_run_words p b small-p small_b few cs =
    run_words (program p) few (instructions_words (records p) (all-records p small-p)) cs (cells b) (cells_words b small_b)
