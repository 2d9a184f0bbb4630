-- Demand 2's refusals: a command is accepted exactly when all its conditions hold, and refused with n exactly when the first that fails has the refusal n.
use Prim.Native.Nat.{ℕ, zero, suc, ◌≤◌}
use native.Mathlib.Omega.{arith}
use mathlib.Core.Path.{◌≡◌, refl, sym, ap, ◌∙◌}
use mathlib.Core.Logic.{◌↔◌, inl, inr}
use mathlib.Core.Bool.{Bool, true, false, cond, ◌||◌, not, true≢false}
use mathlib.Core.List.{List, [], ◌∷◌, ◌++◌}
use mathlib.Core.Option.{Option, none, some}
use lib.Dec.{eqb, ltb, leb}
use lib.ListN.{length, get_or, take, drop, get_elem?}
use borrow.Author.Tests.{leb-true, leb-false, lt-ltb, le-ltb}
use Rattle.records.specs.declared.Refusal.{Refusal}
use Rattle.value.specs.declared.Value.{Value}
use Rattle.value.specs.declared.Value.TheVariants.{Undefined, Word}
use Rattle.isa.specs.declared.InstrAddr.{InstrAddr}
use Rattle.isa.specs.declared.Tag.{Tag}
use Rattle.isa.specs.declared.Instr.{Instr}
use Rattle.isa.specs.Program.{present}
use Rattle.cells.specs.Cells.{inside, load_from}
use Rattle.kernel.specs.Kernel.{read_at, write_at, target}
use Rattle.templates.specs.declared.Operand.{Operand}
use Rattle.templates.specs.declared.Operand.TheVariants.{Known, Waits}
use Rattle.templates.specs.declared.Work.{Work}
use Rattle.templates.specs.declared.Work.TheVariants.{Done, Op, Jz, Load, Store}
use Rattle.templates.specs.declared.Counter.{Counter}
use Rattle.templates.specs.declared.Counter.TheVariants.{At, Stall}
use Rattle.templates.specs.Templates.{any_reg}
use Rattle.templates.specs.Machine.{Itb, nothing, any_holds, any_memory, Mach, room}
use Rattle.sound.proofs.Basics.{by_test}
use Rattle.rules.specs.declared.Rule.{Rule}
use Rattle.rules.specs.declared.Command.{Command}
use Rattle.rules.specs.declared.Command.TheVariants.{Malformed, Issue, Apply}
use Rattle.records.specs.declared.Refusal.TheVariants.{NoInstruction, Stalled, Full, BadTag, NeedsTag, IsUndefined, Outside}
use Rattle.rules.specs.Rules.{Step, accepted, refused, holding, tried, known, becomes, go_to, rule, apply, tag_ok, issue_at, issue_from, issue}
use Rattle.rules.specs.Schedule.{obey}
use Rattle.records.proofs.Leading.{found_inside}
use Rattle.demands.specs.Conditions.{Condition, ◌else◌, AllHold, FirstFails, is_known, value_in, is_defined, is_within, needs, is_address, instr_at, is_there, tag_fits, conditions}

-- ---- conditions in order

pub never_both : (cs : List Condition) (n : Refusal) → AllHold cs → FirstFails n cs → ⊥
never_both [] n h f = f
never_both (c ∷ cs) n h (inl f) = true≢false (sym h.0 ∙ f.0)
never_both (c ∷ cs) n h (inr f) = never_both cs n h.1 f.1

pub only_one : (cs : List Condition) (n k : Refusal) → FirstFails n cs → FirstFails k cs → n ≡ k
only_one [] n k f g = absurd f
only_one (c ∷ cs) n k (inl f) (inl g) = sym f.1 ∙ g.1
only_one (c ∷ cs) n k (inl f) (inr g) = absurd (true≢false (sym g.0 ∙ f.0))
only_one (c ∷ cs) n k (inr f) (inl g) = absurd (true≢false (sym f.0 ∙ g.0))
only_one (c ∷ cs) n k (inr f) (inr g) = only_one cs n k f.1 g.1

-- what a step says of its conditions
abbrev Says : Step → List Condition → Type 0
Says (accepted σ m) cs = AllHold cs
Says (refused n) cs = FirstFails n cs

record Said (s : Step) (cs : List Condition) : Type 0 where
  says : Says s cs

met : {σ : Mach} {m : List Value} → Said (accepted σ m) []
met = record { says = tt }

missed : {n : Refusal} {cs : List Condition} → Said (refused n) ((false else n) ∷ cs)
missed = record { says = inl (refl, refl) }

one_more : (s : Step) (c : Condition) (cs : List Condition) → c.holds ≡ true → Says s cs → Says s (c ∷ cs)
one_more (accepted σ m) c cs e h = (e, h)
one_more (refused k) c cs e h = inr (e, h)

given : {s : Step} {b : Bool} {n : Refusal} {cs : List Condition} → b ≡ true → Said s cs → Said s ((b else n) ∷ cs)
given {s} {b} {n} {cs} e h = record { says = one_more s (b else n) cs e h.says }

passed : {s : Step} {n : Refusal} {cs : List Condition} → Said s cs → Said s ((true else n) ∷ cs)
passed h = given refl h

tested : {s : Step} (b : Bool) {n : Refusal} {cs : List Condition} → Said s cs → Said (cond b s (refused n)) ((b else n) ∷ cs)
tested true h = passed h
tested false h = missed

tested_not : {s : Step} (b : Bool) {n : Refusal} {cs : List Condition} → Said s cs → Said (cond b (refused n) s) ((not b else n) ∷ cs)
tested_not true h = missed
tested_not false h = passed h

-- ---- an element that isn't there is past the end

pub is_past : {A : Type 0} (xs : List A) (k : ℕ) → get_elem? xs k ≡ none → length xs ≤ k
is_past [] k e = omega arith
is_past (y ∷ xs) zero e = absurd (cc)
is_past (y ∷ xs) (suc k) e = let l = is_past xs k e in omega (arith, l)

-- ---- the rules but issue

module _ (σ : Mach) (m : List Value) (pre : List Itb) (a : InstrAddr) (post : List Itb) where
  abbrev Here : Rule → Work → Type 0
  Here r w = Said (rule r σ m pre a post w) (needs σ m pre post w r)

  operate_said : (w : Work) → Here Rule.Operate w
  operate_said (Done t v) = missed
  operate_said (Op t n (Known u) (Known v)) = passed (passed met)
  operate_said (Op t n (Known u) (Waits s)) = passed missed
  operate_said (Op t n (Waits s) y) = passed missed
  operate_said (Jz x y) = missed
  operate_said (Load t x) = missed
  operate_said (Store x y) = missed

  forward_said : (w : Work) → Here Rule.Forward w
  forward_said (Done t v) = passed (tested (any_holds t post) met)
  forward_said (Op t n x y) = missed
  forward_said (Jz x y) = missed
  forward_said (Load t x) = missed
  forward_said (Store x y) = missed

  commit_said : (w : Work) → Here Rule.Commit w
  commit_said (Done t v) = passed (tested (any_reg t σ.registers) met)
  commit_said (Op t n x y) = missed
  commit_said (Jz x y) = missed
  commit_said (Load t x) = missed
  commit_said (Store x y) = missed

  retire_said : (w : Work) → Here Rule.Retire w
  retire_said (Done t v) = passed (tested_not (any_reg t σ.registers || any_holds t post) met)
  retire_said (Op t n x y) = missed
  retire_said (Jz x y) = missed
  retire_said (Load t x) = missed
  retire_said (Store x y) = missed

  -- ---- memory

  cell_said : (t : Tag) (w : ℕ) (o : Option Value) → get_elem? m w ≡ o
      → Said (tried (λ v. becomes σ m pre a post (Done t v)) (inside o)) ((ltb w (length m) else Outside) ∷ [])
  cell_said t w none e = rw (le-ltb w (length m) (is_past m w e)) missed
  cell_said t w (some v) e = given (lt-ltb w (length m) (found_inside m w e)) met

  loaded_said : (t : Tag) (x : Operand)
      → Said (known (λ u. tried (λ v. becomes σ m pre a post (Done t v)) (read_at m u)) x)
      ((is_known x else NeedsTag) ∷ (is_defined (value_in x) else IsUndefined) ∷ (is_within m (value_in x) else Outside) ∷ [])
  unfolding load_from
  loaded_said t (Known Undefined) = passed missed
  loaded_said t (Known (Word w)) = passed (passed (cell_said t w (get_elem? m w) refl))
  loaded_said t (Waits s) = missed

  load_said : (w : Work) → Here Rule.Load w
  load_said (Done t v) = missed
  load_said (Op t n x y) = missed
  load_said (Jz x y) = missed
  load_said (Load t x) = passed (tested_not (any_memory pre) (loaded_said t x))
  load_said (Store x y) = missed

  written_said : (x v : Value)
      → Said (tried (λ m'. accepted (holding σ (pre ++ post)) m') (write_at m x v))
      ((is_defined x else IsUndefined) ∷ (is_within m x else Outside) ∷ [])
  written_said Undefined v = missed
  written_said (Word w) v =
      passed
      (by_test (λ r. Said (tried (λ m'. accepted (holding σ (pre ++ post)) m') r) ((ltb w (length m) else Outside) ∷ [])) (ltb w (length m))
      (λ l. given l met) (λ l. rw l missed))

  store_said : (w : Work) → Here Rule.Store w
  store_said (Done t v) = missed
  store_said (Op t n x y) = missed
  store_said (Jz x y) = missed
  store_said (Load t x) = missed
  store_said (Store (Known x) (Known v)) = passed (tested_not (any_memory pre) (passed (written_said x v)))
  store_said (Store (Known x) (Waits s)) = passed (tested_not (any_memory pre) missed)
  store_said (Store (Waits s) y) = passed (tested_not (any_memory pre) missed)

  -- ---- a Jz

  target_said : (y : Operand)
      → Said (known (λ v. tried (go_to σ m pre a post) (target v)) y) ((is_known y else NeedsTag) ∷ (is_defined (value_in y) else IsUndefined) ∷ [])
  target_said (Known Undefined) = passed missed
  target_said (Known (Word w)) = passed (passed met)
  target_said (Waits s) = missed

  jump_said : (w : Work) → Here Rule.Jump w
  jump_said (Done t v) = missed
  jump_said (Op t n x y) = missed
  jump_said (Jz (Known Undefined) y) = passed (passed missed)
  jump_said (Jz (Known (Word w)) y) = passed (passed (passed (tested (eqb w 0) (target_said y))))
  jump_said (Jz (Waits s) y) = passed missed
  jump_said (Load t x) = missed
  jump_said (Store x y) = missed

  no_jump_said : (w : Work) → Here Rule.NoJump w
  no_jump_said (Done t v) = missed
  no_jump_said (Op t n x y) = missed
  no_jump_said (Jz (Known Undefined) y) = passed (passed missed)
  no_jump_said (Jz (Known (Word w)) y) = passed (passed (passed (tested_not (eqb w 0) met)))
  no_jump_said (Jz (Waits s) y) = passed missed
  no_jump_said (Load t x) = missed
  no_jump_said (Store x y) = missed

  rule_said : (r : Rule) (w : Work) → Here r w
  rule_said Rule.Operate w = operate_said w
  rule_said Rule.Forward w = forward_said w
  rule_said Rule.Commit w = commit_said w
  rule_said Rule.Retire w = retire_said w
  rule_said Rule.Load w = load_said w
  rule_said Rule.Store w = store_said w
  rule_said Rule.Jump w = jump_said w
  rule_said Rule.NoJump w = no_jump_said w

-- ---- a command

module _ (prog : List Instr) (σ : Mach) (m : List Value) where
  fetched_said : (t : Tag) (ia : InstrAddr) (o : Option Instr)
      → Said (tried (issue_at t σ m ia) (present o))
      ((is_there o else NoInstruction) ∷ (ltb (length σ.held) room else Full) ∷ (tag_fits σ.held t o else BadTag) ∷ [])
  fetched_said t ia none = missed
  fetched_said t ia (some i) =
      passed
      (by_test (λ s. Said s ((ltb (length σ.held) room else Full) ∷ (tag_ok σ.held t i else BadTag) ∷ [])) (leb room (length σ.held))
      (λ h. rw (le-ltb (length σ.held) room (leb-true room (length σ.held) h)) missed)
      (λ h. given (lt-ltb (length σ.held) room (leb-false room (length σ.held) h)) (tested (tag_ok σ.held t i) met)))

  issue_said : (t : Tag) (pc : Counter)
      → Said (issue_from t σ m prog pc)
      ((is_address pc else Stalled)
      ∷ (is_there (instr_at prog pc) else NoInstruction)
      ∷ (ltb (length σ.held) room else Full)
      ∷ (tag_fits σ.held t (instr_at prog pc) else BadTag)
      ∷ [])
  issue_said t (At ia) = passed (fetched_said t ia (get_elem? prog ia.0))
  issue_said t Stall = missed

  obey_said : (c : Command) → Said (obey prog c σ m) (conditions prog c σ m)
  unfolding obey issue apply
  obey_said Malformed = missed
  obey_said (Issue t) = issue_said t σ.counter
  obey_said (Apply r k) =
      let x = get_or σ.held k nothing in
      tested (ltb k (length σ.held)) (rule_said σ m (take k σ.held) x.address (drop (suc k) σ.held) r x.work)

  -- ---- demand 2's refusals

  module _ (c : Command) where
    -- each refusal is given exactly when its condition is the first to fail
    pub refused-first : (n : Refusal) → (obey prog c σ m ≡ refused n) ↔ FirstFails n (conditions prog c σ m)
    refused-first n = (λ e. rw e at (obey_said c).says, back (obey prog c σ m) (obey_said c).says)
      where
        back : (s : Step) → Says s (conditions prog c σ m) → FirstFails n (conditions prog c σ m) → s ≡ refused n
        back (accepted σ' m') h f = absurd (never_both (conditions prog c σ m) n h f)
        back (refused k) h f = ap refused (only_one (conditions prog c σ m) k n h f)

    -- and none when all hold
    pub accepted-all : ((σ' : Mach) × (m' : List Value) × (obey prog c σ m ≡ accepted σ' m')) ↔ AllHold (conditions prog c σ m)
    accepted-all = (λ e. rw e.2 at (obey_said c).says, back (obey prog c σ m) (obey_said c).says)
      where
        back : (s : Step) → Says s (conditions prog c σ m) → AllHold (conditions prog c σ m) → (σ' : Mach) × (m' : List Value) × (s ≡ accepted σ' m')
        back (accepted σ' m') h a = (σ', m', refl)
        back (refused k) h a = absurd (never_both (conditions prog c σ m) k a h)
