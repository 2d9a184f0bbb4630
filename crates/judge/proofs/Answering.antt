-- A rule at a place of the machine that the rows show is what it answers on the rows.
use mathlib.Core.Path.{◌≡◌, refl, sym, ap, ◌∙◌}
use Prim.Native.Nat.{ℕ, suc, ◌≤◌, ◌<◌}
use native.Mathlib.Decide.{dec_lt}
use native.Mathlib.Omega.{arith}
use mathlib.Core.Bool.{Bool, true, false, cond, ◌||◌}
use mathlib.Core.List.{List, ◌∷◌, ◌++◌}
use lib.Dec.{eqb}
use lib.ListN.{length, take, drop}
use borrow.Author.Tests.{lt-ltb, le-ltb}
use Rattle.records.specs.declared.Refusal.TheVariants.{EarlierMemory, NotHeld, StillHeld, OtherWay}
use Rattle.std.specs.Prelude.{Result, Ok, Err}
use Rattle.records.specs.declared.Refusal.{Refusal}
use Rattle.value.specs.declared.Value.{Value}
use Rattle.value.specs.declared.Value.TheVariants.{Undefined, Word}
use Rattle.value.specs.Operation.{result_of}
use Rattle.isa.specs.declared.InstrAddr.{InstrAddr}
use Rattle.isa.specs.declared.Tag.{Tag}
use Rattle.records.specs.Refusal.{verdict_of}
use Rattle.kernel.specs.Kernel.{next, read_at, write_at, target}
use Rattle.templates.specs.declared.Counter.{Counter}
use Rattle.templates.specs.declared.Operand.{Operand}
use Rattle.templates.specs.declared.Operand.TheVariants.{Known, Waits}
use Rattle.templates.specs.declared.Register.{Register}
use Rattle.templates.specs.declared.Work.{Work}
use Rattle.templates.specs.declared.Work.TheVariants.{Done}
use Rattle.templates.specs.Templates.{any_reg, fill_regs}
use Rattle.templates.specs.Machine.{Itb, ITB, fill_all, Mach, mach}
use Rattle.rows.specs.Rows.{Row, a_value, an_op, a_jz, a_load, a_store, row_at, operation_at, tag_at, address_at, value_at, first_at, second_at, itb_of, held_behind, memory_before, in_register}
use Rattle.rows.specs.Shown.{held_of, regs_of, Table, File}
use Rattle.rows.proofs.Showing.{held_long, here, searched, searched_memory, searched_registers}
use Rattle.rows.proofs.Works.{by_kind}
use Rattle.rules.specs.declared.Rule.{Rule}
use Rattle.rules.specs.Rules.{Step, accepted, refused, tried, known, condition, becomes, go_to, rule, apply}
use Rattle.rules.specs.Drain.{refusal, refusal_at}
use Rattle.judge.specs.Reading as Reading
use Rattle.judge.specs.Reading.{of_kind, needing, in_order, branching, operating, loading, targeted, jumping, falling, forwarding, committing, retiring, verdict_on, refusal_on}

-- ---- what is known of an operand, or tested, is tried alike

module _ {A : Type 0} (F : A → Step) where
  one_known : (f : Value → Result A Refusal) (x : Operand) → known (λ u. tried F (f u)) x ≡ tried F (needing f x)
  one_known f (Known u) = refl
  one_known f (Waits t) = refl

  two-known : (f : Value → Value → Result A Refusal) (x y : Operand) → known (λ u. known (λ v. tried F (f u v)) y) x ≡ tried F (needing (λ u. needing (f u) y) x)
  two-known f (Known u) y = one_known (f u) y
  two-known f (Waits t) y = refl

  branched : (zeros other : Result A Refusal) (u : Value) → condition (tried F zeros) (tried F other) u ≡ tried F (branching zeros other u)
  branched zeros other Undefined = refl
  branched zeros other (Word w) = either (eqb w 0)
    where
      either : (b : Bool) → cond b (tried F zeros) (tried F other) ≡ tried F (cond b zeros other)
      either true = refl
      either false = refl

  ordered : (b : Bool) (t : Result A Refusal) → cond b (refused EarlierMemory) (tried F t) ≡ tried F (in_order b t)
  ordered true t = refl
  ordered false t = refl

-- ---- at a place

module _ {n p : ℕ} {ts : List Row} (t : Table n ts) (h : p < n) (c : Counter) (rs : List Register) (m : List Value) where
  abbrev σ : Mach
  σ = mach c rs (held_of n ts)

  abbrev pre : List Itb
  pre = take p (held_of n ts)

  abbrev post : List Itb
  post = drop (suc p) (held_of n ts)

  abbrev a : InstrAddr
  a = address_at ts p

  abbrev tag : Tag
  tag = tag_at ts p

  abbrev by : Rule → Work → Step
  by r w = rule r σ m pre a post w

  pub at : (r : Rule) → apply r p σ m ≡ by r (itb_of (row_at ts p)).work
  unfolding apply
  at r = rw (lt-ltb p (length (held_of n ts)) (omega (arith, held_long t)), ← here t h) refl

  abbrev finishing : Value → Step
  finishing v = becomes σ m pre a post (Done tag v)

  pub operate_reads : apply Rule.Operate p σ m ≡ tried finishing (operating p ts)
  operate_reads =
      let T : Result Value Refusal = needing (λ u. needing (λ v. Ok (result_of (operation_at ts p) u v)) (second_at ts p)) (first_at ts p) in
      at Rule.Operate
      ∙ by_kind ts p t h (λ k w. by Rule.Operate w ≡ tried finishing (of_kind an_op k T))
      refl (two-known finishing (λ u v. Ok (result_of (operation_at ts p) u v)) (first_at ts p) (second_at ts p)) refl refl refl

  pub load_reads : apply Rule.Load p σ m ≡ tried finishing (loading m p ts)
  load_reads =
      let T : Result Value Refusal = in_order (memory_before p ts) (needing (λ u. read_at m u) (first_at ts p)) in
      at Rule.Load
      ∙ by_kind ts p t h (λ k w. by Rule.Load w ≡ tried finishing (of_kind a_load k T))
      refl refl refl
      (rw (← searched_memory t h) (ap (cond (memory_before p ts) (refused EarlierMemory)) (one_known finishing (read_at m) (first_at ts p)) ∙ ordered finishing (memory_before p ts) (needing (read_at m) (first_at ts p))))
      refl

  abbrev writing : List Value → Step
  writing m' = accepted (mach c rs (pre ++ post)) m'

  pub store_reads : apply Rule.Store p σ m ≡ tried writing (Reading.storing m p ts)
  store_reads =
      let T : Result (List Value) Refusal = in_order (memory_before p ts) (needing (λ u. needing (λ v. write_at m u v) (second_at ts p)) (first_at ts p)) in
      at Rule.Store
      ∙ by_kind ts p t h (λ k w. by Rule.Store w ≡ tried writing (of_kind a_store k T))
      refl refl refl refl
      (rw (← searched_memory t h) (ap (cond (memory_before p ts) (refused EarlierMemory)) (two-known writing (write_at m) (first_at ts p) (second_at ts p)) ∙ ordered writing (memory_before p ts) (needing (λ u. needing (λ v. write_at m u v) (second_at ts p)) (first_at ts p))))

  abbrev going : InstrAddr → Step
  going ia = go_to σ m pre a post ia

  pub jump_reads : apply Rule.Jump p σ m ≡ tried going (jumping p ts)
  jump_reads =
      let T : Result InstrAddr Refusal = needing (branching (targeted (second_at ts p)) (Err OtherWay)) (first_at ts p) in
      at Rule.Jump
      ∙ by_kind ts p t h (λ k w. by Rule.Jump w ≡ tried going (of_kind a_jz k T))
      refl refl (jumped (first_at ts p) (second_at ts p)) refl refl
    where
      jumped : (x y : Operand) → known (λ u. condition (known (λ v. tried going (target v)) y) (refused OtherWay) u) x ≡ tried going (needing (branching (targeted y) (Err OtherWay)) x)
      jumped (Known u) y = ap (λ (s : Step). condition s (refused OtherWay) u) (one_known going target y) ∙ branched going (targeted y) (Err OtherWay) u
      jumped (Waits v) y = refl

  pub fall_reads : apply Rule.NoJump p σ m ≡ tried (λ _. going (next a)) (falling p ts)
  fall_reads =
      let F : Unit {0} → Step = λ _. going (next a) in
      let T : Result (Unit {0}) Refusal = needing (branching (Err OtherWay) (Ok tt)) (first_at ts p) in
      at Rule.NoJump
      ∙ by_kind ts p t h (λ k w. by Rule.NoJump w ≡ tried F (of_kind a_jz k T))
      refl refl (fallen (first_at ts p)) refl refl
    where
      fallen : (x : Operand) → known (λ u. condition (refused OtherWay) (going (next a)) u) x ≡ tried (λ (_ : Unit {0}). going (next a)) (needing (branching (Err OtherWay) (Ok tt)) x)
      fallen (Known u) = branched (λ (_ : Unit {0}). going (next a)) (Err OtherWay) (Ok tt) u
      fallen (Waits v) = refl

  -- ---- a value template

  unless : (b : Bool) (s : Step) → cond b s (refused NotHeld) ≡ tried (λ (_ : Unit {0}). s) (cond b (Ok tt) (Err NotHeld))
  unless true s = refl
  unless false s = refl

  if : (b : Bool) (s : Step) → cond b (refused StillHeld) s ≡ tried (λ (_ : Unit {0}). s) (cond b (Err StillHeld) (Ok tt))
  if true s = refl
  if false s = refl

  abbrev pub forwarded : Step
  forwarded = accepted (mach c rs (pre ++ ITB a (Done tag (value_at ts p)) ∷ fill_all tag (value_at ts p) post)) m

  pub forward_reads : apply Rule.Forward p σ m ≡ tried (λ _. forwarded) (forwarding n p ts)
  forward_reads =
      let F : Unit {0} → Step = λ _. forwarded in
      let T : Result (Unit {0}) Refusal = cond (held_behind n p ts) (Ok tt) (Err NotHeld) in
      at Rule.Forward
      ∙ by_kind ts p t h (λ k w. by Rule.Forward w ≡ tried F (of_kind a_value k T))
      (rw (← searched t h) (unless (held_behind n p ts) forwarded)) refl refl refl refl

  abbrev pub committed : Step
  committed = accepted (mach c (fill_regs tag (value_at ts p) rs) (pre ++ ITB a (Done tag (value_at ts p)) ∷ post)) m

  abbrev pub gone : Step
  gone = accepted (mach c rs (pre ++ post)) m

  module _ {rf : List ℕ} (f : File rf) (e : rs ≡ regs_of rf) where
    pub commit_reads : apply Rule.Commit p σ m ≡ tried (λ _. committed) (committing p ts rf)
    commit_reads =
        let F : Unit {0} → Step = λ _. committed in
        let T : Result (Unit {0}) Refusal = cond (in_register tag rf) (Ok tt) (Err NotHeld) in
        let same : in_register tag rf ≡ any_reg tag rs = searched_registers f tag ∙ ap (any_reg tag) (sym e) in
        at Rule.Commit
        ∙ by_kind ts p t h (λ k w. by Rule.Commit w ≡ tried F (of_kind a_value k T))
        (rw (← same) (unless (in_register tag rf) committed)) refl refl refl refl

    pub retire_reads : apply Rule.Retire p σ m ≡ tried (λ _. gone) (retiring n p ts rf)
    retire_reads =
        let F : Unit {0} → Step = λ _. gone in
        let T : Result (Unit {0}) Refusal = cond (in_register tag rf || held_behind n p ts) (Err StillHeld) (Ok tt) in
        let same : in_register tag rf ≡ any_reg tag rs = searched_registers f tag ∙ ap (any_reg tag) (sym e) in
        at Rule.Retire
        ∙ by_kind ts p t h (λ k w. by Rule.Retire w ≡ tried F (of_kind a_value k T))
        (rw (← same, ← searched t h) (if (in_register tag rf || held_behind n p ts) gone)) refl refl refl refl

-- ---- the refusal is the one that it is tried with

module _ {A : Type 0} (F : A → Step) (e : (x : A) → refusal (F x) ≡ Ok tt) where
  tried-verdict : (t : Result A Refusal) → refusal (tried F t) ≡ verdict_of t
  tried-verdict (Ok x) = e x
  tried-verdict (Err k) = refl

-- of nothing but the verdict
tried-itself : (s : Step) → refusal s ≡ Ok tt → (t : Result (Unit {0}) Refusal) → refusal (tried (λ _. s) t) ≡ t
tried-itself s e (Ok x) = e
tried-itself s e (Err k) = refl

module _ {n : ℕ} {ts : List Row} (t : Table n ts) {rf : List ℕ} (f : File rf) (c : Counter) (m : List Value) (p : ℕ) where
  abbrev τ : Mach
  τ = mach c (regs_of rf) (held_of n ts)

  past : (r : Rule) → n ≤ p → refusal_at r p τ m ≡ refusal_on n p ts rf m r
  unfolding apply
  past r h = rw (le-ltb p n h, le-ltb p (length (held_of n ts)) (omega (arith, held_long t))) refl

  module _ (h : p < n) where
    there : (r : Rule) → refusal_at r p τ m ≡ verdict_on n p ts rf m r
    there Rule.Operate = ap refusal (operate_reads t h c (regs_of rf) m) ∙ tried-verdict (finishing t h c (regs_of rf) m) (λ v. refl) (operating p ts)
    there Rule.Forward = ap refusal (forward_reads t h c (regs_of rf) m) ∙ tried-itself (forwarded t h c (regs_of rf) m) refl (forwarding n p ts)
    there Rule.Commit = ap refusal (commit_reads t h c (regs_of rf) m f refl) ∙ tried-itself (committed t h c (regs_of rf) m) refl (committing p ts rf)
    there Rule.Retire = ap refusal (retire_reads t h c (regs_of rf) m f refl) ∙ tried-itself (gone t h c (regs_of rf) m) refl (retiring n p ts rf)
    there Rule.Load = ap refusal (load_reads t h c (regs_of rf) m) ∙ tried-verdict (finishing t h c (regs_of rf) m) (λ v. refl) (loading m p ts)
    there Rule.Store = ap refusal (store_reads t h c (regs_of rf) m) ∙ tried-verdict (writing t h c (regs_of rf) m) (λ m'. refl) (Reading.storing m p ts)
    there Rule.Jump = ap refusal (jump_reads t h c (regs_of rf) m) ∙ tried-verdict (going t h c (regs_of rf) m) (λ ia. refl) (jumping p ts)
    there Rule.NoJump = ap refusal (fall_reads t h c (regs_of rf) m) ∙ tried-itself (going t h c (regs_of rf) m (next (address_at ts p))) refl (falling p ts)

  pub refusal_shown : (r : Rule) → refusal_on n p ts rf m r ≡ refusal_at r p τ m
  refusal_shown r = which (dec_lt p n)
    where
      which : Dec (p < n) → refusal_on n p ts rf m r ≡ refusal_at r p τ m
      which (yes h) = rw (lt-ltb p n h) (sym (there h r))
      which (no h) = sym (past r (omega arith))
