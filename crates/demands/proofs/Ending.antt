-- A sound machine that can do nothing but issue agrees with its outcome.
use Prim.Native.Nat.{ℕ}
use mathlib.Core.Path.{◌≡◌, refl, sym, ap₂, subst, ◌∙◌}
use mathlib.Core.Logic.{◌⊎◌, inl, inr}
use mathlib.Core.Bool.{Bool, true, false, cond, ◌||◌, true≢false, false≢true}
use mathlib.Core.List.{List, [], ◌∷◌, ◌++◌, map}
use mathlib.Core.Option.{Option, none, some}
use lib.Dec.{eqb, ltb}
use lib.ListN.{length, set, get_elem?}
use Rattle.records.specs.declared.Refusal.TheVariants.{NotHeld, StillHeld, IsUndefined, Outside, OtherWay}
use Rattle.std.specs.Prelude.{Result, Ok, Err}
use Rattle.records.specs.declared.Refusal.{Refusal}
use Rattle.value.specs.declared.Value.{Value}
use Rattle.value.specs.declared.Value.TheVariants.{Undefined, Word}
use Rattle.isa.specs.declared.InstrAddr.{InstrAddr}
use Rattle.isa.specs.declared.Tag.{Tag}
use Rattle.cells.specs.Cells.{inside, load_from}
use Rattle.kernel.specs.Kernel.{next, read_at, write_at, target, stopped}
use Rattle.templates.specs.declared.Operand.{Operand}
use Rattle.templates.specs.declared.Operand.TheVariants.{Known, Waits}
use Rattle.templates.specs.declared.Work.{Work}
use Rattle.templates.specs.declared.Work.TheVariants.{Done, Op, Jz, Load, Store}
use Rattle.templates.specs.declared.Register.{Register}
use Rattle.templates.specs.declared.Counter.{Counter}
use Rattle.templates.specs.declared.Counter.TheVariants.{At, Stall}
use Rattle.templates.specs.Templates.{register, is_memory, any_reg, fill_regs}
use Rattle.templates.specs.Machine.{Itb, ITB, any_holds, fill_all, Mach, mach}
use Rattle.sound.specs.Sound.{is_jz}
use Rattle.sound.specs.Sound as Sound
use Rattle.sound.proofs.Soundness.{Ready, WorkOk, RegistersOk, Sound}
use Rattle.rules.specs.declared.Rule.{Rule}
use Rattle.rules.specs.Rules.{accepted, refused, tried, known, becomes, go_to, rule}
use Rattle.rules.specs.Rules as Rules
use Rattle.rules.specs.Drain.{asks}
use Rattle.rules.proofs.Environment.{resolve}
use Rattle.rules.proofs.Cases.{apply_at}
use Rattle.rules.specs.Moves.{Refused, Stuck}
use Rattle.demands.specs.Agrees.{valued, Agrees}
use Rattle.demands.proofs.Flush.{execute, values, begin, nothing, outcome, flush_stopped}

-- ---- why memory's addresses, and a Jz, are refused

abbrev Reason : Refusal → Type 0
Reason n = (n ≡ IsUndefined) ⊎ (n ≡ Outside)

read_reason : (m : List Value) (u : Value) (n : Refusal) → read_at m u ≡ Err n → Reason n
unfolding load_from
read_reason m Undefined n e = inl (cc)
read_reason m (Word x) n e = at (get_elem? m x) e
  where
    at : (o : Option Value) → inside o ≡ Err n → Reason n
    at none e = inr (cc)
    at (some v) e = absurd (cc)

write_reason : (m : List Value) (u v : Value) (n : Refusal) → write_at m u v ≡ Err n → Reason n
write_reason m Undefined v n e = inl (cc)
write_reason m (Word x) v n e = at (ltb x (length m)) e
  where
    at : (b : Bool) → cond b (Ok (set m x v)) (Err Outside) ≡ Err n → Reason n
    at true e = absurd (cc)
    at false e = inr (cc)

-- ---- a refused test

was_false : (b : Bool) (σ : Mach) (m : List Value) (n : Refusal) → Refused (cond b (accepted σ m) (refused n)) → b ≡ false
was_false true σ m n h = absurd h
was_false false σ m n h = refl

was_true : (b : Bool) (σ : Mach) (m : List Value) (n : Refusal) → Refused (cond b (refused n) (accepted σ m)) → b ≡ true
was_true true σ m n h = refl
was_true false σ m n h = absurd h

-- a value template can be forwarded, committed or retired
pub no_value : (σ : Mach) (m : List Value) (pre : List Itb) (a : InstrAddr) (post : List Itb) (t : Tag) (v : Value)
    → ((r : Rule) → Refused (rule r σ m pre a post (Done t v))) → ⊥
no_value σ m pre a post t v f =
    let later = was_false (any_holds t post) (Rules.holding σ (pre ++ ITB a (Done t v) ∷ fill_all t v post)) m NotHeld (f Rule.Forward) in
    let register =
    was_false (any_reg t σ.registers) (mach σ.counter (fill_regs t v σ.registers) (pre ++ ITB a (Done t v) ∷ post)) m NotHeld (f Rule.Commit) in
    let some = was_true (any_reg t σ.registers || any_holds t post) (Rules.holding σ (pre ++ post)) m StillHeld (f Rule.Retire) in
    true≢false (sym some ∙ rw (register, later))

-- ---- the oldest template, of address a and with xs behind it, when no rule at its place is allowed

module _ (σ : Mach) (m : List Value) (a : InstrAddr) (xs : List Itb) where
  pub record Facing (w : Work) : Type 0 where
    why : Refusal
    stops : execute a w (begin σ m) ≡ stopped a why m
    refusal : rule (asks w) σ m [] a xs w ≡ refused why
    reason : Reason why
    kind : (is_memory w || is_jz w) ≡ true

  facing_load : (t : Tag) (u : Value) (r : Result Value Refusal) → read_at m u ≡ r
      → Refused (tried (λ v. becomes σ m [] a xs (Done t v)) r) → Facing (Load t (Known u))
  facing_load t u (Ok v) e h = absurd h
  facing_load t u (Err n) e h = record { why = n; stops = rw e; refusal = rw e; reason = read_reason m u n e; kind = refl }

  facing_store : (u v : Value) (r : Result (List Value) Refusal) → write_at m u v ≡ r
      → Refused (tried (λ m'. accepted (Rules.holding σ xs) m') r) → Facing (Store (Known u) (Known v))
  facing_store u v (Ok m') e h = absurd h
  facing_store u v (Err n) e h = record { why = n; stops = rw e; refusal = rw e; reason = write_reason m u v n e; kind = refl }

  facing_jz : (w : ℕ) (y : Operand) → Ready Sound.none y → (zero : Bool) → eqb w 0 ≡ zero
      → Refused (cond zero (known (λ v. tried (go_to σ m [] a xs) (target v)) y) (refused OtherWay))
      → Refused (cond zero (refused OtherWay) (go_to σ m [] a xs (next a))) → Facing (Jz (Known (Word w)) y)
  facing_jz w (Known (Word n)) h true e jump no_jump = absurd jump
  facing_jz w (Known Undefined) h true e jump no_jump = record { why = IsUndefined; stops = rw e; refusal = rw e; reason = inl refl; kind = refl }
  facing_jz w (Waits t) h true e jump no_jump = absurd (false≢true h)
  facing_jz w y h false e jump no_jump = absurd no_jump

  facing : (w : Work) → WorkOk Sound.none w → ((r : Rule) → Refused (rule r σ m [] a xs w)) → Facing w
  facing (Done t v) h f = absurd (no_value σ m [] a xs t v f)
  facing (Op t n (Known u) (Known v)) h f = absurd (f Rule.Operate)
  facing (Op t n (Known u) (Waits s)) h f = absurd (false≢true h.2)
  facing (Op t n (Waits s) y) h f = absurd (false≢true h.1)
  facing (Load t (Known u)) h f = facing_load t u (read_at m u) refl (f Rule.Load)
  facing (Load t (Waits s)) h f = absurd (false≢true h.1)
  facing (Store (Known u) (Known v)) h f = facing_store u v (write_at m u v) refl (f Rule.Store)
  facing (Store (Known u) (Waits s)) h f = absurd (false≢true h.1)
  facing (Store (Waits s) y) h f = absurd (false≢true h.0)
  facing (Jz (Known (Word w)) y) h f = facing_jz w y h.1 (eqb w 0) refl (f Rule.Jump) (f Rule.NoJump)
  facing (Jz (Known Undefined) y) h f = record { why = IsUndefined; stops = refl; refusal = refl; reason = inl refl; kind = refl }
  facing (Jz (Waits s) y) h f = absurd (false≢true h.0)

-- ---- the whole

-- where no tag has a producer, every register holds a value
known-operand : (x : Operand) → Ready Sound.none x → x ≡ Known (resolve nothing x)
known-operand (Known v) h = refl
known-operand (Waits t) h = absurd (false≢true h)

known-registers : (rf : List Register) → RegistersOk Sound.none rf → rf ≡ map valued (values nothing rf)
known-registers [] h = refl
known-registers (r ∷ rf) h = ap₂ (λ x y. register x ∷ y) (known-operand r.holds h.0) (known-registers rf h.2)

module _ (k : ℕ) (σ : Mach) (m : List Value) where
  agrees : (c : Counter) (ts : List Itb) → let τ = mach c σ.registers ts in Sound k τ → Stuck τ m → Agrees (outcome τ m) τ m
  agrees (At p) [] s f = record { empty = refl; counter = refl; registers = known-registers σ.registers s.registers; memory = refl }
  agrees Stall [] s f = absurd (false≢true s.counter)
  agrees c (x ∷ xs) s f =
      let τ = mach c σ.registers (x ∷ xs) in
      let g = facing τ m x.address xs x.work s.templates.1
      (λ r. subst Refused (apply_at r τ m [] x xs refl) (f (record { rule = r; place = 0 }))) in
      rw (g.stops, flush_stopped xs x.address g.why m)
      (record {
        oldest = x;
        later = xs;
        held = refl;
        kind = g.kind;
        address = refl;
        refusal = apply_at (asks x.work) τ m [] x xs refl ∙ g.refusal;
        reason = g.reason;
        memory = refl;
      })

  pub stuck_agrees : Sound k σ → Stuck σ m → Agrees (outcome σ m) σ m
  stuck_agrees = agrees σ.counter σ.held
