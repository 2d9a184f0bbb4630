-- An accepted issue makes the outcome one in-order step longer.
use Prim.Native.Nat.{ℕ, zero, suc}
use mathlib.Core.Path.{◌≡◌, refl, ap, ap₂, ◌∙◌}
use mathlib.Core.Bool.{true, false}
use mathlib.Core.List.{List, [], ◌∷◌}
use mathlib.Core.Option.{Option, none, some}
use lib.Dec.{leb}
use lib.ListN.{length, set, get_elem?, get_or-map}
use Rattle.std.specs.Prelude.{Result, Ok, Err}
use Rattle.records.specs.declared.Refusal.{Refusal}
use Rattle.value.specs.declared.Value.{Value}
use Rattle.value.specs.declared.Value.TheVariants.{Undefined, Word}
use Rattle.value.specs.Operation.{result_of}
use Rattle.isa.specs.declared.InstrAddr.{InstrAddr}
use Rattle.isa.specs.declared.Reg.{Reg}
use Rattle.isa.specs.declared.Tag.{Tag}
use Rattle.isa.specs.declared.Instr.{Instr}
use Rattle.isa.specs.Program.{present}
use Rattle.kernel.specs.Kernel.{next, read_at, write_at, branch, Run, going, stopped, attempt}
use Rattle.templates.specs.declared.Operand.TheVariants.{Known, Waits}
use Rattle.templates.specs.declared.Register.{Register}
use Rattle.templates.specs.declared.Counter.{Counter}
use Rattle.templates.specs.declared.Counter.TheVariants.{At, Stall}
use Rattle.templates.specs.Templates.{register, waits, any_reg, contents, put}
use Rattle.templates.specs.Machine.{ITB, Mach, mach, room}
use Rattle.sound.specs.Sound.{any_jz}
use Rattle.sound.proofs.Basics.{by_test, neither}
use Rattle.sound.proofs.Soundness.{CounterOk, Sound, fresh_unheld}
use Rattle.rules.specs.Rules.{Step, tried, is_fresh, tag_ok, work_of, renamed, counter_after, issued, issue_at, issue_from, issue}
use Rattle.rules.proofs.Environment.{Env, resolve}
use Rattle.rules.proofs.Cases.{OnStep}
use Rattle.rules.proofs.Keeping.{fresh_says}
use Rattle.inorder.specs.declared.Register.{Register as InOrderRegister}
use Rattle.inorder.specs.Machine.{perform, step}
use Rattle.inorder.specs.Machine as InOrder
use Rattle.demands.proofs.Binding.{bind, bind-itself}
use Rattle.demands.proofs.Flush.{execute, flush, values, finish, counter_of, nothing, outcome, flush-append, at, flush-at}
use Rattle.demands.proofs.Unread.{resolve-given, values-given}

abbrev pub Follows : List Instr → Run (List InOrderRegister) → Step → Type 0
Follows prog o = OnStep (λ σ m. outcome σ m ≡ step prog o)

-- ---- registers

value_at_lem : (e : Env) (rf : List Register) (r : Reg) → InOrder.held (values e rf) r ≡ resolve e (contents rf r)
value_at_lem e rf r = ap (λ (q : InOrderRegister). q.value) (get_or-map (λ q. InOrder.register (resolve e q.holds)) rf r.0 (register (Known Undefined)))

-- a new tag in the destination, with its value
value-put : (e : Env) (t : Tag) (v : Value) (rf : List Register) (r : Reg) → any_reg t rf ≡ false
    → values (bind t v e) (put rf r (Waits t)) ≡ InOrder.put (values e rf) r v
value-put e t v rf r h = at_place rf r.0 h
  where
    at_place : (rf : List Register) (n : ℕ) → any_reg t rf ≡ false → values (bind t v e) (set rf n (register (Waits t))) ≡ set (values e rf) n (InOrder.register v)
    at_place [] n h = refl
    at_place (q ∷ rf) zero h =
        ap₂ (λ u us. InOrder.register u ∷ us) (bind-itself t v e) (values-given t v e rf (neither (waits t q.holds) (any_reg t rf) h).1)
    at_place (q ∷ rf) (suc n) h =
        let i = neither (waits t q.holds) (any_reg t rf) h in
        ap₂ (λ u us. InOrder.register u ∷ us) (resolve-given t v e q.holds i.0) (at_place rf n i.1)

finish-attempt : {A : Type 0} (rf : List Register) (a : InstrAddr) (m : List Value) (f : A → Run Env) (g : A → Run (List InOrderRegister))
    → ((x : A) → finish rf (f x) ≡ g x) → (r : Result A Refusal) → finish rf (attempt a m f r) ≡ attempt a m g r
finish-attempt rf a m f g h (Ok x) = h x
finish-attempt rf a m f g h (Err n) = refl

-- ---- the new template does what the instruction does

module _ (t : Tag) (rf : List Register) (ia : InstrAddr) where
  abbrev Matches : Instr → Type 0
  Matches i =
      (e : Env) (m : List Value)
      → finish (renamed rf t i) (execute ia (work_of rf ia t i) (going e (counter_of (counter_after ia i)) m)) ≡ perform (values e rf) ia m i

  -- an instruction that writes no register has no tag
  abbrev Unheld : Instr → Type 0
  Unheld (Instr.Loadc r k) = any_reg t rf ≡ false
  Unheld (Instr.Loadpc r) = any_reg t rf ≡ false
  Unheld (Instr.Op r n r1 r2) = any_reg t rf ≡ false
  Unheld (Instr.Jz r1 r2) = Unit
  Unheld (Instr.Load r r1) = any_reg t rf ≡ false
  Unheld (Instr.Store r1 r2) = Unit

  written : (e : Env) (m : List Value) (r : Reg) (v : Value) → any_reg t rf ≡ false
      → ◌≡◌ {A = Run (List InOrderRegister)} (going (values (bind t v e) (put rf r (Waits t))) (next ia) m) (going (InOrder.put (values e rf) r v) (next ia) m)
  written e m r v h = ap (λ us. going us (next ia) m) (value-put e t v rf r h)

  matches : (i : Instr) → Unheld i → Matches i
  matches (Instr.Loadc r k) h e m = written e m r (Word k) h
  matches (Instr.Loadpc r) h e m = written e m r (Word ia.0) h
  matches (Instr.Op r n r1 r2) h e m =
      rw (value_at_lem e rf r1, value_at_lem e rf r2) (written e m r (result_of n (resolve e (contents rf r1)) (resolve e (contents rf r2))) h)
  matches (Instr.Jz r1 r2) h e m =
      rw (value_at_lem e rf r1, value_at_lem e rf r2)
      (finish-attempt rf ia m (λ q. going e q m) (λ q. going (values e rf) q m) (λ _. refl) (branch ia (resolve e (contents rf r1)) (resolve e (contents rf r2))))
  matches (Instr.Load r r1) h e m =
      rw (value_at_lem e rf r1)
      (finish-attempt (put rf r (Waits t)) ia m (λ v. going (bind t v e) (next ia) m) (λ v. going (InOrder.put (values e rf) r v) (next ia) m)
      (λ v. written e m r v h) (read_at m (resolve e (contents rf r1))))
  matches (Instr.Store r1 r2) h e m =
      rw (value_at_lem e rf r1, value_at_lem e rf r2)
      (finish-attempt rf ia m (λ m'. going e (next ia) m') (λ m'. going (values e rf) (next ia) m') (λ _. refl)
      (write_at m (resolve e (contents rf r1)) (resolve e (contents rf r2))))

-- ---- so the outcome takes one step

module _ (prog : List Instr) (t : Tag) (σ : Mach) (m : List Value) (s : Sound (length prog) σ) where
  fresh_free : is_fresh t σ.held ≡ true → any_reg t σ.registers ≡ false
  fresh_free e = fresh_unheld (length prog) σ t s (fresh_says t σ.held e).2

  free : (ia : InstrAddr) (i : Instr) → tag_ok σ.held t i ≡ true → Unheld t σ.registers ia i
  free ia (Instr.Loadc r k) e = fresh_free e
  free ia (Instr.Loadpc r) e = fresh_free e
  free ia (Instr.Op r n r1 r2) e = fresh_free e
  free ia (Instr.Jz r1 r2) e = tt
  free ia (Instr.Load r r1) e = fresh_free e
  free ia (Instr.Store r1 r2) e = tt

  module _ (ia : InstrAddr) (plain : any_jz σ.held ≡ false) where
    abbrev was : Run (List InOrderRegister)
    was = outcome (mach (At ia) σ.registers σ.held) m

    one-step : (i : Instr) → get_elem? prog ia.0 ≡ some i → Matches t σ.registers ia i → (r : Run Env) → r ≡ at ia r
        → finish (renamed σ.registers t i) (execute ia (work_of σ.registers ia t i) (at (counter_of (counter_after ia i)) r))
        ≡ step prog (finish σ.registers r)
    unfolding step
    one-step i g h (stopped a n l) q = refl
    one-step i g h (going e p l) q = let z : p ≡ ia = cc in rw (z, g) (h e l)

    issued_follows : (i : Instr) → get_elem? prog ia.0 ≡ some i → tag_ok σ.held t i ≡ true → outcome (issued t σ m ia i) m ≡ step prog was
    issued_follows i g ok =
        let w = work_of σ.registers ia t i in
        let q = counter_of (counter_after ia i) in
        ap (finish (renamed σ.registers t i))
        (flush-append σ.held (ITB ia w ∷ []) (going nothing q m) ∙ ap (execute ia w) (flush-at q σ.held (going nothing ia m) plain))
        ∙ one-step i g (matches t σ.registers ia i (free ia i ok)) (flush σ.held (going nothing ia m)) (flush-at ia σ.held (going nothing ia m) plain)

    issue_at_lem : (o : Option Instr) → get_elem? prog ia.0 ≡ o → Follows prog was (tried (issue_at t σ m ia) (present o))
    issue_at_lem none e = tt
    issue_at_lem (some i) e =
        by_test (Follows prog was) (leb room (length σ.held)) (λ _. tt)
        (λ _. by_test (Follows prog was) (tag_ok σ.held t i) (issued_follows i e) (λ _. tt))

  issue_from_lem : (c : Counter) → CounterOk c σ.held → Follows prog (outcome (mach c σ.registers σ.held) m) (issue_from t σ m prog c)
  issue_from_lem (At ia) h = issue_at_lem ia h (get_elem? prog ia.0) refl
  issue_from_lem Stall h = tt

  pub issue-steps-outcome : Follows prog (outcome σ m) (issue prog t σ m)
  unfolding issue
  issue-steps-outcome = issue_from_lem σ.counter s.counter
