-- The laws of the in-order machine: a stop changes nothing, a run of n is n steps, and runs add up.
use mathlib.Core.Path.{◌≡◌, refl, sym, ap, ◌∙◌}
use mathlib.Core.Logic.{◌≢◌}
use Prim.Native.Nat.{ℕ, zero, suc, ◌+◌, ◌<◌}
use native.Mathlib.Nat.{suc-add, zero-add}
use native.Mathlib.Omega.{arith}
use mathlib.Core.List.{List}
use Rattle.records.specs.declared.Refusal.{Refusal}
use Rattle.records.specs.Scan.{refused, accepted}
use Rattle.value.specs.declared.Value.{Value}
use Rattle.isa.specs.declared.InstrAddr.{InstrAddr}
use Rattle.isa.specs.declared.Instr.{Instr}
use Rattle.kernel.specs.Kernel.{Run, going, stopped}
use Rattle.inorder.specs.declared.Register.{Register}
use Rattle.inorder.specs.declared.InOrder.{InOrder}
use Rattle.inorder.specs.Machine.{machine, with, step, steps, once, after, memory}
use Rattle.inorder.specs.Entries.{End, proceed, run_from, then_run}
use Rattle.inorder.proofs.Stops.{Stops, once_stops}

-- ---- a stopped step changes nothing

module _ (s : InOrder) (m : List Value) where
  unchanged : (t : Run (List Register)) → Stops s.counter m t → (after s t).stop ≢ accepted → ((after s t).machine ≡ s) × (memory t ≡ m)
  unchanged (going rf ia m') h e = absurd (e refl)
  unchanged (stopped ia n m') h e = (refl, h.1)

  pub stop_changes_nothing : (prog : List Instr) → (after s (once prog s m)).stop ≢ accepted
      → ((after s (once prog s m)).machine ≡ s) × (memory (once prog s m) ≡ m)
  stop_changes_nothing prog = unchanged (once prog s m) (once_stops prog s m)

-- ---- runs add up

module _ (prog : List Instr) where
  -- what comes after a step, if it comes after each machine it may leave
  then_proceed : (k : ℕ) (f g : InOrder → List Value → End) (s : InOrder) (n : ℕ)
      → ((s' : InOrder) (m' : List Value) → f s' m' ≡ then_run prog k (g s' m')) → (t : Run (List Register))
      → proceed f s n t ≡ then_run prog k (proceed g s n t)
  then_proceed k f g s n h (going rf ia m) = h (with s ia rf) m
  then_proceed k f g s n h (stopped ia why m) = refl

  pub run_adds : (a b : ℕ) (s : InOrder) (n : ℕ) (m : List Value) → run_from prog (a + b) s n m ≡ then_run prog b (run_from prog a s n m)
  unfolding run_from
  run_adds zero b s n m = ap (λ (k : ℕ). run_from prog k s n m) (zero-add b)
  run_adds (suc a) b s n m =
      ap (λ (k : ℕ). run_from prog k s n m) (suc-add a b)
      ∙ then_proceed b (λ s' m'. run_from prog (a + b) s' (n + 1) m') (λ s' m'. run_from prog a s' (n + 1) m') s n
      (λ s' m'. run_adds a b s' (n + 1) m') (once prog s m)

-- ---- a run of n is n steps

-- a run that ended is where the steps came to: it executed all of them, or fewer and stopped
abbrev pub CameTo : ℕ → ℕ → End → Run (List Register) → Type 0
CameTo n k e (going rf ia m) = e ≡ record { machine = machine ia rf; executed = n + k; stop = accepted; memory = m }
CameTo n k e (stopped ia why m) = (e.machine.counter ≡ ia) × (e.stop ≡ refused why 0) × (e.memory ≡ m) × (e.executed < n + k)

module _ (prog : List Instr) where
  pub stays : (k : ℕ) (ia : InstrAddr) (why : Refusal) (m : List Value) → steps prog k (stopped ia why m) ≡ stopped ia why m
  unfolding step
  stays zero ia why m = refl
  stays (suc k) ia why m = stays k ia why m

  one_more : (n k : ℕ) (e : End) (t : Run (List Register)) → CameTo (n + 1) k e t → CameTo n (suc k) e t
  one_more n k e (going rf ia m) c =
      let same : n + 1 + k ≡ n + suc k = omega arith in
      c ∙ ap (λ (x : ℕ). record { machine = machine ia rf; executed = x; stop = accepted; memory = m }) same
  one_more n k e (stopped ia why m) c = let l = c.3 in (c.0, c.1, c.2, omega arith)

  module _ (k : ℕ) (s : InOrder) (n : ℕ) (m : List Value) where
    after_first : (t : Run (List Register)) → Stops s.counter m t
        → ((s' : InOrder) (m' : List Value) → CameTo (n + 1) k (run_from prog k s' (n + 1) m') (steps prog k (going s'.registers s'.counter m')))
        → CameTo n (suc k) (proceed (λ s' m'. run_from prog k s' (n + 1) m') s n t) (steps prog k t)
    after_first (going rf ia m') w h = one_more n k (run_from prog k (with s ia rf) (n + 1) m') (steps prog k (going rf ia m')) (h (with s ia rf) m')
    after_first (stopped ia why m') w h = rw (stays k ia why m') (sym w.0, refl, refl, omega arith)

  pub run_is_steps : (k : ℕ) (s : InOrder) (n : ℕ) (m : List Value) → CameTo n k (run_from prog k s n m) (steps prog k (going s.registers s.counter m))
  unfolding run_from
  run_is_steps zero s n m =
      let none : n ≡ n + 0 = omega arith in
      ap (λ (x : ℕ). record { machine = s; executed = x; stop = accepted; memory = m }) none
  run_is_steps (suc k) s n m = after_first k s n m (once prog s m) (once_stops prog s m) (λ s' m'. run_is_steps k s' (n + 1) m')
