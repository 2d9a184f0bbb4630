-- Demand 2, of the two public steps: on bytes that pass the checks, each answers what the memo's rule gives, or the refusal of the first condition that fails.
use Prim.Native.Nat.{ℕ, ◌<◌}
use mathlib.Core.Path.{◌≡◌, refl, ap, ◌∙◌}
use mathlib.Core.Logic.{◌⊎◌, inl, inr}
use mathlib.Core.List.{List}
use lib.ListN.{length, get_or}
use Rattle.std.specs.Prelude.{Ok, Err}
use Rattle.records.specs.declared.Refusal.{Refusal}
use Rattle.records.specs.Refusal.{fault}
use Rattle.value.specs.declared.Value.{Value}
use Rattle.isa.specs.Program.{program}
use Rattle.cells.specs.Cells.{cells, image}
use Rattle.kernel.specs.Checks.{checked}
use Rattle.kernel.specs.Kernel.{Run, going, stopped}
use Rattle.kernel.proofs.Checking.{works, checked-memory}
use Rattle.templates.specs.declared.State.{State}
use Rattle.templates.specs.Machine.{Mach}
use Rattle.templates.specs.Layout.{places, mach_of, state_of}
use Rattle.rules.specs.Rules.{Step, accepted, refused}
use Rattle.renaming.specs.Answers.{answer_of, memory_of}
use Rattle.entry.specs.Entry.{entered}
use Rattle.renaming.specs.Entries.{entered_with, command, once, step_answer, stepped, stepped_memory}
use Rattle.renaming.proofs.Going.{record-whole}
use Rattle.renaming.proofs.Fitting.{entered-memory, entered-fit}
use Rattle.inorder.specs.declared.Register.{Register}
use Rattle.inorder.specs.declared.InOrder.{InOrder}
use Rattle.inorder.specs.Machine as Machine
use Rattle.inorder.specs.Entries as InOrder
use Rattle.demands.specs.Memo.{Renames}
use Rattle.demands.specs.MemoBase.{Executes}
use Rattle.demands.specs.Conditions.{FirstFails, conditions, step_conditions}
use Rattle.demands.proofs.Memo.{memo_accepted, accepted_exactly}
use Rattle.demands.proofs.MemoBase.{memo_goes, goes_exactly}
use Rattle.demands.proofs.Conditions.{refused-first}
use Rattle.demands.proofs.Stopping.{once_says, stopped_first}

-- ---- the renaming machine: a record of 4 bytes, on a program, a memory and a state that pass the checks

module _ (p b : List ℕ) (s : State) (one : List ℕ) (bytes : (i : ℕ) → get_or b i 0 < 256) (long : length s.templates ≡ places)
    (four : length one ≡ 4) (ok : entered p b s ≡ Ok tt) where
  answers : (t : Step) → once p s b one ≡ t
      → (stepped p s b one ≡ step_answer (answer_of s t)) × (stepped_memory p s b one ≡ image (memory_of (cells b) t))
  unfolding stepped stepped_memory
  answers t e =
      let w = entered_with p b s one in
      let c = record-whole p b s one four in
      (works w c ok _ _ ∙ ap (λ (u : Step). step_answer (answer_of s u)) e, works w c ok _ b ∙ ap (λ (u : Step). image (memory_of (cells b) u)) e)

  -- the memo's rule, laid out
  pub step_by_memo : (σ' : Mach) (m' : List Value) → Renames (program p) (mach_of s) (cells b) (command one) σ' m'
      → (stepped p s b one ≡ record { state = state_of σ'; verdict = Ok tt }) × (stepped_memory p s b one ≡ image m')
  step_by_memo σ' m' r = answers (accepted σ' m') (memo_accepted (program p) r)

  -- the refusal, and everything as it was
  pub step_says_no : (n : Refusal) → FirstFails n (conditions (program p) (command one) (mach_of s) (cells b))
      → (stepped p s b one ≡ record { state = s; verdict = Err (fault n 0) }) × (stepped_memory p s b one ≡ b)
  step_says_no n f =
      let h = answers (refused n) ((refused-first (program p) (mach_of s) (cells b) (command one) n).1 f) in
      (h.0, h.1 ∙ entered-memory p b s (record { verdict = refl; long = long }) ok bytes)

  -- one of the two
  pub step-either : ((σ' : Mach) × (m' : List Value) × Renames (program p) (mach_of s) (cells b) (command one) σ' m')
      ⊎ ((n : Refusal) × FirstFails n (conditions (program p) (command one) (mach_of s) (cells b)))
  step-either = by (once p s b one) refl
    where
      by : (t : Step) → once p s b one ≡ t
          → ((σ' : Mach) × (m' : List Value) × Renames (program p) (mach_of s) (cells b) (command one) σ' m')
          ⊎ ((n : Refusal) × FirstFails n (conditions (program p) (command one) (mach_of s) (cells b)))
      by (accepted σ' m') e =
          let fit = entered-fit p b s (record { verdict = refl; long = long }) ok in
          inl (σ', m', (accepted_exactly (program p) _ (mach_of s) fit.sound (cells b) (command one) σ' m').0 e)
      by (refused n) e = inr (n, (refused-first (program p) (mach_of s) (cells b) (command one) n).0 e)

-- ---- the in-order machine: on a program and a memory that pass the checks

module _ (p b : List ℕ) (s : InOrder) (bytes : (i : ℕ) → get_or b i 0 < 256) (ok : checked p b ≡ Ok tt) where
  comes_to : (t : Run (List Register)) → Machine.once (program p) s (cells b) ≡ t
      → (InOrder.stepped p s b ≡ Machine.after s t) × (InOrder.stepped_memory p s b ≡ image (Machine.memory t))
  unfolding InOrder.stepped InOrder.stepped_memory
  comes_to t e =
      (works (checked p b) refl ok _ _ ∙ ap (Machine.after s) e, works (checked p b) refl ok _ b ∙ ap (λ (u : Run (List Register)). image (Machine.memory u)) e)

  pub in_order_by_memo : (s' : InOrder) (m' : List Value) → Executes (program p) s (cells b) s' m'
      → (InOrder.stepped p s b ≡ record { machine = s'; stop = Ok tt }) × (InOrder.stepped_memory p s b ≡ image m')
  in_order_by_memo s' m' x = comes_to (going s'.registers s'.counter m') (memo_goes (program p) x)

  pub in_order_stops : (n : Refusal) → FirstFails n (step_conditions (program p) s (cells b))
      → (InOrder.stepped p s b ≡ record { machine = s; stop = Err (fault n 0) }) × (InOrder.stepped_memory p s b ≡ b)
  in_order_stops n f =
      let h = comes_to (stopped s.counter n (cells b)) ((stopped_first (program p) s (cells b) n).1 f) in
      (h.0, h.1 ∙ checked-memory p b refl ok bytes)

  pub in_order-either : ((s' : InOrder) × (m' : List Value) × Executes (program p) s (cells b) s' m')
      ⊎ ((n : Refusal) × FirstFails n (step_conditions (program p) s (cells b)))
  in_order-either = by (Machine.once (program p) s (cells b)) refl
    where
      by : (t : Run (List Register)) → Machine.once (program p) s (cells b) ≡ t
          → ((s' : InOrder) × (m' : List Value) × Executes (program p) s (cells b) s' m')
          ⊎ ((n : Refusal) × FirstFails n (step_conditions (program p) s (cells b)))
      by (going rf ia m') e = inl (Machine.machine ia rf, m', (goes_exactly (program p) s (cells b) (Machine.machine ia rf) m').0 e)
      by (stopped ia n m') e =
          inr (n, rw e at (once_says (program p) s (cells b)))
