-- An entry does its work on a program and a memory that the checks accept, and otherwise hands back what it was lent.
use mathlib.Core.Path.{◌≡◌, refl, sym, ap, ◌∙◌}
use Prim.Native.Nat.{ℕ, ◌<◌}
use mathlib.Core.List.{List}
use lib.ListN.{get_or}
use Rattle.std.specs.Prelude.{Result, Ok, Err}
use Rattle.records.specs.declared.Fault.{Fault}
use Rattle.records.specs.Scan.{accepted}
use Rattle.isa.specs.declared.Instr.{Instr}
use Rattle.isa.specs.Program.{program}
use Rattle.cells.specs.Cells.{cells, image}
use Rattle.kernel.specs.Checks.{if_checked}
use Rattle.kernel.specs.Kernel.{Run, going, stopped}
use Rattle.kernel.proofs.Checking.{refuses, works, checked-memory}
use Rattle.inorder.specs.declared.Register.{Register}
use Rattle.inorder.specs.declared.InOrder.{InOrder}
use Rattle.inorder.specs.declared.Stepped.{Stepped}
use Rattle.inorder.specs.declared.Ran.{Ran}
use Rattle.inorder.specs.Machine.{once, after, memory}
use Rattle.inorder.specs.Entries.{entered, stepped, stepped_memory, Steps, proceed, run_from, ended, ran, ran_memory, Goes, Runs}

module _ (p : List ℕ) (s : InOrder) (b : List ℕ) {v : Result Unit Fault} (c : v ≡ entered p b s) (budget : ℕ) where
  pub run-refused : {f : Fault} → v ≡ Err f → Runs p s b budget (record { machine = s; executed = 0; stop = Err f }) b
  unfolding ran ran_memory
  run-refused h =
      record {
        answer = ap (λ (w : Result Unit Fault). record { machine = s; executed = 0; stop = w }) (sym h ∙ c) ∙ sym (refuses (entered p b s) c h _ _);
        bytes = sym (refuses (entered p b s) c h _ b);
      }

  pub run-done : v ≡ accepted → ((i : ℕ) → get_or b i 0 < 256) → {r : Ran} {b' : List ℕ} → Goes p s b budget r b' → Runs p s b budget r b'
  unfolding ran ran_memory
  run-done h small d =
      record {
        answer = d.answer ∙ sym (works (entered p b s) c h _ _);
        bytes = sym (d.formed (checked-memory p b c h small)) ∙ ap image d.holds ∙ sym (works (entered p b s) c h _ b);
      }

-- ---- a step is a run of one

abbrev one : Ran → Stepped
one r = record { machine = r.machine; stop = r.stop }

module _ (prog : List Instr) (s : InOrder) where
  first : (t : Run (List Register)) → one (ended (proceed (λ s' m'. run_from prog 0 s' 1 m') s 0 t)) ≡ after s t
  unfolding run_from
  first (going rf ia m) = refl
  first (stopped ia n m) = refl

  first-memory : (t : Run (List Register)) → (proceed (λ s' m'. run_from prog 0 s' 1 m') s 0 t).memory ≡ memory t
  unfolding run_from
  first-memory (going rf ia m) = refl
  first-memory (stopped ia n m) = refl

module _ (p : List ℕ) (s : InOrder) (b : List ℕ) where
  one-step : one (ran p s b 1) ≡ stepped p s b
  unfolding ran stepped run_from
  one-step = by (entered p b s)
    where
      by : (v : Result Unit Fault)
          → one (if_checked v (ended (run_from (program p) 1 s 0 (cells b))) (record { machine = s; executed = 0; stop = v }))
          ≡ if_checked v (after s (once (program p) s (cells b))) (record { machine = s; stop = v })
      by (Ok x) = first (program p) s (once (program p) s (cells b))
      by (Err f) = refl

  one-memory : ran_memory p s b 1 ≡ stepped_memory p s b
  unfolding ran_memory stepped_memory run_from
  one-memory = ap (λ m. if_checked (entered p b s) (image m) b) (first-memory (program p) s (once (program p) s (cells b)))

  pub run_of_one : {r : Ran} {b' : List ℕ} → Runs p s b 1 r b' → Steps p s b (record { machine = r.machine; stop = r.stop }) b'
  run_of_one d = record { answer = ap one d.answer ∙ one-step; bytes = d.bytes ∙ one-memory }
