-- A turn of the run's loop is a step of the machine.
use mathlib.Core.Path.{◌≡◌, refl, sym, ap, ap₂, ◌∙◌}
use Prim.Native.Nat.{ℕ, suc, ◌+◌, ◌-◌, ◌<◌, ◌≤◌}
use native.Mathlib.Omega.{arith}
use mathlib.Core.List.{List}
use Rattle.std.specs.Prelude.{Result, Ok, Err}
use Rattle.records.specs.declared.Refusal.{Refusal}
use Rattle.records.specs.Refusal.{faulted, verdict_of}
use Rattle.records.specs.Scan.{refused, accepted}
use Rattle.value.specs.declared.Value.{Value}
use Rattle.isa.specs.declared.InstrAddr.{InstrAddr}
use Rattle.isa.specs.declared.Reg.{Reg}
use Rattle.isa.specs.declared.Instr.{Instr}
use Rattle.isa.specs.declared.Instr.TheVariants.{Jz, Load, Store}
use Rattle.isa.specs.Program.{program, scan_of, fetched, decoded}
use Rattle.isa.proofs.Ranges.{InRange, in_range}
use Rattle.isa.proofs.Programs.{fetched-program, fetched-inside, decoded-fetched}
use Rattle.cells.specs.Cells.{cells, Formed}
use Rattle.kernel.specs.Checks.{if_checked}
use Rattle.kernel.specs.Kernel.{next, read_at, write_at, branch, Run, going, stopped, attempt, or_kept, Writes}
use Rattle.kernel.proofs.Writing.{write_formed}
use Rattle.inorder.specs.declared.Register.{Register}
use Rattle.inorder.specs.declared.InOrder.{InOrder}
use Rattle.inorder.specs.declared.Stepped.{Stepped}
use Rattle.inorder.specs.Machine.{held, put, with, perform, execute, step, once, after, memory}
use Rattle.inorder.specs.Entries.{End, proceed, run_from, ended, Goes as WentOn, Turns}

-- ---- the rules that may be refused, by what was tried

module _ (s : InOrder) (m : List Value) where
  abbrev pub jumps : Result InstrAddr Refusal → Run (List Register)
  jumps t = attempt s.counter m (λ to. going s.registers to m) t

  abbrev pub loads : Reg → Result Value Refusal → Run (List Register)
  loads r t = attempt s.counter m (λ v. going (put s.registers r v) (next s.counter) m) t

  abbrev pub stores : Result (List Value) Refusal → Run (List Register)
  stores t = attempt s.counter m (λ m'. going s.registers (next s.counter) m') t

-- the machine at the next address, unless a store is refused
abbrev pub moved : InOrder → Result Unit Refusal → InOrder
moved s (Ok x) = with s (next s.counter) s.registers
moved s (Err n) = s

store_moves : (s : InOrder) (m : List Value) (t : Result (List Value) Refusal) → record { machine = moved s (verdict_of t); stop = faulted (verdict_of t) } ≡ after s (stores s m t)
store_moves s m (Ok m') = refl
store_moves s m (Err n) = refl

store_leaves : (s : InOrder) (m : List Value) (t : Result (List Value) Refusal) → or_kept m t ≡ memory (stores s m t)
store_leaves s m (Ok m') = refl
store_leaves s m (Err n) = refl

-- ---- a step

module _ (p : List ℕ) (pre : scan_of p ≡ accepted) (s : InOrder) where
  once_decoded : (m : List Value) → once (program p) s m ≡ execute s.registers s.counter m (decoded p s.counter)
  unfolding step
  once_decoded m = ap (execute s.registers s.counter m) (sym (fetched-program p pre s.counter) ∙ sym (decoded-fetched p pre s.counter))

  pub no_instruction_lem : {d : Result Instr Refusal} {why : Refusal} (b : List ℕ) → d ≡ decoded p s.counter → d ≡ Err why → Turns p s b (Err why) s b
  no_instruction_lem b e g =
      let no = once_decoded (cells b) ∙ ap (execute s.registers s.counter (cells b)) (sym e ∙ g) in
      record { answer = sym (ap (after s) no); holds = sym (ap memory no); formed = λ f. f }

  module _ {d : Result Instr Refusal} (e : d ≡ decoded p s.counter) {i : Instr} (g : d ≡ Ok i) where
    found : fetched p s.counter ≡ Ok i
    found = sym (decoded-fetched p pre s.counter) ∙ sym e ∙ g

    pub inside : s.counter.0 < 1024
    inside = (fetched-inside p pre s.counter i found).0

    pub registers_in_range : InRange i
    registers_in_range = in_range i (fetched-inside p pre s.counter i found).1

    -- what the instruction makes of the machine is its turn
    pub turned : {b b' : List ℕ} {r : Result Unit Refusal} {s' : InOrder} {t : Run (List Register)} → perform s.registers s.counter (cells b) i ≡ t
        → record { machine = s'; stop = faulted r } ≡ after s t → cells b' ≡ memory t → (Formed b → Formed b') → Turns p s b r s' b'
    turned {b} u a m f =
        let does = once_decoded (cells b) ∙ ap (execute s.registers s.counter (cells b)) (sym e ∙ g) ∙ u in
        record { answer = a ∙ sym (ap (after s) does); holds = m ∙ sym (ap memory does); formed = f }

  -- ---- the turns that may be refused, where x and y are what the registers hold

  module _ {d : Result Instr Refusal} (e : d ≡ decoded p s.counter) {b : List ℕ} where
    pub jump_turns : {r1 r2 : Reg} → d ≡ Ok (Jz r1 r2) → {x y : Value} → x ≡ held s.registers r1 → y ≡ held s.registers r2
        → {t t' : Result InstrAddr Refusal} → t ≡ branch s.counter x y → t ≡ t' → {r : Result Unit Refusal} {s' : InOrder}
        → record { machine = s'; stop = faulted r } ≡ after s (jumps s (cells b) t') → cells b ≡ memory (jumps s (cells b) t') → Turns p s b r s' b
    jump_turns g left right h is a m = turned e g (ap (jumps s (cells b)) (ap₂ (branch s.counter) (sym left) (sym right) ∙ sym h ∙ is)) a m (λ f. f)

    pub load_turns : {r1 r2 : Reg} → d ≡ Ok (Load r1 r2) → {x : Value} → x ≡ held s.registers r2
        → {t t' : Result Value Refusal} → t ≡ read_at (cells b) x → t ≡ t' → {r : Result Unit Refusal} {s' : InOrder}
        → record { machine = s'; stop = faulted r } ≡ after s (loads s (cells b) r1 t') → cells b ≡ memory (loads s (cells b) r1 t') → Turns p s b r s' b
    load_turns {r1} g left h is a m = turned e g (ap (loads s (cells b) r1) (ap (read_at (cells b)) (sym left) ∙ sym h ∙ is)) a m (λ f. f)

    pub store_turns : {r1 r2 : Reg} → d ≡ Ok (Store r1 r2) → {x y : Value} → x ≡ held s.registers r1 → y ≡ held s.registers r2
        → {b' : List ℕ} {r r' : Result Unit Refusal} → Writes b x y r b' → r ≡ r' → Turns p s b r' (moved s r') b'
    store_turns {r1} {r2} g {x} left right w is =
        let t = write_at (cells b) (held s.registers r1) (held s.registers r2) in
        let verdict = sym is ∙ w.answer ∙ ap₂ (λ u v. verdict_of (write_at (cells b) u v)) left right in
        turned e g refl
        (ap (λ (k : Result Unit Refusal). record { machine = moved s k; stop = faulted k }) verdict ∙ store_moves s (cells b) t)
        (w.holds ∙ ap₂ (λ u v. or_kept (cells b) (write_at (cells b) u v)) left right ∙ store_leaves s (cells b) t)
        (write_formed x w)

-- ---- the loop of a run

-- what comes after a step that left the machine and memory so
abbrev pub resumed : (InOrder → List Value → End) → ℕ → List Value → Stepped → End
resumed rest n m w = if_checked w.stop (rest w.machine m) (record { machine = w.machine; executed = n; stop = w.stop; memory = m })

pub resumes : (rest : InOrder → List Value → End) (s : InOrder) (n : ℕ) (t : Run (List Register)) → proceed rest s n t ≡ resumed rest n (memory t) (after s t)
resumes rest s n (going rf ia m) = refl
resumes rest s n (stopped ia why m) = refl

-- the run from here on is the whole run
pub record Left (p : List ℕ) (s₀ : InOrder) (b₀ : List ℕ) (budget : ℕ) (s : InOrder) (b : List ℕ) (n : ℕ) : Type 0 where
  pub rest : run_from (program p) (budget - n) s n (cells b) ≡ run_from (program p) budget s₀ 0 (cells b₀)
  pub formed : Formed b₀ → Formed b

module _ {p : List ℕ} {s₀ : InOrder} {b₀ : List ℕ} {budget : ℕ} {s : InOrder} {b : List ℕ} {n : ℕ} (l : Left p s₀ b₀ budget s b n) where
  module _ (h : n < budget) {r : Result Unit Refusal} {s' : InOrder} {b' : List ℕ} (t : Turns p s b r s' b') where
    -- what is left after n + 1
    abbrev later : InOrder → List Value → End
    later u m = run_from (program p) (budget - (n + 1)) u (n + 1) m

    first : {r' : Result Unit Refusal} → r ≡ r'
        → resumed later n (cells b') (record { machine = s'; stop = faulted r' }) ≡ run_from (program p) budget s₀ 0 (cells b₀)
    unfolding run_from
    first g =
        let one : suc (budget - (n + 1)) ≡ budget - n = omega arith in
        ap (λ (k : Result Unit Refusal). resumed later n (cells b') (record { machine = s'; stop = faulted k })) (sym g)
        ∙ ap₂ (resumed later n) t.holds t.answer
        ∙ sym (resumes later s n (once (program p) s (cells b)))
        ∙ ap (λ (k : ℕ). run_from (program p) k s n (cells b)) one
        ∙ l.rest

    pub goes_on : r ≡ Ok tt → Left p s₀ b₀ budget s' b' (n + 1)
    goes_on g = record { rest = first g; formed = λ f. t.formed (l.formed f) }

    pub stops_at : {why : Refusal} → r ≡ Err why → WentOn p s₀ b₀ budget (record { machine = s'; executed = n; stop = refused why 0 }) b'
    stops_at g =
        let whole = first g in
        record { answer = ap ended whole; holds = ap (λ (x : End). x.memory) whole; formed = λ f. t.formed (l.formed f) }

pub run_ends : {p : List ℕ} {s₀ : InOrder} {b₀ : List ℕ} {budget : ℕ} {s : InOrder} {b : List ℕ} {n : ℕ} → Left p s₀ b₀ budget s b n → budget ≤ n → n ≤ budget
    → WentOn p s₀ b₀ budget (record { machine = s; executed = budget; stop = accepted }) b
unfolding run_from
run_ends {p} {s₀} {b₀} {budget} {s} {b} {n} l above below =
    let none : budget - n ≡ 0 = omega arith in
    let all : budget ≡ n = omega arith in
    let whole = ap (λ (k : ℕ). run_from (program p) 0 s k (cells b)) all ∙ ap (λ (k : ℕ). run_from (program p) k s n (cells b)) (sym none) ∙ l.rest in
    record { answer = ap ended whole; holds = ap (λ (x : End). x.memory) whole; formed = l.formed }
