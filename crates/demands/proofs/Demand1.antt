-- Demand 1: what is refused changes nothing.
use Prim.Native.Nat.{ℕ, zero, suc, ◌+◌, ◌*◌, ◌/◌, ◌%◌, ◌<◌, ◌≤◌}
use native.Mathlib.Omega.{arith}
use mathlib.Core.Path.{◌≡◌, refl, sym, ap, ◌∙◌}
use mathlib.Core.Bool.{Bool, true, false, cond, ◌&&◌, and-false, false≢true}
use mathlib.Core.List.{List, ◌∷◌, ◌++◌}
use lib.Dec.{eqb, ltb}
use lib.ListN.{length, take, drop}
use lib.Seq.{get_or-take, length-take-le}
use borrow.Author.Tests.{ltb-false}
use Rattle.std.specs.Prelude.{Result, Ok, Err, is_err, IsErr}
use Rattle.records.specs.declared.Fault.{Fault}
use Rattle.records.specs.declared.Refusal.{Refusal}
use Rattle.records.specs.declared.Refusal.TheVariants.{BadLength, BadInstruction, Unsound, Outside}
use Rattle.records.specs.Records.{tabulate, bytes, replaced, is_whole}
use Rattle.records.specs.Scan.{refused, accepted}
use Rattle.records.specs.Refusal.{verdict_of}
use Rattle.records.proofs.Tabulate.{length-tabulate, tabulate_same}
use Rattle.records.proofs.Replaced.{replaced_past}
use Rattle.value.specs.declared.Value.{Value}
use Rattle.value.specs.declared.Value.TheVariants.{Undefined, Word}
use Rattle.isa.specs.declared.DataAddr.{DataAddr}
use Rattle.isa.specs.Instruction.{is_formed}
use Rattle.isa.specs.Instruction as Instruction
use Rattle.isa.specs.Program.{program}
use Rattle.cells.specs.Cells.{cells, image, record_of, storing}
use Rattle.kernel.specs.Kernel.{data_addr, write_at, written}
use Rattle.kernel.specs.Checks.{checked, if_checked}
use Rattle.kernel.proofs.Checking.{both_accept, refuses, works, checked-memory}
use Rattle.kernel.proofs.Writing.{store-verdict}
use Rattle.listing.specs.Listing as Listing
use Rattle.inorder.specs.declared.InOrder.{InOrder}
use Rattle.inorder.specs.declared.Stepped.{Stepped as InOrderStepped}
use Rattle.inorder.specs.Machine as Machine
use Rattle.inorder.specs.Entries as InOrder
use Rattle.inorder.proofs.Laws.{stop_changes_nothing}
use Rattle.templates.specs.declared.State.{State}
use Rattle.templates.specs.Layout.{mach_of, state_of}
use Rattle.sound.specs.Sound.{is_sound}
use Rattle.rules.specs.declared.Command.{Command}
use Rattle.renaming.specs.declared.Stepped.{Stepped}
use Rattle.renaming.specs.declared.Ran.{Ran}
use Rattle.rules.specs.Rules as Rules
use Rattle.rules.specs.Rules.{Step}
use Rattle.rules.specs.Run.{End, commands}
use Rattle.rules.specs.Run as Run
use Rattle.renaming.specs.Answers.{answer_of, memory_of}
use Rattle.entry.specs.Entry.{entered}
use Rattle.renaming.specs.Entries.{entered_with, once, step_answer, stepped, stepped_memory, entered_run, runs, ended, ran, ran_memory, Runs}
use Rattle.renaming.proofs.Going.{run-refused, schedule_whole, command_at}
use Rattle.renaming.proofs.Emptying.{drain-refused}
use Rattle.report.specs.Report.{contents_text}
use Rattle.report.specs.Report as Report
use Rattle.demands.specs.Demand1.{AreBytes, Demand1}
use Rattle.rules.proofs.Accepted.{run_accepts, allowed_accepted}

-- ---- a check and what it guards

error : {A E : Type 0} {v : Result A E} → IsErr v → (e : E) × (v ≡ Err e)
error {v = Ok x} h = absurd (cc)
error {v = Err e} h = (e, refl)

-- the checks of program and memory come first
pub entered-checked : (p b : List ℕ) (s : State) → entered p b s ≡ accepted → checked p b ≡ accepted
unfolding entered
entered-checked p b s h = (both_accept (checked p b) (cond (is_sound (length p / 8) s) accepted (refused Unsound 0)) h).0

-- a record's, or a schedule's, length goes before them
pub length_passed : (t : Bool) (v : Result Unit Fault) → cond t v (refused BadLength 0) ≡ accepted → v ≡ accepted
length_passed true v h = h
length_passed false v h = absurd (cc)

-- ---- step

module _ (p : List ℕ) (s : State) (b one : List ℕ) (small : AreBytes b) where
  rule-refused : (t : Step) → image (cells b) ≡ b → IsErr (step_answer (answer_of s t)).verdict
      → ((step_answer (answer_of s t)).state ≡ s) × (image (memory_of (cells b) t) ≡ b)
  rule-refused (Rules.accepted σ m) f h = absurd (cc)
  rule-refused (Rules.refused n) f h = (refl, f)

  step_unchanged : IsErr (stepped p s b one).verdict → ((stepped p s b one).state ≡ s) × (stepped_memory p s b one ≡ b)
  unfolding stepped stepped_memory
  step_unchanged = by-verdict (entered_with p b s one) refl
    where
      by-verdict : (v : Result Unit Fault) → entered_with p b s one ≡ v
          → let r : Stepped = if_checked v (step_answer (answer_of s (once p s b one))) (record { state = s; verdict = v }) in
          IsErr r.verdict → (r.state ≡ s) × (if_checked v (image (memory_of (cells b) (once p s b one))) b ≡ b)
      by-verdict (Ok x) e h =
          let ok = entered-checked p b s (length_passed (eqb (length one) 4) (entered p b s) e) in
          rule-refused (once p s b one) (checked-memory p b refl ok small) h
      by-verdict (Err f) e h = (refl, refl)

-- ---- the run of the accepted part

take-tabulate : {A : Type 0} (k n : ℕ) (f : ℕ → A) → k ≤ n → take k (tabulate n f) ≡ tabulate k f
take-tabulate zero n f h = refl
take-tabulate (suc k) zero f h = absurd (omega arith)
take-tabulate (suc k) (suc n) f h = ap (λ xs. f 0 ∷ xs) (take-tabulate k n (λ i. f (suc i)) (omega arith))

module _ (b : List ℕ) (k : ℕ) (h : k ≤ length b / 4) where
  part_length : length (take (4 * k) b) ≡ 4 * k
  part_length = length-take-le (4 * k) b (omega arith)

  same_command : (i : ℕ) → i < k → command_at (take (4 * k) b) i ≡ command_at b i
  same_command i l =
      rw (
        get_or-take (4 * k) b (4 * i) 0 (omega arith),
        get_or-take (4 * k) b (4 * i + 1) 0 (omega arith),
        get_or-take (4 * k) b (4 * i + 2) 0 (omega arith),
        get_or-take (4 * k) b (4 * i + 3) 0 (omega arith),
      ) refl

  part-commands : commands (take (4 * k) b) ≡ take k (commands b)
  unfolding commands
  part-commands =
      let count : length (take (4 * k) b) / 4 ≡ k = omega (arith, part_length) in
      ap (λ (n : ℕ). tabulate n (command_at (take (4 * k) b))) count
      ∙ tabulate_same k (command_at (take (4 * k) b)) (command_at b) same_command
      ∙ sym (take-tabulate k (length b / 4) (command_at b) h)

length-commands : (b : List ℕ) → length (commands b) ≡ length b / 4
unfolding commands
length-commands b = length-tabulate (length b / 4) (command_at b)

module _ (p : List ℕ) (s : State) (b records : List ℕ) where
  abbrev whole : End
  whole = runs p s b records

  -- the accepted records
  abbrev front : List ℕ
  front = take (4 * whole.accepted) records

  few : whole.accepted ≤ length records / 4
  few = rw (← length-commands records) (run_accepts (program p) (commands records) (mach_of s) (cells b)).within

  pub part-runs : runs p s b front ≡ record { accepted = whole.accepted; issued = whole.issued; verdict = Ok tt; machine = whole.machine; memory = whole.memory }
  part-runs =
      let r = run_accepts (program p) (commands records) (mach_of s) (cells b) in
      let e = allowed_accepted (program p) (take whole.accepted (commands records)) (mach_of s) (cells b) r.allowed in
      let n : length (take whole.accepted (commands records)) ≡ whole.accepted = length-take-le whole.accepted (commands records) r.within in
      ap (λ (cs : List Command). Run.run (program p) cs (mach_of s) (cells b)) (part-commands records whole.accepted few)
      ∙ e
      ∙ (λ i. record { accepted = n i; issued = sym r.issued i; verdict = Ok tt; machine = whole.machine; memory = whole.memory })

  module _ (ok : entered_run p b s records ≡ accepted) where
    front_passes : entered_run p b s front ≡ accepted
    front_passes =
        let four : length front % 4 ≡ 0 = omega (arith, part_length records whole.accepted few) in
        sym (schedule_whole p b s front four)
        ∙ length_passed (eqb (length records % 4) 0) (entered p b s) ok

    module _ (r : Ran) (b' : List ℕ) (g : Runs p s b records r b') where
      came : r ≡ ended whole
      unfolding ran
      came = g.answer ∙ works (entered_run p b s records) refl ok _ _

      of_front : Runs p s b front (record { state = state_of whole.machine; accepted = whole.accepted; issued = whole.issued; verdict = accepted }) b'
      unfolding ran ran_memory
      of_front =
          record {
            answer = ap ended (sym part-runs) ∙ sym (works (entered_run p b s front) refl front_passes _ _);
            bytes =
                g.bytes ∙ works (entered_run p b s records) refl ok _ b
                ∙ ap (λ (e : End). image e.memory) (sym part-runs)
                ∙ sym (works (entered_run p b s front) refl front_passes _ b);
          }

      pub part_unchanged : Runs p s b (take (4 * r.accepted) records) (record { state = r.state; accepted = r.accepted; issued = r.issued; verdict = accepted }) b'
      part_unchanged = rw came of_front

-- ---- the in-order machine

module _ (p : List ℕ) (s : InOrder) (b : List ℕ) where
  in_order-step : AreBytes b → IsErr (InOrder.stepped p s b).stop → ((InOrder.stepped p s b).machine ≡ s) × (InOrder.stepped_memory p s b ≡ b)
  unfolding InOrder.stepped InOrder.stepped_memory
  in_order-step small = by-verdict (checked p b) refl
    where
      by-verdict : (v : Result Unit Fault) → checked p b ≡ v
          → let o = Machine.once (program p) s (cells b) in
          let r : InOrderStepped = if_checked v (Machine.after s o) (record { machine = s; stop = v }) in
          IsErr r.stop → (r.machine ≡ s) × (if_checked v (image (Machine.memory o)) b ≡ b)
      by-verdict (Ok x) e h =
          let same = stop_changes_nothing s (cells b) (program p) (λ q. false≢true (sym (ap is_err q) ∙ h)) in
          (same.0, ap image same.1 ∙ checked-memory p b refl e small)
      by-verdict (Err f) e h = (refl, refl)

  in_order-run : (budget : ℕ) {f : Fault} → checked p b ≡ Err f
      → (InOrder.ran p s b budget ≡ record { machine = s; executed = 0; stop = checked p b }) × (InOrder.ran_memory p s b budget ≡ b)
  unfolding InOrder.ran InOrder.ran_memory
  in_order-run budget h = (refuses (checked p b) refl h _ _, refuses (checked p b) refl h _ b)

-- ---- what is written

write_unchanged : (t u : Bool) {A : Type 0} (new out : A) → IsErr {T = Unit} (cond t (Err BadLength) (cond u (Ok tt) (Err BadInstruction)))
    → cond t out (cond u new out) ≡ out
write_unchanged true u new out h = refl
write_unchanged false true new out h = absurd (cc)
write_unchanged false false new out h = refl

list_unchanged : (v : Result Unit Fault) (n : ℕ) (new out : List ℕ) → IsErr (Listing.answered v n) → Listing.if_accepted v new out ≡ out
list_unchanged (Ok x) n new out h = absurd (cc)
list_unchanged (Err f) n new out h = refl

store_unchanged : (b : List ℕ) (a : DataAddr) (v : Value) → IsErr (storing (length b / 8) a) → replaced b a.0 (record_of v) ≡ b
store_unchanged b a v = by_place (ltb a.0 (length b / 8)) refl
  where
    by_place : (t : Bool) → ltb a.0 (length b / 8) ≡ t → IsErr {T = Unit} (cond t (Ok tt) (Err Outside)) → replaced b a.0 (record_of v) ≡ b
    by_place true e h = absurd (cc)
    by_place false e h = replaced_past b a.0 (record_of v) (ltb-false a.0 (length b / 8) e)

write_at_unchanged : (b : List ℕ) (a v : Value) → IsErr (verdict_of (write_at (cells b) a v)) → written b a v ≡ b
write_at_unchanged b Undefined v h = refl
write_at_unchanged b (Word w) v h = store_unchanged b (data_addr w) v (rw (← store-verdict b w v) at h)

-- a text whose output is too short
writes-refused : (good : Bool) (text out : List ℕ) {r : Result ℕ Refusal} {out' : List ℕ} → Report.Writes good text out r out' → IsErr r
    → (good ≡ false) × (out' ≡ out)
writes-refused true text out w h = let no : false ≡ true = rw w.answer at h in absurd (cc)
writes-refused false text out w h = (refl, w.output)

-- ---- demand 1

pub demand_1 : Demand1
demand_1 =
    record {
      step = λ p s b one small r b' g h. rw (g.answer, g.bytes) (step_unchanged p s b one small (rw g.answer at h));
      run = λ p s b records r b' g h.
          let no = run-refused p s b records refl (error h).1 in
          rw (g.answer ∙ sym no.answer, g.bytes ∙ sym no.bytes) (refl, refl, refl, refl, refl);
      part = λ p s b records r b' g ok. part_unchanged p s b records ok r b' g;
      drain = λ p s b r b' g h.
          let no = drain-refused p s b refl (error h).1 in
          rw (g.answer ∙ sym no.answer, g.bytes ∙ sym no.bytes) (refl, refl, refl, refl);
      in_order_step = λ p s b small r b' g h. rw (g.answer, g.bytes) (in_order-step p s b small (rw g.answer at h));
      in_order_run = λ p s b budget r b' g h.
          let no = in_order-run p s b budget (error h).1 in
          rw (g.answer ∙ no.0, g.bytes ∙ no.1) (refl, refl, refl, refl);
      write = λ i out r out' g h.
          g.output ∙ write_unchanged (ltb (length out) 8) (is_formed i) (bytes (Instruction.record_of i) ++ drop 8 out) out (rw g.answer at h);
      list = λ p out r out' g h. g.output ∙ list_unchanged (Listing.checked p (length out)) _ _ out (rw g.answer at h);
      store = λ b a v r b' g h. g.bytes ∙ store_unchanged b a v (rw g.answer at h);
      write_at = λ b a v r b' g h. g.bytes ∙ write_at_unchanged b a v (rw g.answer at h);
      report = λ p b s out r b' out' g h.
          let no = writes-refused (Report.has_room out) (Report.report p b s) out g.writes h in
          (g.memory ∙ ap (λ (t : Bool). cond (t && Report.is_fit p b s) (Report.after_drain p b s) b) no.0, no.1);
      input = λ p b s out r b' out' g e. g.memory ∙ rw (e, and-false) refl;
      contents = λ s b out r out' g h. (writes-refused (is_whole b && Report.has_room out) (contents_text s (cells b)) out g h).1;
    }
