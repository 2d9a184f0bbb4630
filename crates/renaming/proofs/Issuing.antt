-- Issue on the working table: the instruction's template is added, and the destination holds its tag.
use mathlib.Core.Path.{◌≡◌, sym, ap, ap₂, ◌∙◌}
use Prim.Native.Nat.{ℕ, ◌+◌, ◌<◌}
use native.Mathlib.Omega.{arith}
use mathlib.Core.Bool.{true}
use mathlib.Core.List.{List, [], ◌∷◌, ◌++◌}
use lib.ListN.{length, get_elem?, length-set}
use borrow.Author.Tests.{lt-leb}
use Rattle.std.specs.Prelude.{Result, Ok, Err}
use Rattle.records.specs.declared.Refusal.{Refusal}
use Rattle.records.specs.declared.Refusal.TheVariants.{Stalled}
use Rattle.value.specs.declared.Value.{Value}
use Rattle.isa.specs.declared.InstrAddr.{InstrAddr}
use Rattle.isa.specs.declared.Instr.{Instr}
use Rattle.isa.specs.declared.Reg.{Reg}
use Rattle.isa.specs.declared.Tag.{Tag}
use Rattle.isa.specs.Program.{present}
use Rattle.templates.specs.declared.Counter.{Counter}
use Rattle.templates.specs.declared.Counter.TheVariants.{At, Stall}
use Rattle.templates.specs.declared.Operand.TheVariants.{Waits}
use Rattle.templates.specs.declared.Register.{Register}
use Rattle.templates.specs.declared.Work.{Work}
use Rattle.templates.specs.Templates.{put}
use Rattle.templates.specs.Machine.{Itb, ITB, Mach, mach, room}
use Rattle.templates.specs.Layout.{places, template}
use Rattle.rows.specs.Rows.{Row}
use Rattle.rows.specs.Shown.{held_of, regs_of, Table, File}
use Rattle.rows.specs.Answers.{Holds, Puts}
use Rattle.rows.proofs.Showing.{shown, tabled, shows_more, held-listed, held_filed}
use Rattle.rows.proofs.Showing.{shows as shows-table}
use Rattle.rules.specs.Rules.{Step, accepted, tried, tag_ok, work_of, renamed, counter_after, issue_at, issue_from, issue}
use Rattle.rules.specs.Drain.{refusal}
use Rattle.renaming.specs.Answers.{memory_of}
use Rattle.renaming.specs.Working.{Coded, Renames, after, DoesAlone}
use Rattle.renaming.proofs.Steps.{no_step, a-step, counted}

-- ---- the destination

pub renames : {rf : List ℕ} → File rf → (t : Tag) {i j : Instr} → i ≡ j → (r : Reg) → renamed (regs_of rf) t j ≡ put (regs_of rf) r (Waits t) → {rf' : List ℕ} → Holds r (Waits t) rf rf' → Renames t i rf rf'
renames {rf} f t k r e h = record { shown = held-listed f h ∙ sym (ap (renamed (regs_of rf) t) k ∙ e); file = held_filed f h }

-- ---- issue at an address

module _ {n : ℕ} {ts : List Row} {rf : List ℕ} (w : Coded n ts rf) {c : Counter} {σ : Mach} (v : mach c (regs_of rf) (held_of n ts) ≡ σ) (t : Tag) (ia : InstrAddr) (i : Instr) where
  abbrev there : Mach → List Value → Step
  there σ m = issue_at t σ m ia i

  module _ (h : n < room) {x : Work} {ts' : List Row} (u : Puts n (template (ITB ia x)) ts ts') {rf' : List ℕ} (q : Renames t i rf rf') where
    more : Table (n + 1) ts'
    more =
        let long : length ts' ≡ places = ap length u.rows ∙ length-set ts n _ ∙ w.table.long in
        tabled (shows_more (shows-table w.table) (omega (arith, w.table.long, h)) u) long (omega (arith, h))

    pub issued-coded : Coded (n + 1) ts' rf'
    issued-coded = record { table = more; file = q.file }

    pub issues : tag_ok (held_of n ts) t i ≡ true → x ≡ work_of (regs_of rf) ia t i → {c' : Counter} → c' ≡ counter_after ia i
        → DoesAlone there σ (Ok tt) (mach c' (regs_of rf') (held_of (n + 1) ts'))
    issues e g {c'} k =
        let s = shows_more (shows-table w.table) (omega (arith, w.table.long, h)) u in
        let few : length (held_of n ts) < room = omega (arith, counted w v, ap (λ (y : Mach). length y.held) v, h) in
        λ m. a-step there
        (sym (ap (λ (y : Mach). there y m) v)
        ∙ rw (lt-leb room (length (held_of n ts)) few, e, ← g)
        (ap₂ (λ (y : Counter) (rs : List Register). accepted (mach y rs (held_of n ts ++ ITB ia x ∷ [])) m) (sym k) (sym q.shown)
        ∙ ap (λ (xs : List Itb). accepted (mach c' (regs_of rf') xs) m) (sym (shown s))))

-- ---- at the counter

module _ (prog : List Instr) (t : Tag) (σ : Mach) where
  pub issue-stalled : σ.counter ≡ Stall → DoesAlone (issue prog t) σ (Err Stalled) σ
  unfolding issue
  issue-stalled e = λ m. no_step (issue prog t) (ap (issue_from t σ m prog) e)

  module _ {ia : InstrAddr} (e : σ.counter ≡ At ia) where
    at_address : (o : Result Instr Refusal) → present (get_elem? prog ia.0) ≡ o → (m : List Value) → issue prog t σ m ≡ tried (issue_at t σ m ia) o
    unfolding issue
    at_address o q m = ap (issue_from t σ m prog) e ∙ ap (tried (issue_at t σ m ia)) q

    pub issue-none : {why : Refusal} → present (get_elem? prog ia.0) ≡ Err why → DoesAlone (issue prog t) σ (Err why) σ
    issue-none {why} q = λ m. no_step (issue prog t) (at_address (Err why) q m)

    pub issue-there : {i : Instr} → present (get_elem? prog ia.0) ≡ Ok i → {r : Result (Unit {0}) Refusal} {σ' : Mach}
        → DoesAlone (λ τ m. issue_at t τ m ia i) σ r σ' → DoesAlone (issue prog t) σ r σ'
    issue-there {i} q {r} {σ'} d =
        λ m. let k = at_address (Ok i) q m in
        record { verdict = (d m).verdict ∙ ap refusal (sym k); machine = (d m).machine ∙ ap (after σ) (sym k); memory = (d m).memory ∙ ap (memory_of m) (sym k) }
