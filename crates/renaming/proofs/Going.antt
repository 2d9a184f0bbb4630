-- The entries: a refused one hands back what it was lent, step is the run of one record, and the loop of a run is the run.
use mathlib.Core.Path.{◌≡◌, refl, sym, ap, subst, ◌∙◌}
use mathlib.Core.Logic.{◌≢◌}
use Prim.Native.Nat.{ℕ, suc, ◌+◌, ◌*◌, ◌/◌, ◌%◌, ◌<◌, ◌≤◌}
use native.Mathlib.Numerals.{add-one}
use native.Mathlib.Omega.{arith}
use mathlib.Core.Bool.{true, false, false≢true}
use mathlib.Core.List.{List, [], ◌∷◌}
use lib.ListN.{length, get_or, drop, drop_of_length-le}
use borrow.Author.Tests.{eq-eqb, ne_eqb}
use Rattle.std.specs.Prelude.{Result, Ok, Err}
use Rattle.std.specs.Result.{is_err}
use Rattle.records.specs.declared.Fault.{Fault}
use Rattle.records.specs.declared.Refusal.{Refusal}
use Rattle.records.specs.declared.Refusal.TheVariants.{BadLength, BadSchedule}
use Rattle.records.specs.Refusal.{fault, faulted}
use Rattle.records.specs.Scan.{accepted}
use Rattle.records.specs.Records.{tabulate}
use Rattle.records.proofs.Tabulate.{length-tabulate, tabulate-at}
use Rattle.records.proofs.Leading.{drop_some}
use Rattle.isa.specs.declared.Tag.{Tag}
use Rattle.isa.specs.Program.{program}
use Rattle.isa.proofs.Programs.{length-program}
use Rattle.isa.proofs.Formed.{program_formed}
use Rattle.cells.specs.Cells.{cells, image, Formed}
use Rattle.kernel.proofs.Checking.{refuses, works}
use Rattle.templates.specs.declared.State.{State}
use Rattle.templates.specs.Machine.{Mach}
use Rattle.templates.specs.Layout.{places, mach_of, state_of, Laid}
use Rattle.templates.proofs.Places.{state_of-mach_of}
use Rattle.sound.proofs.Soundness.{Sound}
use Rattle.sound.proofs.Decides.{sound_said}
use Rattle.rules.specs.declared.Rule.{Rule}
use Rattle.rules.specs.declared.Command.{Command}
use Rattle.rules.specs.declared.Command.TheVariants.{Malformed, Issue, Apply}
use Rattle.rules.specs.Rules as Rules
use Rattle.rules.specs.Rules.{Step, refused, apply, issue}
use Rattle.rules.specs.Schedule.{command_of, obey}
use Rattle.rules.specs.Run.{End, commands, counted, proceed, run_from, run}
use Rattle.rules.proofs.Keeping.{StaysSound, obey_keeps_sound}
use Rattle.entry.specs.Entry.{entered}
use Rattle.renaming.specs.declared.running.Went.{Went}
use Rattle.renaming.specs.declared.Ran.{Ran}
use Rattle.renaming.specs.declared.Stepped.{Stepped}
use Rattle.renaming.specs.Answers.{answer_of, memory_of}
use Rattle.renaming.specs.Entries.{entered_with, command, once, step_answer, stepped, stepped_memory, Steps, entered_run, runs, ended, ran, ran_memory, Runs, Goes}
use Rattle.renaming.specs.Working.{Within, Inside, DoesAlone, Acts, Ready, RunsTo}
use Rattle.renaming.proofs.Steps.{no_step, came_accepted, came_refused}
use Rattle.renaming.proofs.Fitting.{entered-fit, inside_within, few_instructions}

-- ---- the lengths go first

pub record-whole : (p b : List ℕ) (s : State) (one : List ℕ) → length one ≡ 4 → entered p b s ≡ entered_with p b s one
record-whole p b s one h = rw (eq-eqb (length one) 4 h) refl

pub schedule_whole : (p b : List ℕ) (s : State) (records : List ℕ) → length records % 4 ≡ 0 → entered p b s ≡ entered_run p b s records
schedule_whole p b s records h = rw (eq-eqb (length records % 4) 0 h) refl

-- ---- run

module _ (p : List ℕ) (s : State) (b records : List ℕ) {v : Result (Unit {0}) Fault} (c : v ≡ entered_run p b s records) where
  pub run-refused : {f : Fault} → v ≡ Err f → Runs p s b records (record { state = s; accepted = 0; issued = 0; verdict = v }) b
  unfolding ran ran_memory
  run-refused h =
      record {
        answer =
            ap (λ (w : Result (Unit {0}) Fault). record { state = s; accepted = 0; issued = 0; verdict = w }) c
            ∙ sym (refuses (entered_run p b s records) c h _ _);
        bytes = sym (refuses (entered_run p b s records) c h _ b);
      }

  pub run-done : v ≡ accepted → Formed b → {r : Ran} {b' : List ℕ} → Goes p s b records r b' → Runs p s b records r b'
  unfolding ran ran_memory
  run-done h f g =
      record {
        answer = g.answer ∙ sym (works (entered_run p b s records) c h _ _);
        bytes = sym (g.formed f) ∙ ap image g.holds ∙ sym (works (entered_run p b s records) c h _ b);
      }

module _ (p : List ℕ) (s : State) (b records : List ℕ) where
  pub run_unwhole : length records % 4 ≢ 0 → {f : Fault} → f ≡ fault BadLength 0 → {r : Ran} → r ≡ record { state = s; accepted = 0; issued = 0; verdict = Err f } → Runs p s b records r b
  run_unwhole h k e =
      let long : Err (fault BadLength 0) ≡ entered_run p b s records = rw (ne_eqb (length records % 4) 0 h) refl in
      subst (λ (r : Ran). Runs p s b records r b) (sym (e ∙ ap (λ (f : Fault). record { state = s; accepted = 0; issued = 0; verdict = Err f }) k)) (run-refused p s b records long refl)

  module _ (whole : length records % 4 ≡ 0) where
    pub run-out : {f : Fault} → entered p b s ≡ Err f → {r : Ran} → r ≡ record { state = s; accepted = 0; issued = 0; verdict = Err f } → Runs p s b records r b
    run-out h e = subst (λ (r : Ran). Runs p s b records r b) (sym e) (run-refused p s b records (sym h ∙ schedule_whole p b s records whole) refl)

    pub run-in : entered p b s ≡ accepted → Formed b → {σ : Mach} → σ ≡ mach_of s → {r : Went} {σ' : Mach} {b' : List ℕ}
        → RunsTo (run (program p) (commands records) σ (cells b)) b r σ' b' → {left : State} → left ≡ state_of σ'
        → {v : Result (Unit {0}) Fault} → v ≡ faulted r.verdict → Runs p s b records (record { state = left; accepted = r.accepted; issued = r.issued; verdict = v }) b'
    run-in h f q {r} g e k =
        let all = g.end ∙ ap (λ (τ : Mach). run (program p) (commands records) τ (cells b)) q in
        run-done p s b records (sym h ∙ schedule_whole p b s records whole) refl f
        (record {
          answer =
              (λ i. record { state = e i; accepted = r.accepted; issued = r.issued; verdict = k i }) ∙ ap ended all;
          holds = ap (λ (x : End). x.memory) all;
          formed = g.formed;
        })

-- ---- step: the run of one record

module _ (p : List ℕ) (s : State) (b one : List ℕ) where
  pub step_unwhole : length one ≢ 4 → {f : Fault} → f ≡ fault BadLength 0 → Steps p s b one (record { state = s; verdict = Err f }) b
  unfolding stepped stepped_memory
  step_unwhole h k = record { answer = rw (ne_eqb (length one) 4 h, k) refl; bytes = rw (ne_eqb (length one) 4 h) refl }

  -- where the step leads, as a run's end
  abbrev end_of : Step → End
  end_of t =
      proceed (λ σ m. record { accepted = 1; issued = counted (command one) 0; verdict = Ok tt; machine = σ; memory = m })
      (λ no. record { accepted = 0; issued = 0; verdict = Err no; machine = mach_of s; memory = cells b }) t

  abbrev step_of : Ran → Stepped
  step_of r = record { state = r.state; verdict = r.verdict }

  -- a record that is obeyed, or refused: the state as it was is the layout of its machine
  stepped_as : Laid s → (t : Step) → step_of (ended (end_of t)) ≡ step_answer (answer_of s t)
  stepped_as l (Rules.accepted σ m) = refl
  stepped_as l (refused k) = ap (λ (q : State). record { state = q; verdict = Err (fault k 0) }) (state_of-mach_of s l)

  memory_as : (t : Step) → (end_of t).memory ≡ memory_of (cells b) t
  memory_as (Rules.accepted σ m) = refl
  memory_as (refused k) = refl

  module _ (four : length one ≡ 4) where
    one-command : commands one ≡ command one ∷ []
    unfolding commands
    one-command = ap (λ (n : ℕ). tabulate (n / 4) (λ i. command_of (get_or one (4 * i) 0) (get_or one (4 * i + 1) 0) (get_or one (4 * i + 2) 0) (get_or one (4 * i + 3) 0))) four

    one-run : runs p s b one ≡ end_of (once p s b one)
    unfolding run_from
    one-run = ap (λ cs. run_from (program p) cs 0 0 (mach_of s) (cells b)) one-command

    both : entered_run p b s one ≡ entered_with p b s one
    both = let whole : length one % 4 ≡ 0 = omega (arith, four) in sym (schedule_whole p b s one whole) ∙ record-whole p b s one four

    step_goes : entered_with p b s one ≡ accepted → Laid s → {r : Ran} {b' : List ℕ} → Runs p s b one r b' → Steps p s b one (step_of r) b'
    unfolding ran ran_memory stepped stepped_memory
    step_goes h l g =
        record {
          answer =
              ap step_of (g.answer ∙ works (entered_run p b s one) refl (both ∙ h) _ _ ∙ ap ended one-run)
              ∙ stepped_as l (once p s b one) ∙ sym (works (entered_with p b s one) refl h _ _);
          bytes =
              g.bytes ∙ works (entered_run p b s one) refl (both ∙ h) _ b ∙ ap image (ap (λ (x : End). x.memory) one-run ∙ memory_as (once p s b one))
              ∙ sym (works (entered_with p b s one) refl h _ b);
        }

    step_stays : {f : Fault} → entered_with p b s one ≡ Err f → {r : Ran} {b' : List ℕ} → Runs p s b one r b' → Steps p s b one (step_of r) b'
    unfolding ran ran_memory stepped stepped_memory
    step_stays h g =
        record {
          answer =
              ap step_of (g.answer ∙ refuses (entered_run p b s one) refl (both ∙ h) _ _) ∙ ap (λ (v : Result (Unit {0}) Fault). record { state = s; verdict = v }) both
              ∙ sym (refuses (entered_with p b s one) refl h _ _);
          bytes = g.bytes ∙ refuses (entered_run p b s one) refl (both ∙ h) _ b ∙ sym (refuses (entered_with p b s one) refl h _ b);
        }

    pub step_run : length s.templates ≡ places → {r : Ran} {b' : List ℕ} → Runs p s b one r b' → Steps p s b one (record { state = r.state; verdict = r.verdict }) b'
    step_run long {r} {b'} g = by (entered_with p b s one) refl
      where
        by : (v : Result (Unit {0}) Fault) → entered_with p b s one ≡ v → Steps p s b one (step_of r) b'
        by (Ok x) h = step_goes h (entered-fit p b s (record { verdict = sym (record-whole p b s one four); long = long }) h).laid g
        by (Err f) h = step_stays h g

-- ---- the loop of a run

-- the command of record number i
abbrev pub command_at : List ℕ → ℕ → Command
command_at b i = command_of (get_or b (4 * i) 0) (get_or b (4 * i + 1) 0) (get_or b (4 * i + 2) 0) (get_or b (4 * i + 3) 0)

command-drop : (b : List ℕ) (i : ℕ) → i < length b / 4 → drop i (commands b) ≡ command_at b i ∷ drop (suc i) (commands b)
unfolding commands
command-drop b i h = drop_some (commands b) i (tabulate-at (length b / 4) (command_at b) i h)

none_left : (b : List ℕ) (i : ℕ) → length b / 4 ≤ i → drop i (commands b) ≡ []
unfolding commands
none_left b i h =
    let all : length (commands b) ≤ i = rw (length-tabulate (length b / 4) (command_at b)) h in
    drop_of_length-le (commands b) all

counted_le : (c : Command) (k : ℕ) → counted c k ≤ k + 1
counted_le Malformed k = omega arith
counted_le (Issue t) k = omega arith
counted_le (Apply r place) k = omega arith

-- an answer by its test
passed : (r : Result (Unit {0}) Refusal) → is_err r ≡ false → r ≡ Ok tt
passed (Ok x) e = refl
passed (Err k) e = absurd (false≢true (sym e))

failed : (r : Result (Unit {0}) Refusal) → is_err r ≡ true → (why : Refusal) × (r ≡ Err why)
failed (Ok x) e = absurd (false≢true e)
failed (Err k) e = (k, refl)

-- the run from here on is the whole run e
pub record Left (p : List ℕ) (e : End) (b₀ records : List ℕ) (σ : Mach) (b : List ℕ) (i k : ℕ) : Type 0 where
  pub rest : run_from (program p) (drop i (commands records)) i k σ (cells b) ≡ e
  pub ready : Ready p σ
  pub issues : k ≤ i
  pub formed : Formed b₀ → Formed b

pub run_begins : (p records : List ℕ) (σ : Mach) (b : List ℕ) → Ready p σ → Left p (run (program p) (commands records) σ (cells b)) b records σ b 0 0
run_begins p records σ b r = record { rest = refl; ready = r; issues = omega arith; formed = λ h. h }

pub ready_inside : {p : List ℕ} {σ : Mach} → Ready p σ → Inside σ
ready_inside {p} r = (length p / 8, few_instructions p r.scanned, r.sound)

pub ready_within : {p : List ℕ} {σ : Mach} → Ready p σ → Within σ.held
ready_within {p} {σ} r = inside_within σ (ready_inside r)

module _ (p : List ℕ) (d : Command) {σ : Mach} {b : List ℕ} {r : Result (Unit {0}) Refusal} {σ' : Mach} {b' : List ℕ} (y : Ready p σ) (o : Acts (obey (program p) d) σ b r σ' b') where
  still_ready : r ≡ Ok tt → Ready p σ'
  still_ready z =
      let sound : Sound (length (program p)) σ = rw (length-program p y.scanned) ((sound_said (length p / 8) σ).holds y.sound) in
      let kept = subst (StaysSound (length (program p))) (came_accepted o.does z) (obey_keeps_sound (program p) (program_formed p) σ (cells b) sound d) in
      record {
        sound = (sound_said (length p / 8) σ').says (subst (λ (k : ℕ). Sound k σ') (length-program p y.scanned) kept);
        scanned = y.scanned;
      }

module _ {p : List ℕ} {e : End} {b₀ records : List ℕ} {σ : Mach} {b : List ℕ} {i k : ℕ} (l : Left p e b₀ records σ b i k) where
  module _ (h : i < length records / 4) {d : Command} (q : d ≡ command_at records i) {r : Result (Unit {0}) Refusal} {σ' : Mach} {b' : List ℕ} (o : Acts (obey (program p) d) σ b r σ' b') where
    -- the record at hand
    step : run_from (program p) (drop i (commands records)) i k σ (cells b)
        ≡ proceed (λ τ m. run_from (program p) (drop (suc i) (commands records)) (i + 1) (counted d k) τ m)
        (λ no. record { accepted = i; issued = k; verdict = Err no; machine = σ; memory = cells b })
        (obey (program p) d σ (cells b))
    unfolding run_from
    step = rw (command-drop records i h, ← q) refl

    pub run_again : is_err r ≡ false → {k' : ℕ} → k' ≡ counted d k → Left p e b₀ records σ' b' (i + 1) k'
    run_again n {k'} kk =
        let z = passed r n in
        subst (λ (y : ℕ). Left p e b₀ records σ' b' (i + 1) y) (sym kk)
        (record {
          rest =
              ap (λ (y : ℕ). run_from (program p) (drop y (commands records)) (i + 1) (counted d k) σ' (cells b')) (add-one i)
              ∙ sym (step ∙ ap (proceed _ _) (came_accepted o.does z))
              ∙ l.rest;
          ready = still_ready p d l.ready o z;
          issues = omega (arith, counted_le d k, l.issues);
          formed = λ f. o.formed (l.formed f);
        })

    pub run_stops : is_err r ≡ true → RunsTo e b₀ (record { accepted = i; issued = k; verdict = r }) σ' b'
    run_stops n =
        let z = (failed r n).1 in
        let s = came_refused o.does z in
        record {
          end =
              (λ j. record { accepted = i; issued = k; verdict = z j; machine = s.1 j; memory = s.2 j })
              ∙ sym (step ∙ ap (proceed _ _) s.0) ∙ l.rest;
          formed = λ f. o.formed (l.formed f);
        }

  pub run_ends : i ≡ length records / 4 → RunsTo e b₀ (record { accepted = length records / 4; issued = k; verdict = Ok tt }) σ b
  unfolding run_from
  run_ends h =
      let least : length records / 4 ≤ i = omega (arith, h) in
      record {
        end =
            ap (λ (j : ℕ). record { accepted = j; issued = k; verdict = Ok tt; machine = σ; memory = cells b }) (sym h)
            ∙ ap (λ cs. run_from (program p) cs i k σ (cells b)) (sym (none_left records i least)) ∙ l.rest;
        formed = l.formed;
      }

-- ---- a command obeyed

module _ (p : List ℕ) {σ : Mach} {b : List ℕ} where
  pub obeys_malformed : {d : Command} → d ≡ Malformed → Acts (obey (program p) d) σ b (Err BadSchedule) σ b
  unfolding obey
  obeys_malformed {d} e = record { does = no_step (obey (program p) d) (ap (λ (y : Command). obey (program p) y σ (cells b)) e); formed = λ g. g }

  module _ {r : Result (Unit {0}) Refusal} {σ' : Mach} where
    issue_so : (t : Tag) → DoesAlone (issue (program p) t) σ r σ' → Acts (obey (program p) (Issue t)) σ b r σ' b
    unfolding obey
    issue_so t d = record { does = d (cells b); formed = λ g. g }

    pub obeys_issue : {d : Command} {t : Tag} → d ≡ Issue t → DoesAlone (issue (program p) t) σ r σ' → Acts (obey (program p) d) σ b r σ' b
    obeys_issue {t = t} e a = subst (λ (y : Command). Acts (obey (program p) y) σ b r σ' b) (sym e) (issue_so t a)

    module _ {b' : List ℕ} where
      apply_so : (rule : Rule) (place : ℕ) → Acts (apply rule place) σ b r σ' b' → Acts (obey (program p) (Apply rule place)) σ b r σ' b'
      unfolding obey
      apply_so rule place a = a

      pub obeys_apply : {d : Command} {rule : Rule} {place : ℕ} → d ≡ Apply rule place → Acts (apply rule place) σ b r σ' b' → Acts (obey (program p) d) σ b r σ' b'
      obeys_apply {rule = rule} {place = place} e a = subst (λ (y : Command). Acts (obey (program p) y) σ b r σ' b') (sym e) (apply_so rule place a)
