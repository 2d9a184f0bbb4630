-- The memo's Theorem 1, from what issue and the drain do to the outcome.
use Prim.Native.Nat.{ℕ, zero, suc, ◌+◌}
use native.Mathlib.Omega.{arith}
use mathlib.Core.Path.{◌≡◌, refl, sym, ap, ap₂, subst, ◌∙◌}
use mathlib.Core.List.{List, [], ◌∷◌, ◌++◌, map}
use mathlib.Core.Option.{Option, some}
use lib.ListN.{length, get_elem?}
use Rattle.value.specs.declared.Value.{Value}
use Rattle.isa.specs.declared.InstrAddr.{InstrAddr}
use Rattle.isa.specs.declared.Instr.{Instr}
use Rattle.isa.specs.Program.{present, program}
use Rattle.kernel.specs.Kernel.{Run, going, stopped}
use Rattle.templates.specs.Machine.{Mach, mach}
use Rattle.sound.specs.Sound as Sound
use Rattle.sound.proofs.Soundness.{RegistersOk, Sound}
use Rattle.sound.proofs.Decides.{sound_said}
use Rattle.rules.specs.declared.Command.{Command}
use Rattle.rules.specs.declared.Command.TheVariants.{Malformed, Issue, Apply}
use Rattle.rules.specs.Rules.{Step, accepted, refused, issue_at, issued, issue}
use Rattle.rules.specs.Schedule.{obey}
use Rattle.rules.specs.Run.{counted}
use Rattle.rules.specs.Drain.{drain}
use Rattle.isa.proofs.Formed.{AllFormed, program_formed}
use Rattle.rules.proofs.Keeping.{obey_keeps_sound}
use Rattle.inorder.specs.declared.Register.{Register}
use Rattle.inorder.specs.declared.InOrder.{InOrder}
use Rattle.inorder.specs.Machine.{step, once, execute, machine}
use Rattle.inorder.specs.Machine as Machine
use Rattle.inorder.specs.Entries as InOrder
use Rattle.inorder.proofs.Stops.{Stops, once_stops}
use Rattle.rules.specs.Moves.{Move, move, Refused, and_then, continued}
use Rattle.rules.specs.Schedules.{obeyed, issues}
use Rattle.demands.specs.Agrees.{valued, Equal}
use Rattle.demands.specs.Memo.{Fetches}
use Rattle.demands.specs.MemoBase.{Executes}
use Rattle.demands.specs.Simulates.{itbl, tag_for, Rewrites, none, next, Theorem1, IssueAndDrain, Simulates}
use Rattle.demands.proofs.Flush.{values, nothing, outcome}
use Rattle.demands.proofs.Follows.{issue-steps-outcome}
use Rattle.demands.proofs.Ending.{stuck_agrees}
use Rattle.demands.proofs.Turns.{on_accepted, continued_keeps}
use Rattle.demands.proofs.Draining.{drains, drain_stuck}
use Rattle.demands.proofs.Memo.{memo_accepted, accepted_exactly}
use Rattle.demands.proofs.MemoBase.{memo_goes}

-- ---- a machine that holds values only

values_ok : (rf : List Register) → RegistersOk Sound.none (map valued rf)
values_ok [] = tt
values_ok (r ∷ rf) = (tt, tt, values_ok rf)

itbl_sound : (k : ℕ) (s : InOrder) → Sound k (itbl s)
itbl_sound k s = record { few = omega arith; templates = tt; registers = values_ok s.registers; counter = refl }

values-itbl : (rf : List Register) → values nothing (map valued rf) ≡ rf
values-itbl [] = refl
values-itbl (r ∷ rf) = ap (◌∷◌ r) (values-itbl rf)

-- it has come to what it is
pub itbl-outcome : (s : InOrder) (m : List Value) → outcome (itbl s) m ≡ going s.registers s.counter m
itbl-outcome s m = ap (λ (rf : List Register). going rf s.counter m) (values-itbl s.registers)

-- ---- its instruction can be issued

abbrev Went : Run (List Register) → Type 0
Went (going rf ia m) = Unit
Went (stopped ia why m) = ⊥

module _ (prog : List Instr) (s : InOrder) (m : List Value) where
  fetches : Went (once prog s m) → (i : Instr) × Fetches prog s.counter i
  unfolding step
  fetches = found (get_elem? prog s.counter.0) refl
    where
      found : (o : Option Instr) → get_elem? prog s.counter.0 ≡ o → Went (execute s.registers s.counter m (present o))
          → (i : Instr) × Fetches prog s.counter i
      found Option.none e w = absurd w
      found (some i) e w = (i, e)

  abbrev after_issue : Instr → Mach
  after_issue i = issued (tag_for i) (itbl s) m s.counter i

  room : (i : Instr) → issue_at (tag_for i) (itbl s) m s.counter i ≡ accepted (after_issue i) m
  room (Instr.Loadc r k) = refl
  room (Instr.Loadpc r) = refl
  room (Instr.Op r n r₁ r₂) = refl
  room (Instr.Jz r₁ r₂) = refl
  room (Instr.Load r r₁) = refl
  room (Instr.Store r₁ r₂) = refl

  issue-accepted : (i : Instr) → Fetches prog s.counter i → issue prog (tag_for i) (itbl s) m ≡ accepted (after_issue i) m
  unfolding issue
  issue-accepted i e = rw e (room i)

-- ---- one step

equal_itbl : {σ : Mach} {m m' : List Value} {rf : List Register} {ia : InstrAddr} → Equal rf ia m' σ m → σ ≡ itbl (machine ia rf)
equal_itbl e = λ i. mach (e.counter i) (e.registers i) (e.empty i)

module _ (prog : List Instr) (formed : AllFormed prog) where
  module _ (s s' : InOrder) (m m' : List Value) (goes : once prog s m ≡ going s'.registers s'.counter m') where
    went : Went (once prog s m)
    went = subst Went (sym goes) tt

    abbrev here : Instr
    here = (fetches prog s m went).0

    abbrev τ : Mach
    τ = after_issue prog s m here

    accepts : issue prog (tag_for here) (itbl s) m ≡ accepted τ m
    accepts = issue-accepted prog s m here (fetches prog s m went).1

    obeys_issue : obey prog (Issue (tag_for here)) (itbl s) m ≡ accepted τ m
    unfolding obey
    obeys_issue = accepts

    τ-sound : Sound (length prog) τ
    τ-sound = on_accepted _ obeys_issue (obey_keeps_sound prog formed (itbl s) m (itbl_sound (length prog) s) (Issue (tag_for here)))

    τ-outcome : outcome τ m ≡ going s'.registers s'.counter m'
    τ-outcome =
        on_accepted _ accepts (issue-steps-outcome prog (tag_for here) (itbl s) m (itbl_sound (length prog) s))
        ∙ ap (step prog) (itbl-outcome s m) ∙ goes

    drained_equal : Equal s'.registers s'.counter m' (drain τ m).machine (drain τ m).memory
    drained_equal =
        let d = drains τ m τ-sound.few in
        let g = on_accepted _ d.1.leaves (continued_keeps (length prog) d.0 τ m τ-sound) in
        rw (g.0 ∙ τ-outcome) at (stuck_agrees (length prog) (drain τ m).machine (drain τ m).memory g.1 (drain_stuck τ m τ-sound.few))

    pub issue_and_drain : IssueAndDrain prog s m s' m'
    issue_and_drain =
        record {
          instruction = here;
          fetched = (fetches prog s m went).1;
          after = τ;
          issues = accepts;
          machine = equal_itbl drained_equal;
          memory = drained_equal.memory;
        }

-- ---- its commands

abbrev command_of : Move → Command
command_of v = Apply v.rule v.place

-- one list of commands behind another
obeyed-append : (prog : List Instr) (cs ds : List Command) (σ : Mach) (m : List Value) {τ : Mach} {l : List Value} → obeyed prog cs σ m ≡ accepted τ l
    → obeyed prog (cs ++ ds) σ m ≡ obeyed prog ds τ l
obeyed-append prog [] ds σ m {τ} {l} e =
    let machine : σ ≡ τ = cc in
    let memory : m ≡ l = cc in
    ap₂ (obeyed prog ds) machine memory
obeyed-append prog (c ∷ cs) ds σ m {τ} {l} e = first (obey prog c σ m) e (λ σ' m'. obeyed-append prog cs ds σ' m')
  where
    first : (r : Step) → and_then (λ σ' m'. obeyed prog cs σ' m') r ≡ accepted τ l
        → ((σ' : Mach) (m' : List Value) → obeyed prog cs σ' m' ≡ accepted τ l → obeyed prog (cs ++ ds) σ' m' ≡ obeyed prog ds τ l)
        → and_then (λ σ' m'. obeyed prog (cs ++ ds) σ' m') r ≡ obeyed prog ds τ l
    first (accepted σ' m') f rest = rest σ' m' f
    first (refused n) f rest = absurd (subst Refused f tt)

moves_obeyed : (prog : List Instr) (vs : List Move) (σ : Mach) (m : List Value) → obeyed prog (map command_of vs) σ m ≡ continued vs σ m
unfolding obey
moves_obeyed prog [] σ m = refl
moves_obeyed prog (v ∷ vs) σ m = first (move v σ m) (λ τ l. moves_obeyed prog vs τ l)
  where
    first : (r : Step) → ((τ : Mach) (l : List Value) → obeyed prog (map command_of vs) τ l ≡ continued vs τ l)
        → and_then (λ τ l. obeyed prog (map command_of vs) τ l) r ≡ and_then (λ τ l. continued vs τ l) r
    first (accepted τ l) rest = rest τ l
    first (refused n) rest = refl

no-issues : (vs : List Move) → issues (map command_of vs) ≡ 0
no-issues [] = refl
no-issues (v ∷ vs) = no-issues vs

counted_more : (c : Command) (j k : ℕ) → counted c (j + k) ≡ counted c j + k
counted_more Malformed j k = refl
counted_more (Issue t) j k = omega arith
counted_more (Apply r place) j k = refl

issues-append : (cs ds : List Command) → issues (cs ++ ds) ≡ issues cs + issues ds
issues-append [] ds = omega arith
issues-append (c ∷ cs) ds = ap (counted c) (issues-append cs ds) ∙ counted_more c (issues cs) (issues ds)

-- accepted commands are the memo's rules
rewritten : (prog : List Instr) → AllFormed prog → (cs : List Command) (σ : Mach) (m : List Value) {σ' : Mach} {m' : List Value} → Sound (length prog) σ
    → obeyed prog cs σ m ≡ accepted σ' m' → Rewrites prog σ m cs σ' m'
rewritten prog formed [] σ m {σ'} {m'} s e =
    let machine : σ ≡ σ' = cc in
    let memory : m ≡ m' = cc in
    rw (← machine, ← memory) (none σ m)
rewritten prog formed (c ∷ cs) σ m {σ'} {m'} s e = first (obey prog c σ m) refl e (λ τ l. rewritten prog formed cs τ l)
  where
    first : (r : Step) → obey prog c σ m ≡ r → and_then (λ τ l. obeyed prog cs τ l) r ≡ accepted σ' m'
        → ((τ : Mach) (l : List Value) → Sound (length prog) τ → obeyed prog cs τ l ≡ accepted σ' m' → Rewrites prog τ l cs σ' m')
        → Rewrites prog σ m (c ∷ cs) σ' m'
    first (accepted τ l) g f rest =
        next σ τ σ' m l m' c cs ((accepted_exactly prog (length prog) σ ((sound_said (length prog) σ).says s) m c τ l).0 g)
        (rest τ l (on_accepted _ g (obey_keeps_sound prog formed σ m s c)) f)
    first (refused n) g f rest = absurd (subst Refused f tt)

-- and back, where the machine need not be sound: the memo's rules are accepted
pub rewrites_obeyed : (prog : List Instr) {σ σ' : Mach} {m m' : List Value} {cs : List Command} → Rewrites prog σ m cs σ' m'
    → obeyed prog cs σ m ≡ accepted σ' m'
rewrites_obeyed prog (none σ m) = refl
rewrites_obeyed prog (next σ τ σ' m l m' c cs r rest) = rw (memo_accepted prog r) (rewrites_obeyed prog rest)

-- ---- Theorem 1

-- the commands of one step
record Stepped (prog : List Instr) (s : InOrder) (m : List Value) (s' : InOrder) (m' : List Value) : Type 0 where
  commands : List Command
  leads : obeyed prog commands (itbl s) m ≡ accepted (itbl s') m'
  issued : issues commands ≡ 1

-- to an end after k instructions
record Led (prog : List Instr) (k : ℕ) (s : InOrder) (m : List Value) (e : InOrder.End) : Type 0 where
  schedule : List Command
  leads : obeyed prog schedule (itbl s) m ≡ accepted (itbl e.machine) e.memory
  issued : k + issues schedule ≡ e.executed

module _ (prog : List Instr) (formed : AllFormed prog) where
  step-commands : (s s' : InOrder) (m m' : List Value) → once prog s m ≡ going s'.registers s'.counter m' → Stepped prog s m s' m'
  step-commands s s' m m' goes =
      let t = τ prog formed s s' m m' goes in
      let d = drains t m (τ-sound prog formed s s' m m' goes).few in
      let e = drained_equal prog formed s s' m m' goes in
      record {
        commands = Issue (tag_for (here prog formed s s' m m' goes)) ∷ map command_of d.0;
        leads =
            ap (and_then (λ σ l. obeyed prog (map command_of d.0) σ l)) (obeys_issue prog formed s s' m m' goes)
            ∙ moves_obeyed prog d.0 t m ∙ d.1.leaves ∙ ap₂ accepted (equal_itbl e) e.memory;
        issued = ap (λ (n : ℕ). n + 1) (no-issues d.0);
      }

  pub theorem_1 : (s s' : InOrder) (m m' : List Value) → Executes prog s m s' m' → Theorem1 prog s m s' m'
  theorem_1 s s' m m' x =
      let t = step-commands s s' m m' (memo_goes prog x) in
      record {
        commands = t.commands;
        rewrites = rewritten prog formed t.commands (itbl s) m (itbl_sound (length prog) s) t.leads;
        one = t.issued;
      }

  -- ---- a run

  one_more : (k : ℕ) (s s' : InOrder) (m m' : List Value) (e : InOrder.End) → once prog s m ≡ going s'.registers s'.counter m'
      → Led prog (k + 1) s' m' e → Led prog k s m e
  one_more k s s' m m' e goes led =
      let t = step-commands s s' m m' goes in
      record {
        schedule = t.commands ++ led.schedule;
        leads = obeyed-append prog t.commands led.schedule (itbl s) m t.leads ∙ led.leads;
        issued = omega (arith, issues-append t.commands led.schedule, t.issued, led.issued);
      }

  led_run : (n k : ℕ) (s : InOrder) (m : List Value) → Led prog k s m (InOrder.run_from prog n s k m)
  unfolding InOrder.run_from
  led_run zero k s m = record { schedule = []; leads = refl; issued = omega arith }
  led_run (suc n) k s m = first (once prog s m) refl (once_stops prog s m) (λ s' m'. led_run n (k + 1) s' m')
    where
      first : (r : Run (List Register)) → once prog s m ≡ r → Stops s.counter m r
          → ((s' : InOrder) (m' : List Value) → Led prog (k + 1) s' m' (InOrder.run_from prog n s' (k + 1) m'))
          → Led prog k s m (InOrder.proceed (λ s' m'. InOrder.run_from prog n s' (k + 1) m') s k r)
      first (going rf ia m') e w rest = one_more k s (machine ia rf) m m' (InOrder.run_from prog n (machine ia rf) (k + 1) m') e (rest (machine ia rf) m')
      first (stopped ia why m') e w rest = record { schedule = []; leads = ap (accepted (itbl s)) (sym w.1); issued = omega arith }

  pub simulates : (m : List Value) (n : ℕ) → Simulates prog m n
  simulates m n =
      let led = led_run n 0 Machine.start m in
      record { schedule = led.schedule; leads = led.leads; issued = omega (arith, led.issued) }

-- ---- whatever the bytes of a program

pub theorem_1_of_bytes : (b : List ℕ) (s s' : InOrder) (m m' : List Value) → Executes (program b) s m s' m' → Theorem1 (program b) s m s' m'
theorem_1_of_bytes b = theorem_1 (program b) (program_formed b)

pub simulates_of_bytes : (b : List ℕ) (m : List Value) (n : ℕ) → Simulates (program b) m n
simulates_of_bytes b = simulates (program b) (program_formed b)
