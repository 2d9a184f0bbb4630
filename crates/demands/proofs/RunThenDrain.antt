-- The public run, then the public drain, end as the public in-order run of as many instructions as were issued.
use Prim.Native.Nat.{ℕ, ◌*◌, ◌/◌, ◌%◌, ◌<◌, ◌≤◌}
use native.Mathlib.Decide.{dec_lt}
use native.Mathlib.Omega.{arith}
use mathlib.Core.Path.{◌≡◌, refl, sym, ap, ap₂, ◌∙◌}
use mathlib.Core.Logic.{◌⊎◌, inl, inr}
use mathlib.Core.Bool.{Bool, true, false, cond, ◌&&◌, and-eq-true_iff}
use mathlib.Core.List.{List, map}
use mathlib.Core.Option.{Option, none, some}
use Rattle.std.specs.Prelude.{Result, Err}
use lib.Dec.{eqb, leb}
use lib.ListN.{length, take, get_elem?, length-set, length-map}
use borrow.Author.Tests.{eq-eqb, leb-true, le-leb}
use Rattle.records.specs.Records.{is_whole}
use Rattle.records.specs.Scan.{refused, accepted}
use Rattle.records.specs.declared.Refusal.TheVariants.{BadLength, IsUndefined, Outside}
use Rattle.records.specs.declared.Fault.{Fault}
use Rattle.records.specs.declared.Refusal.{Refusal}
use Rattle.records.specs.Refusal.{fault, faulted}
use Rattle.records.proofs.Image as Image
use Rattle.value.specs.declared.Value.{Value}
use Rattle.isa.specs.declared.InstrAddr.{InstrAddr}
use Rattle.isa.specs.declared.Instr.{Instr}
use Rattle.isa.specs.declared.Tag.{Tag}
use Rattle.isa.specs.Program.{program, present}
use Rattle.isa.specs.Program as Program
use Rattle.isa.proofs.Programs.{length-program}
use Rattle.cells.specs.Cells.{cells, image, record_of}
use Rattle.cells.specs.Cells as Cells
use Rattle.cells.proofs.Memory.{Words, cells-image, scan-image, length-cells}
use Rattle.kernel.specs.Checks.{first, checked}
use Rattle.kernel.proofs.Checking.{checks_say, checked-program, works}
use Rattle.templates.specs.declared.Counter.{Counter}
use Rattle.templates.specs.declared.Counter.TheVariants.{At, Stall}
use Rattle.templates.specs.declared.State.{State}
use Rattle.templates.specs.Machine.{Itb, Mach, start, room}
use Rattle.templates.specs.Layout.{mach_of, state_of}
use Rattle.templates.proofs.Places.{mach_of-state_of}
use Rattle.sound.specs.Sound.{is_sound}
use Rattle.sound.proofs.Basics.{by_test}
use Rattle.sound.proofs.Soundness.{Sound}
use Rattle.sound.proofs.Decides.{sound_state}
use Rattle.rules.specs.declared.Command.{Command}
use Rattle.rules.specs.declared.Command.TheVariants.{Malformed, Issue, Apply}
use Rattle.renaming.specs.declared.Ran.{Ran}
use Rattle.renaming.specs.declared.Settled.{Settled}
use Rattle.rules.specs.Rules.{Step, tried, tag_ok, issue_at, issue_from, issue}
use Rattle.rules.specs.Schedule.{obey}
use Rattle.rules.specs.Run.{End, commands}
use Rattle.rules.specs.Drain.{Drained, drain, blocking, blocked_at, refusal}
use Rattle.entry.specs.Entry.{entered}
use Rattle.renaming.specs.Entries.{entered_run, ended, settled, ran, ran_memory, Runs, drained, drained_memory, Drains}
use Rattle.rules.proofs.Cases.{OnStep, Cases, apply-cases}
use Rattle.isa.proofs.Formed.{program_formed}
use Rattle.inorder.specs.declared.Ran.{Ran as InOrderRan}
use Rattle.inorder.specs.Machine as Machine
use Rattle.inorder.specs.Entries as InOrder
use Rattle.rules.specs.Schedules.{obeyed}
use Rattle.demands.specs.Agrees.{AgreesWith}
use Rattle.demands.specs.Demand3.{there, in_order}
use Rattle.demands.specs.Demand1.{AreBytes}
use Rattle.demands.specs.RunThenDrain.{Emptied, StoppedAt, SameEnd, RunThenDrain}
use Rattle.demands.proofs.Turns.{on_each, on_accepted, in_turn_lem}
use Rattle.rules.proofs.Accepted.{run_accepts}
use Rattle.demands.proofs.Agreement.{start_sound, run-steps-outcome, demand_3_of_bytes}
use Rattle.demands.proofs.Demand1.{entered-checked, length_passed}
use Rattle.demands.proofs.Words.{bytes_run_words}

-- ---- memory stays as long as it is

abbrev AsLong : List Value → Mach → List Value → Type 0
AsLong m σ' m' = length m' ≡ length m

long_cases : (σ : Mach) (m : List Value) (pre : List Itb) (a : InstrAddr) (post : List Itb)
    → Cases σ m pre a post (λ w r. OnStep (AsLong m) r)
long_cases σ m pre a post =
    record {
      refuses = λ w n. tt;
      operates = λ t n u v. refl;
      forwards = λ t v h. refl;
      commits = λ t v h. refl;
      retires = λ t v f h. refl;
      loads = λ t x v e g. refl;
      stores = λ x v l g. length-set m x v;
      jumps = λ u y ia b. refl;
    }

module _ (prog : List Instr) (σ : Mach) (m : List Value) where
  issue_long_at : (t : Tag) (ia : InstrAddr) (o : Option Instr) → OnStep (AsLong m) (tried (issue_at t σ m ia) (present o))
  issue_long_at t ia none = tt
  issue_long_at t ia (some i) =
      by_test (OnStep (AsLong m)) (leb room (length σ.held)) (λ _. tt)
      (λ _. by_test (OnStep (AsLong m)) (tag_ok σ.held t i) (λ _. refl) (λ _. tt))

  issue_long_from : (t : Tag) (c : Counter) → OnStep (AsLong m) (issue_from t σ m prog c)
  issue_long_from t (At ia) = issue_long_at t ia (get_elem? prog ia.0)
  issue_long_from t Stall = tt

  obey_long : (c : Command) → OnStep (AsLong m) (obey prog c σ m)
  unfolding obey issue
  obey_long Malformed = tt
  obey_long (Issue t) = issue_long_from t σ.counter
  obey_long (Apply r place) = apply-cases (λ ts r. OnStep (AsLong m) r) r place σ m tt (long_cases σ m)

obeyed_long : (prog : List Instr) (cs : List Command) (σ : Mach) (m : List Value) → OnStep (AsLong m) (obeyed prog cs σ m)
obeyed_long prog cs σ m =
    in_turn_lem (obey prog) (λ _. Unit) (λ cs σ m σ' m'. length m' ≡ length m) (λ σ m g. refl)
    (λ c cs σ m g. on_each _ _ (λ τ l h. (tt, λ σ' m' e. e ∙ h)) (obey prog c σ m) (obey_long prog σ m c))
    cs σ m tt

-- ---- what the run leaves passes the checks again

both-whole : (p b : List ℕ) → checked p b ≡ accepted → (is_whole p ≡ true) × (is_whole b ≡ true)
unfolding checked
both-whole p b = go (is_whole p && is_whole b) refl
  where
    go : (t : Bool) → (is_whole p && is_whole b) ≡ t → cond t (first (Program.scan_of p) (Cells.scan_of b)) (refused BadLength 0) ≡ accepted
        → (is_whole p ≡ true) × (is_whole b ≡ true)
    go true e h = (and-eq-true_iff (is_whole p) (is_whole b)).0 e
    go false e h = absurd (cc)

pub image_long : (m : List Value) → length (image m) ≡ 8 * length m
unfolding image
image_long m = Image.length-image (map record_of m) ∙ ap (λ (n : ℕ). 8 * n) (length-map m record_of)

image-whole : (m : List Value) → length m ≤ 1024 → is_whole (image m) ≡ true
image-whole m h =
    let even : length (image m) % 8 ≡ 0 = omega (arith, image_long m) in
    let few : length (image m) ≤ 8192 = omega (arith, image_long m) in
    rw (eq-eqb _ _ even, le-leb _ _ few) refl

few_cells : (b : List ℕ) → is_whole b ≡ true → length (cells b) ≤ 1024
few_cells b e =
    let h = leb-true (length b) 8192 ((and-eq-true_iff (eqb (length b % 8) 0) (leb (length b) 8192)).0 e).1 in
    omega (arith, length-cells b)

checked_again : (p b : List ℕ) → checked p b ≡ accepted → (m : List Value) → Words m → length m ≤ 1024 → checked p (image m) ≡ accepted
unfolding checked
checked_again p b ok m w few = rw ((both-whole p b ok).0, image-whole m few, (checks_say p b ok).program, scan-image m w few) refl

entered_again : (p b : List ℕ) (s : State) → checked p b ≡ accepted → is_sound (length p / 8) s ≡ true → entered p b s ≡ accepted
unfolding entered
entered_again p b s ok sound = rw (ok, sound) refl

-- ---- in the words of the answers

reason_of : {v : Result Unit Fault} {why : Refusal} → v ≡ Err (fault why 0) → (why ≡ IsUndefined) ⊎ (why ≡ Outside)
    → (v ≡ Err (fault IsUndefined 0)) ⊎ (v ≡ Err (fault Outside 0))
reason_of e (inl g) = inl (e ∙ ap (λ (w : Refusal). Err (fault w 0)) g)
reason_of e (inr g) = inr (e ∙ ap (λ (w : Refusal). Err (fault w 0)) g)

module _ (d : Drained) (x : InOrder.End) (n : ℕ) (a : AgreesWith n x d.machine d.memory) where
  when_all : x.executed ≡ n → Emptied (settled d) (InOrder.ended x)
  when_all e =
      let g = a.went e in
      record {
        verdict = ap (λ (ts : List Itb). faulted (blocking d.machine d.memory ts)) g.empty;
        empty = ap (λ (ts : List Itb). length ts) g.empty;
        counter = g.counter;
        registers = g.registers;
      }

  when_fewer : x.executed < n → StoppedAt (settled d) (InOrder.ended x)
  when_fewer l =
      let h = a.halted l in
      let g = h.2 in
      record {
        verdict =
            ap (λ (ts : List Itb). faulted (blocking d.machine d.memory ts)) g.held ∙ ap (λ (t : Step). faulted (refusal t)) g.refusal ∙ sym h.1;
        reason = reason_of h.1 g.reason;
        address = ap blocked_at g.held ∙ g.address;
      }

  same_memory : d.memory ≡ x.memory
  same_memory = by (dec_lt x.executed n)
    where
      by : Dec (x.executed < n) → d.memory ≡ x.memory
      by (yes l) = (a.halted l).2.memory
      by (no l) = let in_all = a.within in (a.went (omega arith)).memory

-- ---- the theorem

module _ (p b records : List ℕ) where
  -- where the run leads, and the drain, and the in-order run
  abbrev e : End
  e = there (program p) (cells b) (commands records)

  abbrev x : InOrder.End
  x = in_order (program p) (cells b) (commands records)

  abbrev d : Drained
  d = drain e.machine e.memory

  drain_agrees : AgreesWith e.issued x d.machine d.memory
  drain_agrees =
      let t = demand_3_of_bytes p (cells b) (commands records) in
      t.agrees t.drains.0 d.machine d.memory t.drains.1.leaves t.stuck

  answers_agree : SameEnd (ended e) (settled d) (image d.memory) (InOrder.ended x) (image x.memory)
  answers_agree =
      let a = drain_agrees in
      record {
        within = a.within;
        went = when_all d x e.issued a;
        halted = when_fewer d x e.issued a;
        memory = ap image (same_memory d x e.issued a);
      }

  module _ (small-p : AreBytes p) (small_b : AreBytes b) (ok : entered_run p b (state_of start) records ≡ accepted) where
    passes : checked p b ≡ accepted
    passes = entered-checked p b (state_of start) (length_passed (eqb (length records % 4) 0) (entered p b (state_of start)) ok)

    words : Words e.memory
    words =
        let h = leb-true (length p) 8192 ((and-eq-true_iff (eqb (length p % 8) 0) (leb (length p) 8192)).0 (both-whole p b passes).0).1 in
        bytes_run_words p b small-p small_b (omega (arith, length-program p (checked-program p b refl passes))) (commands records)

    machine_sound : Sound (length p / 8) e.machine
    machine_sound =
        rw (← length-program p (checked-program p b refl passes))
        (run-steps-outcome (program p) (program_formed p) (commands records) start (cells b) (start_sound _)).1

    memory_few : length e.memory ≤ 1024
    memory_few =
        let r = run_accepts (program p) (commands records) start (cells b) in
        let same : length e.memory ≡ length (cells b) = on_accepted (AsLong (cells b)) r.allowed (obeyed_long (program p) (take e.accepted (commands records)) start (cells b)) in
        omega (arith, few_cells b (both-whole p b passes).1)

    enters : entered p (image e.memory) (state_of e.machine) ≡ accepted
    enters =
        entered_again p (image e.memory) (state_of e.machine) (checked_again p b passes e.memory words memory_few)
        (sound_state (length p / 8) e.machine machine_sound)

    run_comes_to : (r : Ran) (b' : List ℕ) → Runs p (state_of start) b records r b' → (r ≡ ended e) × (b' ≡ image e.memory)
    unfolding ran ran_memory
    run_comes_to r b' g =
        let v = entered_run p b (state_of start) records in
        (g.answer ∙ works v refl ok _ _, g.bytes ∙ works v refl ok _ b)

    drain_comes_to : (r : Settled) (b'' : List ℕ) → Drains p (state_of e.machine) (image e.memory) r b'' → (r ≡ settled d) × (b'' ≡ image d.memory)
    unfolding drained drained_memory
    drain_comes_to r b'' g =
        let v = entered p (image e.memory) (state_of e.machine) in
        let same : drain (mach_of (state_of e.machine)) (cells (image e.memory)) ≡ d = ap₂ drain (mach_of-state_of e.machine) (cells-image e.memory words) in
        (g.answer ∙ works v refl enters _ _ ∙ ap settled same, g.bytes ∙ works v refl enters _ _ ∙ ap (λ (y : Drained). image y.memory) same)

    in_order_comes_to : (q : InOrderRan) (c : List ℕ) → InOrder.Runs p Machine.start b e.issued q c → (q ≡ InOrder.ended x) × (c ≡ image x.memory)
    unfolding InOrder.ran InOrder.ran_memory
    in_order_comes_to q c g = (g.answer ∙ works (checked p b) refl passes _ _, g.bytes ∙ works (checked p b) refl passes _ b)

    ends_alike : (r : Ran) (b' : List ℕ) → Runs p (state_of start) b records r b' → (s : Settled) (b'' : List ℕ) → Drains p r.state b' s b''
        → (q : InOrderRan) (c : List ℕ) → InOrder.Runs p Machine.start b r.issued q c → SameEnd r s b'' q c
    ends_alike r b' g s b'' h q c k =
        let one = run_comes_to r b' g in
        let two = drain_comes_to s b'' (rw (one.0, one.1) at h) in
        let three = in_order_comes_to q c (rw one.0 at k) in
        rw (one.0, two.0, two.1, three.0, three.1) answers_agree

pub run_then_drain : (p b records : List ℕ) → RunThenDrain p b records
run_then_drain p b records small-p small_b ok = ends_alike p b records small-p small_b ok
