-- The public drain of a state that passes the checks ends where nothing but issue is allowed, and names what blocks it.
use Prim.Native.Nat.{ℕ, suc, ◌/◌}
use native.Mathlib.Omega.{arith}
use mathlib.Core.Path.{◌≡◌, refl, sym, ap, ◌∙◌}
use mathlib.Core.Logic.{◌⊎◌, inl, inr}
use mathlib.Core.List.{List, []}
use lib.Dec.{ltb}
use lib.ListN.{length, take, drop, get_or}
use Rattle.std.specs.Prelude.{Err}
use Rattle.records.specs.declared.Refusal.{Refusal}
use Rattle.records.specs.Refusal.{fault, faulted}
use Rattle.records.specs.Scan as Scan
use Rattle.value.specs.declared.Value.{Value}
use Rattle.value.specs.declared.Value.TheVariants.{Undefined, Word}
use Rattle.cells.specs.Cells.{cells, image}
use Rattle.cells.proofs.Memory.{length-cells}
use Rattle.kernel.specs.Kernel.{Run, going, stopped}
use Rattle.kernel.proofs.Checking.{works}
use Rattle.templates.specs.declared.Work.{Work}
use Rattle.templates.specs.declared.State.{State}
use Rattle.templates.specs.Templates.{operand_at}
use Rattle.templates.specs.Machine.{Itb, nothing, Mach}
use Rattle.templates.specs.Layout.{mach_of}
use Rattle.templates.proofs.Places.{mach_of-state_of, held-length}
use Rattle.sound.proofs.Soundness.{Sound}
use Rattle.sound.proofs.Decides.{sound_said}
use Rattle.rules.specs.declared.Rule.{Rule}
use Rattle.rules.specs.declared.Command.TheVariants.{Apply}
use Rattle.rules.specs.Rules.{Step, accepted, refused, apply}
use Rattle.rules.specs.Schedule.{obey}
use Rattle.rules.specs.Drain.{Drained, drain, asks, refusal, blocking, blocked_at}
use Rattle.entry.specs.Entry.{entered}
use Rattle.renaming.specs.Entries.{settled, drained, drained_memory}
use Rattle.renaming.proofs.Fitting.{entered-fit}
use Rattle.inorder.specs.declared.Register.{Register}
use Rattle.rules.specs.Moves.{move, Refused, Stuck}
use Rattle.demands.specs.Agrees.{Blocked, Agrees}
use Rattle.demands.specs.Conditions.{value_in, is_within, needs}
use Rattle.demands.specs.DrainAnswers.{DrainAnswers}
use Rattle.demands.proofs.Flush.{outcome}
use Rattle.demands.proofs.Conditions.{refused-first}
use Rattle.demands.proofs.Ending.{stuck_agrees}
use Rattle.demands.proofs.Draining.{drain_stuck, drain_bounded}
use Rattle.demands.proofs.Projects.{drain_keeps}
use Rattle.demands.proofs.RunThenDrain.{image_long}

-- ---- what is refused depends on memory's length alone

module _ (σ : Mach) (m m' : List Value) (e : length m ≡ length m') where
  within_alike : (v : Value) → is_within m v ≡ is_within m' v
  within_alike Undefined = refl
  within_alike (Word w) = ap (ltb w) e

  needs_alike : (pre post : List Itb) (w : Work) (r : Rule) → needs σ m pre post w r ≡ needs σ m' pre post w r
  needs_alike pre post w Rule.Operate = refl
  needs_alike pre post w Rule.Forward = refl
  needs_alike pre post w Rule.Commit = refl
  needs_alike pre post w Rule.Retire = refl
  needs_alike pre post w Rule.Load = rw (within_alike (value_in (operand_at w 0))) refl
  needs_alike pre post w Rule.Store = rw (within_alike (value_in (operand_at w 0))) refl
  needs_alike pre post w Rule.Jump = refl
  needs_alike pre post w Rule.NoJump = refl

  refused_alike : (r : Rule) (k : ℕ) (n : Refusal) → apply r k σ m ≡ refused n → apply r k σ m' ≡ refused n
  unfolding obey
  refused_alike r k n h =
      let same = needs_alike (take k σ.held) (drop (suc k) σ.held) (get_or σ.held k nothing).work r in
      (refused-first [] σ m' (Apply r k) n).1
      (rw same at (refused-first [] σ m (Apply r k) n).0 h)

  stuck_alike : Stuck σ m → Stuck σ m'
  stuck_alike f v = by (move v σ m) refl (f v)
    where
      by : (t : Step) → move v σ m ≡ t → Refused t → Refused (move v σ m')
      by (accepted τ l) h g = absurd g
      by (refused n) h g = rw (refused_alike v.rule v.place n h) tt

-- ---- the drain of a sound machine, and the memory of its bytes

module _ (k : ℕ) (σ : Mach) (m : List Value) (s : Sound k σ) where
  abbrev d : Drained
  d = drain σ m

  abbrev after : List Value
  after = cells (image d.memory)

  as_long : length after ≡ length d.memory
  as_long = omega (arith, length-cells (image d.memory), image_long d.memory)

  halts : Stuck d.machine after
  halts = stuck_alike d.machine d.memory after (sym as_long) (drain_stuck σ m s.few)

  abbrev Ends : Type 0
  Ends = (((settled d).state.count ≡ 0) × ((settled d).verdict ≡ Scan.accepted))
      ⊎ ((why : Refusal) × ((settled d).verdict ≡ Err (fault why 0)) × Blocked (settled d).address why after d.machine after)

  says : (o : Run (List Register)) → Agrees o d.machine after → Ends
  says (going rf ia l) g = inl (ap (λ (ts : List Itb). length ts) g.empty, ap (λ (ts : List Itb). faulted (blocking d.machine d.memory ts)) g.empty)
  says (stopped ia why l) g =
      let verdict : (settled d).verdict ≡ Err (fault why 0) =
      ap (λ (ts : List Itb). faulted (blocking d.machine d.memory ts)) g.held
      ∙ ap (λ (t : Step). faulted (refusal t)) (refused_alike d.machine after d.memory as_long (asks g.oldest.work) 0 why g.refusal) in
      inr (
        why,
        verdict,
        record {
          oldest = g.oldest;
          later = g.later;
          held = g.held;
          kind = g.kind;
          address = sym (ap blocked_at g.held);
          refusal = g.refusal;
          reason = g.reason;
          memory = refl;
        },
      )

  ends : Ends
  ends = says (outcome d.machine after) (stuck_agrees k d.machine after (drain_keeps k σ m s).1 halts)

-- ---- the theorem

pub drain_answers : (p : List ℕ) (s : State) (b : List ℕ) → DrainAnswers p s b
unfolding drained drained_memory
drain_answers p s b long ok r b' g =
    let fit = entered-fit p b s (record { verdict = refl; long = long }) ok in
    let sound = (sound_said (length p / 8) (mach_of s)).holds fit.sound in
    let e = drain (mach_of s) (cells b) in
    let same = mach_of-state_of e.machine in
    rw (g.answer ∙ works (entered p b s) refl ok _ _, g.bytes ∙ works (entered p b s) refl ok _ b)
    (record {
      bounded = omega (arith, drain_bounded (mach_of s) (cells b) sound.few, held-length s fit.laid);
      stuck = rw same (halts (length p / 8) (mach_of s) (cells b) sound);
      answer = rw same (ends (length p / 8) (mach_of s) (cells b) sound);
    })
