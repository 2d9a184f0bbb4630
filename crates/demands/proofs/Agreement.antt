-- Demand 3, for any program whose instructions are well formed, any memory and any schedule.
use Prim.Native.Nat.{ℕ, zero, suc, ◌+◌}
use native.Mathlib.Omega.{arith}
use mathlib.Core.Path.{◌≡◌, refl, sym, ap, ◌∙◌}
use mathlib.Core.List.{List, map}
use lib.ListN.{length, take, replicate}
use Rattle.value.specs.declared.Value.{Value}
use Rattle.value.specs.declared.Value.TheVariants.{Undefined}
use Rattle.isa.specs.declared.Instr.{Instr}
use Rattle.isa.specs.Instruction.{registers}
use Rattle.isa.specs.Program.{program}
use Rattle.kernel.specs.Kernel.{Run, going, stopped}
use Rattle.templates.specs.declared.Operand.TheVariants.{Known}
use Rattle.templates.specs.declared.Counter.TheVariants.{At}
use Rattle.templates.specs.Templates.{register}
use Rattle.templates.specs.Machine.{Mach, start}
use Rattle.sound.specs.Sound as Sound
use Rattle.sound.proofs.Soundness.{RegistersOk, Sound}
use Rattle.rules.specs.declared.Command.{Command}
use Rattle.rules.specs.Rules.{accepted}
use Rattle.rules.specs.Run.{End, run}
use Rattle.isa.proofs.Formed.{AllFormed, program_formed}
use Rattle.inorder.specs.declared.Register.{Register}
use Rattle.inorder.specs.Machine.{steps}
use Rattle.inorder.specs.Machine as Machine
use Rattle.inorder.specs.Entries as InOrder
use Rattle.inorder.proofs.Laws.{CameTo, run_is_steps}
use Rattle.rules.specs.Moves.{Move, Stuck, continued}
use Rattle.demands.specs.Agrees.{valued, Agrees, AgreesWith}
use Rattle.demands.specs.Demand3.{there, in_order, Demand3}
use Rattle.demands.proofs.Flush.{outcome}
use Rattle.demands.proofs.Ending.{stuck_agrees}
use Rattle.demands.proofs.Turns.{on_accepted, continued_keeps, continued_bounded, obeyed-steps}
use Rattle.rules.proofs.Accepted.{run_accepts, allowed_accepted}
use Rattle.demands.proofs.Draining.{drains, drain_stuck}
use Rattle.demands.proofs.Simulates.{rewrites_obeyed}

-- ---- the start

undefined_ok : (n : ℕ) → RegistersOk Sound.none (replicate n (register (Known Undefined)))
undefined_ok zero = tt
undefined_ok (suc n) = (tt, tt, undefined_ok n)

pub start_sound : (k : ℕ) → Sound k start
start_sound k = record { few = omega arith; templates = tt; registers = undefined_ok registers; counter = refl }

-- ---- in the words of the in-order run

with-run : (n : ℕ) (x : InOrder.End) (t : Run (List Register)) (σ : Mach) (m : List Value) → CameTo 0 n x t → Agrees t σ m → AgreesWith n x σ m
with-run n x (going rf ia l) σ m c a =
    let all : x.executed ≡ 0 + n = ap (λ (e : InOrder.End). e.executed) c in
    record {
      within = omega arith;
      went = λ _.
          record {
            empty = a.empty;
            counter = a.counter ∙ ap (λ (e : InOrder.End). At e.machine.counter) (sym c);
            registers = a.registers ∙ ap (λ (e : InOrder.End). map valued e.machine.registers) (sym c);
            memory = a.memory ∙ ap (λ (e : InOrder.End). e.memory) (sym c);
          };
      halted = λ l. absurd (omega arith);
    }
with-run n x (stopped ia why l) σ m c a =
    let fewer = c.3 in
    record {
      within = omega arith;
      went = λ e. absurd (omega arith);
      halted = λ _. (why, c.1, rw (c.0, c.2) a);
    }

-- ---- the whole

-- the outcome after the accepted part is as many in-order steps longer as were issued
pub run-steps-outcome : (prog : List Instr) → AllFormed prog → (cs : List Command) (σ : Mach) (m : List Value) → Sound (length prog) σ
    → let e = run prog cs σ m in (outcome e.machine e.memory ≡ steps prog e.issued (outcome σ m)) × Sound (length prog) e.machine
run-steps-outcome prog formed cs σ m s =
    let e = run prog cs σ m in
    let r = run_accepts prog cs σ m in
    let g = on_accepted _ r.allowed (obeyed-steps prog formed (take e.accepted cs) σ m s) in
    (g.0 ∙ ap (λ (n : ℕ). steps prog n (outcome σ m)) (sym r.issued), g.1)

module _ (prog : List Instr) (formed : AllFormed prog) (m : List Value) (cs : List Command) where
  abbrev here : End
  here = there prog m cs

  abbrev stepped : Run (List Register)
  stepped = steps prog here.issued (going (Machine.start).registers (Machine.start).counter m)

  reached : (outcome here.machine here.memory ≡ stepped) × Sound (length prog) here.machine
  reached = run-steps-outcome prog formed cs start m (start_sound (length prog))

  pub continued_agrees : (vs : List Move) (σ : Mach) (m' : List Value) → continued vs here.machine here.memory ≡ accepted σ m' → Stuck σ m'
      → Agrees stepped σ m'
  continued_agrees vs σ m' e f =
      let g = on_accepted _ e (continued_keeps (length prog) vs here.machine here.memory reached.1) in
      rw (← (g.0 ∙ reached.0)) (stuck_agrees (length prog) σ m' g.1 f)

  pub demand_3 : Demand3 prog m cs
  demand_3 =
      record {
        ran = run_accepts prog cs start m;
        accepts = λ σ m' e. allowed_accepted prog cs start m e;
        accepts_memo = λ σ m' r. allowed_accepted prog cs start m (rewrites_obeyed prog r);
        bounded = λ vs σ m' e. continued_bounded vs here.machine here.memory e;
        agrees = λ vs σ m' e f.
            with-run here.issued (in_order prog m cs) stepped σ m' (run_is_steps prog here.issued Machine.start 0 m) (continued_agrees vs σ m' e f);
        drains = drains here.machine here.memory reached.1.few;
        stuck = drain_stuck here.machine here.memory reached.1.few;
      }

-- whatever the bytes of a program
pub demand_3_of_bytes : (b : List ℕ) (m : List Value) (cs : List Command) → Demand3 (program b) m cs
demand_3_of_bytes b = demand_3 (program b) (program_formed b)
