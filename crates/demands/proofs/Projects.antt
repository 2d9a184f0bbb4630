-- The memo's Theorem 2: what the drain leaves takes an in-order step at an issue, and none at any other rule.
use Prim.Native.Nat.{ℕ}
use mathlib.Core.Path.{◌≡◌, sym, ap, ap₂, ◌∙◌}
use mathlib.Core.Bool.{true}
use mathlib.Core.List.{List, ◌∷◌}
use lib.ListN.{length}
use Rattle.value.specs.declared.Value.{Value}
use Rattle.isa.specs.declared.Tag.{Tag}
use Rattle.isa.specs.declared.Instr.{Instr}
use Rattle.isa.specs.Program.{program}
use Rattle.kernel.specs.Kernel.{going}
use Rattle.templates.specs.Machine.{Mach}
use Rattle.sound.specs.Sound.{sound_mach}
use Rattle.sound.proofs.Soundness.{Sound}
use Rattle.sound.proofs.Decides.{sound_said}
use Rattle.rules.specs.declared.Rule.{Rule}
use Rattle.rules.specs.declared.Command.TheVariants.{Issue, Apply}
use Rattle.rules.specs.Rules.{accepted, issue, apply}
use Rattle.rules.specs.Schedule.{obey}
use Rattle.rules.specs.Drain.{drain}
use Rattle.isa.proofs.Formed.{AllFormed, program_formed}
use Rattle.rules.proofs.Keeping.{apply_keeps_sound, issue_keeps_sound}
use Rattle.inorder.specs.declared.InOrder.{InOrder}
use Rattle.inorder.specs.Machine.{step, once}
use Rattle.rules.specs.Moves.{Move, and_then, continued}
use Rattle.demands.specs.Agrees.{Agrees}
use Rattle.demands.specs.Memo.{Renames}
use Rattle.demands.specs.Simulates.{ITBF, Theorem2}
use Rattle.demands.proofs.Flush.{outcome}
use Rattle.demands.proofs.Follows.{issue-steps-outcome}
use Rattle.demands.proofs.Ending.{stuck_agrees}
use Rattle.demands.proofs.Turns.{on_accepted, continued_keeps}
use Rattle.demands.proofs.Draining.{drains, drain_stuck}
use Rattle.demands.proofs.Confluence.{ends_as_drain}
use Rattle.demands.proofs.Memo.{memo_accepted}
use Rattle.demands.proofs.MemoBase.{goes_exactly}
use Rattle.demands.proofs.Simulates.{itbl-outcome}

-- ---- the drain keeps the outcome

module _ (k : ℕ) (σ : Mach) (m : List Value) (s : Sound k σ) where
  pub drain_keeps : (outcome (drain σ m).machine (drain σ m).memory ≡ outcome σ m) × Sound k (drain σ m).machine
  drain_keeps = let d = drains σ m s.few in on_accepted _ d.1.leaves (continued_keeps k d.0 σ m s)

  drain_agrees : Agrees (outcome σ m) (drain σ m).machine (drain σ m).memory
  drain_agrees =
      rw (← drain_keeps.0)
      (stuck_agrees k (drain σ m).machine (drain σ m).memory drain_keeps.1 (drain_stuck σ m s.few))

  itbf_outcome : (a : InOrder) (l : List Value) → ITBF σ m a l → outcome σ m ≡ going a.registers a.counter l
  itbf_outcome a l f = sym drain_keeps.0 ∙ ap₂ outcome f.machine f.memory ∙ itbl-outcome a l

-- ---- the rules

module _ (prog : List Instr) (formed : AllFormed prog) (σ : Mach) (m : List Value) (s : Sound (length prog) σ) where
  module _ (t : Tag) (σ' : Mach) (m' : List Value) (x : Renames prog σ m (Issue t) σ' m') where
    issues_it : issue prog t σ m ≡ accepted σ' m'
    unfolding obey
    issues_it = memo_accepted prog x

    sound_after : Sound (length prog) σ'
    sound_after = on_accepted _ issues_it (issue_keeps_sound prog formed σ m s t)

    -- the outcome is the in-order step
    stepped : (a : InOrder) (l : List Value) → ITBF σ m a l → outcome σ' m' ≡ once prog a l
    stepped a l f = on_accepted _ issues_it (issue-steps-outcome prog t σ m s) ∙ ap (step prog) (itbf_outcome (length prog) σ m s a l f)

  module _ (r : Rule) (place : ℕ) (σ' : Mach) (m' : List Value) (x : Renames prog σ m (Apply r place) σ' m') where
    applies_it : apply r place σ m ≡ accepted σ' m'
    unfolding obey
    applies_it = memo_accepted prog x

    -- the rule and the drain after it end where the drain does
    same_end : ((drain σ' m').machine ≡ (drain σ m).machine) × ((drain σ' m').memory ≡ (drain σ m).memory)
    same_end =
        let few = (on_accepted _ applies_it (apply_keeps_sound (length prog) r place σ m s)).few in
        let d = drains σ' m' few in
        let v : Move = record { rule = r; place = place } in
        ends_as_drain (length prog) σ m s (v ∷ d.0) (drain σ' m').machine (drain σ' m').memory
        (ap (and_then (λ τ l. continued d.0 τ l)) applies_it ∙ d.1.leaves) (drain_stuck σ' m' few)

  sound_theorem_2 : Theorem2 prog σ m
  sound_theorem_2 =
      record {
        issues = λ t σ' m' s₁ s₂ m₁ m₂ x f g.
            (goes_exactly prog s₁ m₁ s₂ m₂).0 (sym (stepped t σ' m' x s₁ m₁ f) ∙ itbf_outcome (length prog) σ' m' (sound_after t σ' m' x) s₂ m₂ g);
        others = same_end;
        agrees = λ t σ' m' a l x f.
            rw (← stepped t σ' m' x a l f)
            (drain_agrees (length prog) σ' m' (sound_after t σ' m' x));
      }

-- of every sound machine
pub theorem_2 : (prog : List Instr) → AllFormed prog → (σ : Mach) (m : List Value) → sound_mach (length prog) σ ≡ true → Theorem2 prog σ m
theorem_2 prog formed σ m e = sound_theorem_2 prog formed σ m ((sound_said (length prog) σ).holds e)

pub theorem_2_of_bytes : (b : List ℕ) (σ : Mach) (m : List Value) → sound_mach (length (program b)) σ ≡ true → Theorem2 (program b) σ m
theorem_2_of_bytes b = theorem_2 (program b) (program_formed b)
