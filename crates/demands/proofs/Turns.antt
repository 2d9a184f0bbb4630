-- Rules in turn: what each keeps, all keep.
use Prim.Native.Nat.{ℕ, ◌+◌, ◌*◌, ◌≤◌}
use native.Mathlib.Numerals.{add-one}
use native.Mathlib.Omega.{arith}
use mathlib.Core.Path.{◌≡◌, refl, ap, ◌∙◌}
use mathlib.Core.List.{List, [], ◌∷◌}
use lib.ListN.{length}
use Rattle.value.specs.declared.Value.{Value}
use Rattle.isa.specs.declared.Instr.{Instr}
use Rattle.kernel.specs.Kernel.{Run}
use Rattle.templates.specs.Machine.{Mach}
use Rattle.sound.proofs.Soundness.{Sound}
use Rattle.rules.specs.declared.Command.{Command}
use Rattle.rules.specs.declared.Command.TheVariants.{Malformed, Issue, Apply}
use Rattle.rules.specs.Rules.{Step, accepted, refused}
use Rattle.rules.specs.Schedule.{obey}
use Rattle.rules.specs.Run.{counted}
use Rattle.rules.proofs.Cases.{OnStep}
use Rattle.isa.proofs.Formed.{AllFormed}
use Rattle.rules.proofs.Keeping.{apply_keeps_sound, obey_keeps_sound}
use Rattle.inorder.specs.declared.Register.{Register}
use Rattle.inorder.specs.Machine.{steps}
use Rattle.rules.specs.Moves.{Move, move, and_then, in_turn, continued}
use Rattle.rules.specs.Schedules.{obeyed, issues}
use Rattle.demands.proofs.Flush.{outcome}
use Rattle.demands.proofs.Keeps.{apply_keeps_outcome}
use Rattle.demands.proofs.Follows.{issue-steps-outcome}
use Rattle.demands.proofs.Weight.{weight, at_most_four_each}
use Rattle.demands.proofs.Lowering.{apply_lowers_weight}

-- ---- what an accepted rule leaves

pub on_each : (P Q : Mach → List Value → Type 0) → ((σ : Mach) (m : List Value) → P σ m → Q σ m) → (r : Step) → OnStep P r → OnStep Q r
on_each P Q f (accepted σ m) h = f σ m h
on_each P Q f (refused n) h = tt

pub on_both : (P Q : Mach → List Value → Type 0) (r : Step) → OnStep P r → OnStep Q r → OnStep (λ σ m. P σ m × Q σ m) r
on_both P Q (accepted σ m) h g = (h, g)
on_both P Q (refused n) h g = tt

pub on_accepted : (P : Mach → List Value → Type 0) {r : Step} {σ : Mach} {m : List Value} → r ≡ accepted σ m → OnStep P r → P σ m
on_accepted P e h = rw e at h

-- ---- in turn

-- R xs relates a machine and memory to what xs leave of them; G holds of each machine on the way
module _ {A : Type 0} (f : A → Mach → List Value → Step) (G : Mach → Type 0) (R : List A → Mach → List Value → Mach → List Value → Type 0) where
  -- from what x leaves
  abbrev Then : A → List A → Mach → List Value → Mach → List Value → Type 0
  Then x xs σ m τ l = G τ × ((σ' : Mach) (m' : List Value) → R xs τ l σ' m' → R (x ∷ xs) σ m σ' m')

  module _ (none : (σ : Mach) (m : List Value) → G σ → R [] σ m σ m)
      (one : (x : A) (xs : List A) (σ : Mach) (m : List Value) → G σ → OnStep (Then x xs σ m) (f x σ m)) where
    pub in_turn_lem : (xs : List A) (σ : Mach) (m : List Value) → G σ → OnStep (R xs σ m) (in_turn f xs σ m)
    in_turn_lem [] σ m g = none σ m g
    in_turn_lem (x ∷ xs) σ m g = after_first (f x σ m) (one x xs σ m g) (λ τ l h. in_turn_lem xs τ l h)
      where
        after_first : (r : Step) → OnStep (Then x xs σ m) r → ((τ : Mach) (l : List Value) → G τ → OnStep (R xs τ l) (in_turn f xs τ l))
            → OnStep (R (x ∷ xs) σ m) (and_then (λ τ l. in_turn f xs τ l) r)
        after_first (accepted τ l) h rest = on_each (R xs τ l) (R (x ∷ xs) σ m) h.1 (in_turn f xs τ l) (rest τ l h.0)
        after_first (refused n) h rest = tt

-- ---- rules other than issue

-- they leave the outcome, and the machine sound
pub continued_keeps : (k : ℕ) (vs : List Move) (σ : Mach) (m : List Value) → Sound k σ
    → OnStep (λ σ' m'. (outcome σ' m' ≡ outcome σ m) × Sound k σ') (continued vs σ m)
continued_keeps k =
    in_turn_lem move (Sound k) (λ vs σ m σ' m'. (outcome σ' m' ≡ outcome σ m) × Sound k σ') (λ σ m s. (refl, s))
    (λ v vs σ m s.
    on_each _ _ (λ τ l h. (h.1, λ σ' m' g. (g.0 ∙ h.0, g.1))) (move v σ m)
    (on_both _ _ (move v σ m) (apply_keeps_outcome k v.rule v.place σ m s) (apply_keeps_sound k v.rule v.place σ m s)))

-- each lowers the weight
pub continued_lowers : (vs : List Move) (σ : Mach) (m : List Value) → OnStep (λ σ' m'. length vs + weight σ' ≤ weight σ) (continued vs σ m)
continued_lowers vs σ m =
    in_turn_lem move (λ σ. Unit) (λ vs σ m σ' m'. length vs + weight σ' ≤ weight σ) (λ σ m g. omega arith)
    (λ v vs σ m g. on_each _ _ (λ τ l h. (tt, λ σ' m' i. omega arith)) (move v σ m) (apply_lowers_weight v.rule v.place σ m))
    vs σ m tt

-- so there are at most four for each template then held
pub continued_bounded : (vs : List Move) (σ : Mach) (m : List Value) {σ' : Mach} {m' : List Value} → continued vs σ m ≡ accepted σ' m'
    → length vs ≤ 4 * length σ.held
continued_bounded vs σ m e = omega (arith, on_accepted _ e (continued_lowers vs σ m), at_most_four_each σ.registers σ.held)

-- ---- the records of a schedule

module _ (prog : List Instr) (formed : AllFormed prog) where
  -- what one of them does to the outcome
  abbrev stepped_by : Command → Run (List Register) → Run (List Register)
  stepped_by c o = steps prog (counted c 0) o

  obey-steps : (c : Command) (σ : Mach) (m : List Value) → Sound (length prog) σ → OnStep (λ τ l. outcome τ l ≡ stepped_by c (outcome σ m)) (obey prog c σ m)
  unfolding obey
  obey-steps Malformed σ m s = tt
  obey-steps (Issue t) σ m s = issue-steps-outcome prog t σ m s
  obey-steps (Apply r place) σ m s = apply_keeps_outcome (length prog) r place σ m s

  steps-counted : (c : Command) (n : ℕ) (o : Run (List Register)) → steps prog n (stepped_by c o) ≡ steps prog (counted c n) o
  steps-counted Malformed n o = refl
  steps-counted (Issue t) n o = rw (add-one n) refl
  steps-counted (Apply r place) n o = refl

  -- the outcome is as many in-order steps longer as there are issues, and the machine stays sound
  pub obeyed-steps : (cs : List Command) (σ : Mach) (m : List Value) → Sound (length prog) σ
      → OnStep (λ σ' m'. (outcome σ' m' ≡ steps prog (issues cs) (outcome σ m)) × Sound (length prog) σ') (obeyed prog cs σ m)
  obeyed-steps =
      in_turn_lem (obey prog) (Sound (length prog)) (λ cs σ m σ' m'. (outcome σ' m' ≡ steps prog (issues cs) (outcome σ m)) × Sound (length prog) σ')
      (λ σ m s. (refl, s))
      (λ c cs σ m s.
      on_each _ _ (λ τ l h. (h.1, λ σ' m' g. (g.0 ∙ ap (steps prog (issues cs)) h.0 ∙ steps-counted c (issues cs) (outcome σ m), g.1))) (obey prog c σ m)
      (on_both _ _ (obey prog c σ m) (obey-steps c σ m s) (obey_keeps_sound prog formed σ m s c)))
