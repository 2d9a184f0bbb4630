-- The drain's next rule keeps a sound machine sound, as every rule does; and so do a run and a drain.
use Prim.Native.Nat.{ℕ, zero, suc, ◌+◌}
use mathlib.Core.List.{List, [], ◌∷◌}
use lib.ListN.{length}
use Rattle.std.specs.Prelude.{Err}
use Rattle.value.specs.declared.Value.{Value}
use Rattle.isa.specs.declared.Instr.{Instr}
use Rattle.templates.specs.Machine.{Mach}
use Rattle.sound.proofs.Soundness.{Sound}
use Rattle.rules.specs.declared.Rule.{Rule}
use Rattle.rules.specs.declared.Command.{Command}
use Rattle.rules.specs.Rules.{Step, accepted, refused, apply}
use Rattle.rules.specs.Schedule.{obey}
use Rattle.rules.specs.Run.{counted, proceed, run_from}
use Rattle.rules.specs.Drain.{first, rules, first_of, seek, oldest, further, drain_from}
use Rattle.isa.proofs.Formed.{AllFormed}
use Rattle.rules.proofs.Keeping.{StaysSound, apply_keeps_sound, obey_keeps_sound}

-- ---- the drain's next rule

module _ (k : ℕ) (σ : Mach) (m : List Value) (s : Sound k σ) where
  first_keeps_sound : (a b : Step) → StaysSound k a → StaysSound k b → StaysSound k (first a b)
  first_keeps_sound (accepted τ l) b p q = p
  first_keeps_sound (refused n) b p q = q

  first_of_keeps_sound : (rs : List Rule) (place : ℕ) → StaysSound k (first_of rs place σ m)
  first_of_keeps_sound [] place = tt
  first_of_keeps_sound (r ∷ rs) place =
      first_keeps_sound (apply r place σ m) (first_of rs place σ m) (apply_keeps_sound k r place σ m s) (first_of_keeps_sound rs place)

  seek_keeps_sound : (n place : ℕ) → StaysSound k (seek n place σ m)
  seek_keeps_sound zero place = tt
  seek_keeps_sound (suc n) place =
      first_keeps_sound (first_of rules place σ m) (seek n (suc place) σ m) (first_of_keeps_sound rules place) (seek_keeps_sound n (suc place))

  oldest_keeps_sound : StaysSound k (oldest σ m)
  unfolding oldest
  oldest_keeps_sound = seek_keeps_sound (length σ.held) 0

-- ---- a drain and a run

pub drain_keeps_sound : (k fuel n : ℕ) (σ : Mach) (m : List Value) → Sound k σ → Sound k (drain_from fuel n σ m).machine
unfolding drain_from
drain_keeps_sound k zero n σ m s = s
drain_keeps_sound k (suc fuel) n σ m s = next (oldest σ m) (oldest_keeps_sound k σ m s) (λ τ l. drain_keeps_sound k fuel (n + 1) τ l)
  where
    next : (r : Step) → StaysSound k r → ((τ : Mach) (l : List Value) → Sound k τ → Sound k (drain_from fuel (n + 1) τ l).machine)
        → Sound k (further (λ τ l. drain_from fuel (n + 1) τ l) (record { rules = n; machine = σ; memory = m }) r).machine
    next (accepted τ l) h rest = rest τ l h
    next (refused i) h rest = s

pub run_keeps_sound : (prog : List Instr) → AllFormed prog → (cs : List Command) (n k : ℕ) (σ : Mach) (m : List Value) → Sound (length prog) σ
    → Sound (length prog) (run_from prog cs n k σ m).machine
unfolding run_from
run_keeps_sound prog f [] n k σ m s = s
run_keeps_sound prog f (c ∷ cs) n k σ m s = next (obey prog c σ m) (obey_keeps_sound prog f σ m s c) (λ τ l. run_keeps_sound prog f cs (n + 1) (counted c k) τ l)
  where
    next : (r : Step) → StaysSound (length prog) r
        → ((τ : Mach) (l : List Value) → Sound (length prog) τ → Sound (length prog) (run_from prog cs (n + 1) (counted c k) τ l).machine)
        → Sound (length prog)
        (proceed (λ τ l. run_from prog cs (n + 1) (counted c k) τ l) (λ why. record { accepted = n; issued = k; verdict = Err why; machine = σ; memory = m }) r).machine
    next (accepted τ l) h rest = rest τ l h
    next (refused why) h rest = s
