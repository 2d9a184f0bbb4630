-- The renaming machine's entry check.
use Rattle.std.specs.Prelude.{◌≡◌, ℕ, ◌/◌, cond, List, length, Result}
use Rattle.records.specs.declared.Fault.{Fault}
use Rattle.records.specs.declared.Refusal.TheVariants.{Unsound}
use Rattle.records.specs.Scan.{refused, accepted}
use Rattle.kernel.specs.Checks.{first, checked}
use Rattle.templates.specs.declared.State.{State}
use Rattle.templates.specs.Layout.{places}
use Rattle.sound.specs.Sound.{is_sound}

-- refusals 1 to 4 of a program, a memory and a state
unfoldable pub entered : List ℕ → List ℕ → State → Result Unit Fault
entered p b s = first (checked p b) (cond (is_sound (length p / 8) s) accepted (refused Unsound 0))

-- the verdict, of a state whose table has its places
pub record Enters (p b : List ℕ) (s : State) (v : Result Unit Fault) : Type 0 where
  pub verdict : v ≡ entered p b s
  -- of the state that was handed in: those who call need it
  pub long : length s.templates ≡ places
