-- What an entry answers for a rule on the machine without blanks, through the layout.
use Rattle.std.specs.Prelude.{ℕ, ◌/◌, ◌≡◌, true, List, length, Result, Ok, Err}
use Rattle.records.specs.declared.Refusal.{Refusal}
use Rattle.value.specs.declared.Value.{Value}
use Rattle.templates.specs.declared.State.{State}
use Rattle.templates.specs.Machine.{Mach}
use Rattle.templates.specs.Layout.{mach_of, state_of, Laid}
use Rattle.sound.specs.Sound.{sound_mach}
use Rattle.rules.specs.Rules.{Step, accepted, refused}

-- the state after a rule, and the refusal, if there is one
pub record Answer : Type 0 where
  pub state : State
  pub verdict : Result Unit Refusal

abbrev pub answer : State → Result Unit Refusal → Answer
answer s v = record { state = s; verdict = v }

-- an accepted machine is laid out again
abbrev pub done : Mach → Answer
done σ = answer (state_of σ) (Ok tt)

-- a refusal hands the state back
abbrev pub answer_of : State → Step → Answer
answer_of s (accepted σ m) = done σ
answer_of s (refused n) = answer s (Err n)

abbrev pub memory_of : List Value → Step → List Value
memory_of m (accepted σ m') = m'
memory_of m (refused n) = m

-- the layout of a machine that is sound for the program
pub record Fit (p : List ℕ) (s : State) : Type 0 where
  pub laid : Laid s
  pub sound : sound_mach (length p / 8) (mach_of s) ≡ true
