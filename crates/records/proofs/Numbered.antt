-- Every refusal has a number for no: 0 is none's.
use native.Mathlib.Omega.{arith}
use mathlib.Core.Logic.{◌≢◌}
use Rattle.records.specs.declared.Refusal.{Refusal}
use Rattle.records.specs.declared.Refusal.TheVariants.{BadLength, BadInstruction, BadCell, Unsound, BadSchedule, NoInstruction, Stalled, Full, BadTag, NoTemplate, OtherKind, NeedsTag, NotHeld, StillHeld, EarlierMemory, IsUndefined, Outside, OtherWay}
use Rattle.records.specs.Refusal.{number_of}

pub numbered : (r : Refusal) → number_of r ≢ 0
numbered BadLength = λ e. omega (arith, e)
numbered BadInstruction = λ e. omega (arith, e)
numbered BadCell = λ e. omega (arith, e)
numbered Unsound = λ e. omega (arith, e)
numbered BadSchedule = λ e. omega (arith, e)
numbered NoInstruction = λ e. omega (arith, e)
numbered Stalled = λ e. omega (arith, e)
numbered Full = λ e. omega (arith, e)
numbered BadTag = λ e. omega (arith, e)
numbered NoTemplate = λ e. omega (arith, e)
numbered OtherKind = λ e. omega (arith, e)
numbered NeedsTag = λ e. omega (arith, e)
numbered NotHeld = λ e. omega (arith, e)
numbered StillHeld = λ e. omega (arith, e)
numbered EarlierMemory = λ e. omega (arith, e)
numbered IsUndefined = λ e. omega (arith, e)
numbered Outside = λ e. omega (arith, e)
numbered OtherWay = λ e. omega (arith, e)
