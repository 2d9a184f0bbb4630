-- The oldest rule that is allowed: at the lowest place, and there of the lowest number.
use Rattle.std.specs.Prelude.{◌≡◌, ℕ, ◌<◌, List}
use Rattle.value.specs.declared.Value.{Value}
use Rattle.templates.specs.Machine.{Mach}
use Rattle.rules.specs.declared.Rule.{Rule}
use Rattle.rules.specs.declared.Rule.TheVariants.{Operate, Forward, Commit, Retire, Load, Store, Jump, NoJump}
use Rattle.rules.specs.Moves.{Move, move, Refused}

abbrev pub number : Rule → ℕ
number Operate = 2
number Forward = 3
number Commit = 4
number Retire = 5
number Load = 6
number Store = 7
number Jump = 8
number NoJump = 9

-- no rule is allowed at an earlier place, and at its place none of a lower number
pub record Oldest (v : Move) (σ : Mach) (m : List Value) : Type 0 where
  pub place : (u : Move) → u.place < v.place → Refused (move u σ m)
  pub rule : (u : Move) → u.place ≡ v.place → number u.rule < number v.rule → Refused (move u σ m)
