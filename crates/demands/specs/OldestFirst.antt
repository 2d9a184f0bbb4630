-- The oldest-first sequence: the lowest place with an allowed rule other than issue, there the lowest rule number, until none.
use Rattle.std.specs.Prelude.{◌≡◌, List, [], ◌∷◌, length}
use Rattle.value.specs.declared.Value.{Value}
use Rattle.templates.specs.Machine.{Mach}
use Rattle.rules.specs.Rules.{Step, accepted, refused}
use Rattle.rules.specs.Drain.{Drained}
use Rattle.rules.specs.Moves.{Move, move, Stuck, continued}
use Rattle.rules.specs.OldestFirst.{Oldest}

-- it is accepted, and what it leaves has the property
abbrev pub Leaves : (Mach → List Value → Type 0) → Step → Type 0
Leaves P (accepted σ m) = P σ m
Leaves P (refused n) = ⊥

abbrev pub OldestFirst : List Move → Mach → List Value → Type 0
OldestFirst [] σ m = Stuck σ m
OldestFirst (v ∷ vs) σ m = Oldest v σ m × Leaves (λ σ' m'. OldestFirst vs σ' m') (move v σ m)

-- a drain applies the rules of the sequence, and counts them
pub record DrainsBy (vs : List Move) (σ : Mach) (m : List Value) (d : Drained) : Type 0 where
  pub sequence : OldestFirst vs σ m
  pub leaves : continued vs σ m ≡ accepted d.machine d.memory
  pub counts : d.rules ≡ length vs
