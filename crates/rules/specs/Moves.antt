-- Rules other than issue, in any order, and where none is allowed.
use Rattle.std.specs.Prelude.{ℕ, List, [], ◌∷◌}
use Rattle.value.specs.declared.Value.{Value}
use Rattle.templates.specs.Machine.{Mach}
use Rattle.rules.specs.declared.Rule.{Rule}
use Rattle.rules.specs.Rules.{Step, accepted, refused, apply}

-- ---- one rule

-- other than issue, and the place where it is applied
pub record Move : Type 0 where
  pub rule : Rule
  pub place : ℕ

abbrev pub move : Move → Mach → List Value → Step
move v σ m = apply v.rule v.place σ m

abbrev pub Refused : Step → Type 0
Refused (accepted σ m) = ⊥
Refused (refused n) = Unit

-- no rule other than issue is allowed
abbrev pub Stuck : Mach → List Value → Type 0
Stuck σ m = (v : Move) → Refused (move v σ m)

-- ---- several

abbrev pub and_then : (Mach → List Value → Step) → Step → Step
and_then rest (accepted σ m) = rest σ m
and_then rest (refused n) = refused n

-- each of a list in turn: accepted if each is allowed where it stands
abbrev pub in_turn : {A : Type 0} → (A → Mach → List Value → Step) → List A → Mach → List Value → Step
in_turn f [] σ m = accepted σ m
in_turn f (x ∷ xs) σ m = and_then (λ σ' m'. in_turn f xs σ' m') (f x σ m)

abbrev pub continued : List Move → Mach → List Value → Step
continued vs σ m = in_turn move vs σ m
