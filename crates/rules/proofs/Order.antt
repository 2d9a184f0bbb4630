-- What a Load or a Store that goes before its turn has to ask of the templates ahead of it.
use Prim.Native.Nat.{ℕ, ◌<◌}
use mathlib.Core.Path.{◌≡◌}
use mathlib.Core.Logic.{◌≢◌}
use mathlib.Core.Bool.{false, true≢false}
use mathlib.Core.List.{List, [], ◌∷◌}
use Rattle.value.specs.declared.Value.TheVariants.{Undefined, Word}
use Rattle.templates.specs.declared.Operand.{Operand}
use Rattle.templates.specs.declared.Operand.TheVariants.{Known, Waits}
use Rattle.templates.specs.declared.Work.{Work}
use Rattle.templates.specs.declared.Work.TheVariants.{Done, Op, Jz, Load, Store}
use Rattle.templates.specs.Templates.{is_memory}
use Rattle.templates.specs.Machine.{Itb, any_memory}
use Rattle.sound.proofs.Basics.{neither}

-- an address that is a word, inside memory and another than x
abbrev pub Away : ℕ → ℕ → Operand → Type 0
Away x size (Known Undefined) = ⊥
Away x size (Known (Word y)) = (y < size) × (y ≢ x)
Away x size (Waits t) = ⊥

-- an earlier template that lets a Load of cell x go
abbrev pub LetsLoad : ℕ → ℕ → Work → Type 0
LetsLoad x size (Done t v) = Unit
LetsLoad x size (Op t n u v) = Unit
LetsLoad x size (Jz u v) = Unit
LetsLoad x size (Load t u) = Unit
LetsLoad x size (Store u v) = Away x size u

-- and a Store to it
abbrev pub LetsStore : ℕ → ℕ → Work → Type 0
LetsStore x size (Done t v) = Unit
LetsStore x size (Op t n u v) = Unit
LetsStore x size (Jz u v) = Unit
LetsStore x size (Load t u) = Away x size u
LetsStore x size (Store u v) = Away x size u

abbrev pub Each : (Work → Type 0) → List Itb → Type 0
Each P [] = Unit
Each P (x ∷ xs) = P x.work × Each P xs

-- ---- where no access is earlier, none hinders

each : (P : Work → Type 0) → ((w : Work) → is_memory w ≡ false → P w) → (xs : List Itb) → any_memory xs ≡ false → Each P xs
each P f [] h = tt
each P f (y ∷ xs) h = let n = neither (is_memory y.work) (any_memory xs) h in (f y.work n.0, each P f xs n.1)

module _ (x size : ℕ) where
  lets_load : (w : Work) → is_memory w ≡ false → LetsLoad x size w
  lets_load (Done t v) h = tt
  lets_load (Op t n u v) h = tt
  lets_load (Jz u v) h = tt
  lets_load (Load t u) h = tt
  lets_load (Store u v) h = absurd (true≢false h)

  lets_store : (w : Work) → is_memory w ≡ false → LetsStore x size w
  lets_store (Done t v) h = tt
  lets_store (Op t n u v) h = tt
  lets_store (Jz u v) h = tt
  lets_store (Load t u) h = absurd (true≢false h)
  lets_store (Store u v) h = absurd (true≢false h)

  -- what the order of memory says of the templates ahead of a Load, or of a Store: edition one lets none be an access
  pub record MayLoad (pre : List Itb) : Type 0 where
    pub lets : Each (LetsLoad x size) pre
    pub first : any_memory pre ≡ false

  pub record MayStore (pre : List Itb) : Type 0 where
    pub lets : Each (LetsStore x size) pre
    pub first : any_memory pre ≡ false

  pub may_load : (pre : List Itb) → any_memory pre ≡ false → MayLoad pre
  may_load pre h = record { lets = each (LetsLoad x size) lets_load pre h; first = h }

  pub may_store : (pre : List Itb) → any_memory pre ≡ false → MayStore pre
  may_store pre h = record { lets = each (LetsStore x size) lets_store pre h; first = h }
