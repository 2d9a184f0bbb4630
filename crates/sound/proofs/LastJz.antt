-- The place of the first Jz says whether there is one, and whether it is the last template.
use mathlib.Core.Path.{◌≡◌, refl, ◌∙◌}
use Prim.Native.Nat.{ℕ, suc, ◌+◌, ◌≤◌}
use native.Mathlib.Numerals.{add-one}
use native.Mathlib.Omega.{arith}
use mathlib.Core.Bool.{Bool, true, false, cond, not, ◌||◌}
use mathlib.Core.List.{List, [], ◌∷◌}
use lib.Dec.{eqb, eqb-zero-suc, eqb-suc-suc}
use lib.ListN.{length}
use Rattle.templates.specs.Machine.{Itb}
use Rattle.sound.specs.Sound.{is_jz, any_jz, is_empty, ends_in_jz}
use Rattle.sound.specs.Search.{first_jz}

-- ---- the first template is a Jz, or not

within_step : (b : Bool) {a n : ℕ} → a ≤ n → cond b 0 (suc a) ≤ suc n
within_step true h = omega arith
within_step false h = omega arith

none-step : (b c : Bool) (a n : ℕ) → eqb a n ≡ not c → eqb (cond b 0 (suc a)) (suc n) ≡ not (b || c)
none-step true c a n e = eqb-zero-suc n
none-step false c a n e = eqb-suc-suc a n ∙ e

last_step : (b c d : Bool) (a n : ℕ) → eqb 0 n ≡ c → eqb (suc a) n ≡ d → eqb (suc (cond b 0 (suc a))) (suc n) ≡ cond b c d
last_step true c d a n e f = eqb-suc-suc 0 n ∙ e
last_step false c d a n e f = eqb-suc-suc (suc a) n ∙ f

-- ---- all templates

within : (xs : List Itb) → first_jz xs ≤ length xs
within [] = omega arith
within (x ∷ xs) = within_step (is_jz x.work) (within xs)

none_is : (xs : List Itb) → eqb (first_jz xs) (length xs) ≡ not (any_jz xs)
none_is [] = refl
none_is (x ∷ xs) = none-step (is_jz x.work) (any_jz xs) (first_jz xs) (length xs) (none_is xs)

empty : (xs : List Itb) → eqb 0 (length xs) ≡ is_empty xs
empty [] = refl
empty (x ∷ xs) = eqb-zero-suc (length xs)

last_is : (xs : List Itb) → eqb (suc (first_jz xs)) (length xs) ≡ ends_in_jz xs
last_is [] = refl
last_is (x ∷ xs) = last_step (is_jz x.work) (is_empty xs) (ends_in_jz xs) (first_jz xs) (length xs) (empty xs) (last_is xs)

-- ---- by their number n

module _ (xs : List Itb) {n : ℕ} (long : length xs ≡ n) where
  pub first_within : first_jz xs ≤ n
  first_within = rw (← long) (within xs)

  pub first-none : eqb (first_jz xs) n ≡ not (any_jz xs)
  first-none = rw (← long) (none_is xs)

  pub first_last : eqb (first_jz xs + 1) n ≡ ends_in_jz xs
  first_last = rw (← long, add-one) (last_is xs)
