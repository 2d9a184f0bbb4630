-- The weight of what a machine holds: at most four for each template, and less where fewer hold.
use Prim.Native.Nat.{ℕ, ◌+◌, ◌*◌, ◌≤◌, ◌<◌}
use native.Mathlib.Omega.{arith}
use mathlib.Core.Path.{refl}
use mathlib.Core.Bool.{Bool, true, false}
use mathlib.Core.List.{List, [], ◌∷◌, ◌++◌}
use lib.ListN.{length}
use Rattle.value.specs.declared.Value.{Value}
use Rattle.isa.specs.declared.Tag.{Tag}
use Rattle.templates.specs.declared.Work.{Work}
use Rattle.templates.specs.declared.Work.TheVariants.{Done, Op, Jz, Load, Store}
use Rattle.templates.specs.declared.Register.{Register}
use Rattle.templates.specs.Templates.{holds, any_reg, fill_work}
use Rattle.templates.specs.Machine.{Itb, any_holds, fill_all, Mach}
use Rattle.rules.proofs.Filling.{Under, or_under, templates_under}

-- ---- the weight

abbrev pub bit : Bool → ℕ
bit true = 1
bit false = 0

-- what is left to do for a template, with xs behind it
abbrev pub share : List Register → Work → List Itb → ℕ
share rf (Done t v) xs = 1 + bit (any_holds t xs) + bit (any_reg t rf)
share rf (Op t n x y) xs = 4
share rf (Jz x y) xs = 1
share rf (Load t x) xs = 4
share rf (Store x y) xs = 1

abbrev pub shares : List Register → List Itb → ℕ
shares rf [] = 0
shares rf (x ∷ xs) = share rf x.work xs + shares rf xs

abbrev pub weight : Mach → ℕ
weight σ = shares σ.registers σ.held

pub bit-small : (b : Bool) → bit b ≤ 1
bit-small true = omega arith
bit-small false = omega arith

share-small : (rf : List Register) (w : Work) (xs : List Itb) → share rf w xs ≤ 4
share-small rf (Done t v) xs = omega (arith, bit-small (any_holds t xs), bit-small (any_reg t rf))
share-small rf (Op t n x y) xs = omega arith
share-small rf (Jz x y) xs = omega arith
share-small rf (Load t x) xs = omega arith
share-small rf (Store x y) xs = omega arith

pub at_most_four_each : (rf : List Register) (xs : List Itb) → shares rf xs ≤ 4 * length xs
at_most_four_each rf [] = omega arith
at_most_four_each rf (x ∷ xs) = omega (arith, share-small rf x.work xs, at_most_four_each rf xs)

-- ---- fewer holders weigh less

bit_under : (a b : Bool) → Under a b → bit a ≤ bit b
bit_under true b h = rw (h refl) (omega arith)
bit_under false b h = omega arith

-- whatever tag the one holds, the other holds
abbrev pub Holds : List Itb → List Itb → Type 0
Holds ys xs = (s : Tag) → Under (any_holds s ys) (any_holds s xs)

module _ (rf rf' : List Register) (g : (s : Tag) → Under (any_reg s rf') (any_reg s rf)) where
  share_under : (w : Work) (xs ys : List Itb) → Holds ys xs → share rf' w ys ≤ share rf w xs
  share_under (Done t v) xs ys h = omega (arith, bit_under (any_holds t ys) (any_holds t xs) (h t), bit_under (any_reg t rf') (any_reg t rf) (g t))
  share_under (Op t n x y) xs ys h = omega arith
  share_under (Jz x y) xs ys h = omega arith
  share_under (Load t x) xs ys h = omega arith
  share_under (Store x y) xs ys h = omega arith

  holds-front : (pre xs ys : List Itb) → Holds ys xs → Holds (pre ++ ys) (pre ++ xs)
  holds-front [] xs ys h s = h s
  holds-front (x ∷ pre) xs ys h s =
      or_under (holds s x.work) (any_holds s (pre ++ ys)) (holds s x.work) (any_holds s (pre ++ xs)) (λ e. e) (holds-front pre xs ys h s)

  pub less_behind : (pre xs ys : List Itb) → Holds ys xs → shares rf' ys < shares rf xs → shares rf' (pre ++ ys) < shares rf (pre ++ xs)
  less_behind [] xs ys h l = l
  less_behind (x ∷ pre) xs ys h l =
      omega (arith, share_under x.work (pre ++ xs) (pre ++ ys) (holds-front pre xs ys h), less_behind pre xs ys h l)

  pub shares_under : (xs : List Itb) → shares rf' xs ≤ shares rf xs
  shares_under [] = omega arith
  shares_under (x ∷ xs) = omega (arith, share_under x.work xs xs (λ s e. e), shares_under xs)

module _ (rf : List Register) (t : Tag) (v : Value) where
  pub shares-fill : (xs : List Itb) → shares rf (fill_all t v xs) ≤ shares rf xs
  shares-fill [] = omega arith
  shares-fill (x ∷ xs) = omega (arith, share-fill x.work, shares-fill xs)
    where
      share-fill : (w : Work) → share rf (fill_work t v w) (fill_all t v xs) ≤ share rf w xs
      share-fill (Done s u) = share_under rf rf (λ s e. e) (Done s u) xs (fill_all t v xs) (templates_under t v xs)
      share-fill (Op s n x y) = omega arith
      share-fill (Jz x y) = omega arith
      share-fill (Load s x) = omega arith
      share-fill (Store x y) = omega arith
