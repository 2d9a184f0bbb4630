-- What stands in a tabulated list, and in a buffer's records.
use mathlib.Core.Path.{◌≡◌, refl, ap, ap₂}
use mathlib.Core.Logic.{◌≢◌}
use Prim.Native.Nat.{ℕ, zero, suc, ◌*◌, ◌/◌, ◌<◌, ◌≤◌}
use native.Mathlib.Omega.{arith}
use mathlib.Core.List.{List, ◌∷◌}
use mathlib.Core.Option.{none, some}
use lib.ListN.{length, set, get_elem?}
use Rattle.records.specs.Records.{record_from, tabulate, records}

pub length-tabulate : {A : Type 0} (n : ℕ) (f : ℕ → A) → length (tabulate n f) ≡ n
length-tabulate zero f = refl
length-tabulate (suc n) f = omega (arith, length-tabulate n (λ i. f (suc i)))

pub tabulate-at : {A : Type 0} (n : ℕ) (f : ℕ → A) (i : ℕ) → i < n → get_elem? (tabulate n f) i ≡ some (f i)
tabulate-at zero f i h = absurd (omega arith)
tabulate-at (suc n) f zero h = refl
tabulate-at (suc n) f (suc i) h = tabulate-at n (λ k. f (suc k)) i (omega arith)

pub tabulate_past : {A : Type 0} (n : ℕ) (f : ℕ → A) (i : ℕ) → n ≤ i → get_elem? (tabulate n f) i ≡ none
tabulate_past zero f i h = refl
tabulate_past (suc n) f zero h = absurd (omega arith)
tabulate_past (suc n) f (suc i) h = tabulate_past n (λ k. f (suc k)) i (omega arith)

pub tabulate_same : {A : Type 0} (n : ℕ) (f g : ℕ → A) → ((k : ℕ) → k < n → f k ≡ g k) → tabulate n f ≡ tabulate n g
tabulate_same zero f g h = refl
tabulate_same (suc n) f g h = ap₂ ◌∷◌ (h 0 (omega arith)) (tabulate_same n (λ k. f (suc k)) (λ k. g (suc k)) (λ k l. h (suc k) (omega arith)))

-- two tables that differ at one place
pub tabulate-set : {A : Type 0} (n : ℕ) (f g : ℕ → A) (i : ℕ) → i < n → ((k : ℕ) → k ≢ i → g k ≡ f k) → tabulate n g ≡ set (tabulate n f) i (g i)
tabulate-set zero f g i l h = absurd (omega arith)
tabulate-set (suc n) f g zero l h =
    ap (λ xs. g 0 ∷ xs) (tabulate_same n (λ k. g (suc k)) (λ k. f (suc k)) (λ k _. h (suc k) (omega arith)))
tabulate-set (suc n) f g (suc i) l h =
    ap₂ ◌∷◌ (h 0 (omega arith)) (tabulate-set n (λ k. f (suc k)) (λ k. g (suc k)) i (omega arith) (λ k e. h (suc k) (omega arith)))

module _ (b : List ℕ) where
  pub length-records : length (records b) ≡ length b / 8
  unfolding records
  length-records = length-tabulate (length b / 8) (λ i. record_from b (8 * i))

  pub record-at : (i : ℕ) → i < length b / 8 → get_elem? (records b) i ≡ some (record_from b (8 * i))
  unfolding records
  record-at = tabulate-at (length b / 8) (λ i. record_from b (8 * i))

  pub record_past : (i : ℕ) → length b / 8 ≤ i → get_elem? (records b) i ≡ none
  unfolding records
  record_past = tabulate_past (length b / 8) (λ i. record_from b (8 * i))
