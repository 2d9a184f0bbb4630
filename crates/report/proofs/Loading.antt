-- What a load says of memory's cells from its place on.
use mathlib.Core.Path.{◌≡◌, refl}
use Prim.Native.Nat.{ℕ, zero, suc, ◌/◌, ◌≤◌}
use native.Mathlib.Omega.{arith}
use mathlib.Core.List.{List, [], ◌∷◌}
use mathlib.Core.Option.{Option, none, some}
use lib.ListN.{length, drop, drop_of_length-le, get_elem?}
use Rattle.std.specs.Prelude.{Ok, Err}
use Rattle.records.specs.declared.Refusal.{Refusal}
use Rattle.records.proofs.Leading.{drop_some}
use Rattle.value.specs.declared.Value.{Value}
use Rattle.isa.specs.declared.DataAddr.{DataAddr}
use Rattle.cells.specs.Cells.{cells, inside, load_from}
use Rattle.cells.proofs.Memory.{length-cells}

loaded_some : (o : Option Value) {v : Value} → Ok v ≡ inside o → o ≡ some v
loaded_some (some u) e = cc
loaded_some none e = cc

loaded-none : (o : Option Value) {n : Refusal} → Err n ≡ inside o → o ≡ none
loaded-none (some u) e = cc
loaded-none none e = cc

drop-none : {A : Type 0} (xs : List A) (n : ℕ) → get_elem? xs n ≡ none → drop n xs ≡ []
drop-none [] zero e = refl
drop-none [] (suc n) e = refl
drop-none (y ∷ xs) zero e = absurd (cc)
drop-none (y ∷ xs) (suc n) e = drop-none xs n e

module _ (m : List ℕ) (a : DataAddr) where
  pub loaded-first : {v : Value} → Ok v ≡ load_from (cells m) a → drop a.0 (cells m) ≡ v ∷ drop (suc a.0) (cells m)
  unfolding load_from
  loaded-first e = drop_some (cells m) a.0 (loaded_some (get_elem? (cells m) a.0) e)

  pub loaded_past : {n : Refusal} → Err n ≡ load_from (cells m) a → drop a.0 (cells m) ≡ []
  unfolding load_from
  loaded_past e = drop-none (cells m) a.0 (loaded-none (get_elem? (cells m) a.0) e)

-- nothing follows the last
pub cells-end : (m : List ℕ) (a : ℕ) → length m / 8 ≤ a → drop a (cells m) ≡ []
cells-end m a h = drop_of_length-le (cells m) {i = a} (omega (arith, length-cells m))
