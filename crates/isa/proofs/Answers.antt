-- A buffer of eight bytes is one record.
use mathlib.Core.Path.{◌≡◌, refl}
use Prim.Native.Nat.{ℕ}
use mathlib.Core.List.{List, [], ◌∷◌}
use lib.ListN.{length}
use Rattle.records.specs.Records.{records, record_from}

pub only_record : (b : List ℕ) → length b ≡ 8 → records b ≡ record_from b 0 ∷ []
unfolding records
only_record b h = rw h refl
