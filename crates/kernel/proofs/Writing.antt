-- A store by address is a write by value, and it keeps memory's form.
use mathlib.Core.Path.{◌≡◌, refl, sym, ◌∙◌}
use Prim.Native.Nat.{ℕ, ◌/◌, ◌<◌}
use native.Mathlib.Decide.{dec_lt}
use native.Mathlib.Omega.{arith}
use mathlib.Core.List.{List}
use lib.ListN.{length, set}
use lib.Seq.{set_out}
use borrow.Author.Tests.{lt-ltb, le-ltb}
use Rattle.std.specs.Prelude.{Result}
use Rattle.records.specs.declared.Refusal.{Refusal}
use Rattle.records.specs.Refusal.{verdict_of}
use Rattle.value.specs.declared.Value.{Value}
use Rattle.value.specs.declared.Value.TheVariants.{Undefined, Word}
use Rattle.cells.specs.Cells.{cells, Formed, storing}
use Rattle.cells.proofs.Memory.{length-cells, stored-image}
use Rattle.kernel.specs.Kernel.{data_addr, write_at, or_kept, Writes}

module _ (b : List ℕ) (w : ℕ) (v : Value) where
  pub store-verdict : storing (length b / 8) (data_addr w) ≡ verdict_of (write_at (cells b) (Word w) v)
  store-verdict = inside (dec_lt w (length b / 8))
    where
      inside : Dec (w < length b / 8) → storing (length b / 8) (data_addr w) ≡ verdict_of (write_at (cells b) (Word w) v)
      inside (yes h) = rw (length-cells b, lt-ltb w (length b / 8) h) refl
      inside (no h) = rw (length-cells b, le-ltb w (length b / 8) (omega arith)) refl

  pub store_kept : set (cells b) w v ≡ or_kept (cells b) (write_at (cells b) (Word w) v)
  store_kept = inside (dec_lt w (length (cells b)))
    where
      inside : Dec (w < length (cells b)) → set (cells b) w v ≡ or_kept (cells b) (write_at (cells b) (Word w) v)
      inside (yes h) = rw (lt-ltb w (length (cells b)) h) refl
      inside (no h) = rw (le-ltb w (length (cells b)) (omega arith)) (set_out (cells b) w v (omega arith))

pub write_formed : {b : List ℕ} (a : Value) {v : Value} {r : Result Unit Refusal} {b' : List ℕ} → Writes b a v r b' → Formed b → Formed b'
write_formed Undefined k f = rw k.bytes f
write_formed {b} (Word w) {v} k f =
    rw (k.holds, ← store_kept b w v) (sym (stored-image b w v f) ∙ sym k.bytes)
