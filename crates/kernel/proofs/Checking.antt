-- What accepted checks say: program and memory are well formed.
use mathlib.Core.Path.{◌≡◌, refl, sym, ◌∙◌}
use Prim.Native.Nat.{ℕ, ◌<◌}
use mathlib.Core.Bool.{Bool, true, false, cond, ◌&&◌}
use mathlib.Core.List.{List}
use lib.ListN.{get_or}
use Rattle.std.specs.Prelude.{Result, Ok, Err}
use Rattle.records.specs.declared.Refusal.TheVariants.{BadLength}
use Rattle.records.specs.declared.Fault.{Fault}
use Rattle.records.specs.Records.{is_whole}
use Rattle.records.specs.Scan.{refused, accepted}
use Rattle.records.proofs.Basics.{got_not_fails}
use Rattle.isa.specs.Program as Program
use Rattle.cells.specs.Cells as Cells
use Rattle.cells.proofs.Memory.{image-cells}
use Rattle.kernel.specs.Checks.{first, checked, if_checked}

pub record Accepted (p b : List ℕ) : Type 0 where
  pub program : Program.scan_of p ≡ accepted
  pub memory : Cells.scan_of b ≡ accepted

pub both_accept : (v w : Result Unit Fault) → first v w ≡ accepted → (v ≡ accepted) × (w ≡ accepted)
both_accept (Ok x) w h = (refl, h)
both_accept (Err f) w h = got_not_fails h

module _ (p b : List ℕ) where
  pub checks_say : checked p b ≡ accepted → Accepted p b
  unfolding checked
  checks_say = whole (is_whole p && is_whole b)
    where
      whole : (t : Bool) → cond t (first (Program.scan_of p) (Cells.scan_of b)) (refused BadLength 0) ≡ accepted → Accepted p b
      whole true h = let a = both_accept (Program.scan_of p) (Cells.scan_of b) h in record { program = a.0; memory = a.1 }
      whole false h = got_not_fails h

-- ---- an entry that checked

-- v is the verdict w
module _ (w : Result Unit Fault) {v : Result Unit Fault} (c : v ≡ w) where
  pub refuses : {f : Fault} → v ≡ Err f → {A : Type 0} (work refused : A) → if_checked w work refused ≡ refused
  refuses h work refused = rw (← c, h) refl

  pub works : v ≡ accepted → {A : Type 0} (work refused : A) → if_checked w work refused ≡ work
  works h work refused = rw (← c, h) refl

module _ (p b : List ℕ) {v : Result Unit Fault} (c : v ≡ checked p b) (h : v ≡ accepted) where
  pub checked-program : Program.scan_of p ≡ accepted
  checked-program = (checks_say p b (sym c ∙ h)).program

  pub checked-memory : ((i : ℕ) → get_or b i 0 < 256) → Cells.Formed b
  checked-memory small = image-cells b (checks_say p b (sym c ∙ h)).memory small
