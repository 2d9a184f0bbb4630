-- What one file's scan makes of the word on all of them.
use mathlib.Core.Path.{◌≡◌, refl}
use Prim.Native.Nat.{ℕ}
use Rattle.std.specs.Prelude.{Result, Ok, Err}
use Rattle.records.specs.declared.Fault.{Fault}
use Rattle.report.specs.declared.Input.{Input}
use Rattle.report.specs.Report.{fit, unless}

module _ (file : ℕ) (others : Result Unit Input) where
  pub unless_refused : (v : Result Unit Fault) {i : Input} → Err i ≡ unless file v fit → Err i ≡ unless file v others
  unless_refused (Ok u) e = cc
  unless_refused (Err f) e = e

  pub unless_fit : (v : Result Unit Fault) {u : Unit} → Ok u ≡ unless file v fit → others ≡ unless file v others
  unless_fit (Ok u) e = refl
  unless_fit (Err f) e = cc
