-- Small facts about tests, options and refusals, which the crates above use too.
use mathlib.Core.Path.{◌≡◌, refl}
use Prim.Native.Nat.{ℕ}
use native.Mathlib.Omega.{arith}
use mathlib.Core.Bool.{Bool, true, false, ◌&&◌, false≢true}
use mathlib.Core.Option.{Option, none, some}
use Rattle.std.specs.Prelude.{Ok, Err}

pub both : (a b : Bool) → a && b ≡ true → (a ≡ true) × (b ≡ true)
both true b e = (refl, e)
both false b e = absurd (false≢true e)

pub got_not_fails : {A E B : Type 0} {x : A} {n : E} → Err n ≡ Ok x → B
got_not_fails e = let z : ◌≡◌ {A = ℕ} 0 1 = cc in absurd (omega arith)

pub same_some : {A : Type 0} {o : Option A} {x y : A} → o ≡ some x → o ≡ some y → x ≡ y
same_some p q = cc

pub some_not_none : {A B : Type 0} {o : Option A} {x : A} → o ≡ some x → o ≡ none → B
some_not_none p q = let z : ◌≡◌ {A = ℕ} 0 1 = cc in absurd (omega arith)
