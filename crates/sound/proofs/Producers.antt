-- The tags that have a producer, one template more at a time.
use mathlib.Core.Path.{◌≡◌, refl}
use Prim.Native.Nat.{ℕ, ◌+◌, ◌<◌}
use native.Mathlib.Numerals.{add-one}
use mathlib.Core.List.{List, [], ◌∷◌, ◌++◌}
use lib.ListN.{length, get_or, take}
use lib.Seq.{take-suc}
use Rattle.templates.specs.Machine.{Itb}
use Rattle.sound.specs.Sound.{Produced, none, after, after_all}

pub after_all-append : (xs ys : List Itb) (made : Produced) → after_all (xs ++ ys) made ≡ after_all ys (after_all xs made)
after_all-append [] ys made = refl
after_all-append (x ∷ xs) ys made = after_all-append xs ys (after x.work made)

pub after_all-next : (xs : List Itb) (i : ℕ) (d : Itb) → i < length xs → after_all (take (i + 1) xs) none ≡ after (get_or xs i d).work (after_all (take i xs) none)
after_all-next xs i d h = rw (add-one, take-suc xs i d h, after_all-append) refl
