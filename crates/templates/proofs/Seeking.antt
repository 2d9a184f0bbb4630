-- A search in an array, a turn at a time.
use mathlib.Core.Path.{◌≡◌, ap, ◌∙◌}
use Prim.Native.Nat.{ℕ, suc, ◌+◌, ◌≤◌, ◌<◌, min}
use native.Mathlib.Numerals.{add-one}
use native.Mathlib.Omega.{arith}
use mathlib.Core.Bool.{Bool, true, false}
use mathlib.Core.List.{List, ◌∷◌}
use lib.ListN.{length, take, drop, get_or, length-take, drop_of_length-le}
use lib.Seq.{drop-cons, get_or-take}
use Rattle.templates.specs.Templates.{any}

-- ---- a search among the first n of the k elements: from place i on it is to answer r
pub record Seeking {A : Type 0} (f : A → Bool) (k n : ℕ) (l : List A) (i : ℕ) (r : Bool) : Type 0 where
  pub long : length l ≡ k
  pub left : any f (drop i (take n l)) ≡ r

module _ {A : Type 0} {f : A → Bool} {k n : ℕ} {l : List A} {i : ℕ} {r : Bool} (s : Seeking f k n l i r) where
  one_more : (d : A) → i < min n k → drop i (take n l) ≡ get_or l i d ∷ drop (suc i) (take n l)
  one_more d h =
      let within : i < length (take n l) = omega (arith, length-take n l, s.long) in
      drop-cons (take n l) i d within ∙ ap (λ x. x ∷ drop (suc i) (take n l)) (get_or-take n l i d (omega arith))

  pub seek_on : (d : A) → i < min n k → f (get_or l i d) ≡ false → Seeking f k n l (i + 1) r
  seek_on d h e = record { long = s.long; left = rw add-one (rw (one_more d h, e) at s.left) }

  pub seek_hit : (d : A) → i < min n k → f (get_or l i d) ≡ true → true ≡ r
  seek_hit d h e = rw (one_more d h, e) at s.left

  pub seek_end : min n k ≤ i → false ≡ r
  seek_end h =
      let past : length (take n l) ≤ i = omega (arith, length-take n l, s.long) in
      rw drop_of_length-le at s.left
