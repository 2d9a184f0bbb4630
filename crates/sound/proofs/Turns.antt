-- A loop over a list, a turn at a time: what is left to compute from place i on answers for the whole.
use mathlib.Core.Path.{◌≡◌, sym, ◌∙◌}
use Prim.Native.Nat.{ℕ, ◌+◌, ◌≤◌, ◌<◌}
use native.Mathlib.Numerals.{add-one}
use native.Mathlib.Omega.{arith}
use mathlib.Core.List.{List, [], ◌∷◌}
use lib.ListN.{length, get_or, drop, drop_of_length-le}
use lib.Seq.{drop-cons}

-- g, given the place that is reached and the elements from there on, is to answer r
pub record Walking {A R : Type 0} (g : ℕ → List A → R) (n : ℕ) (l : List A) (i : ℕ) (r : R) : Type 0 where
  pub long : length l ≡ n
  pub left : g i (drop i l) ≡ r

module _ {A R : Type 0} {g : ℕ → List A → R} {n : ℕ} {l : List A} {i : ℕ} {r : R} (w : Walking g n l i r) where
  -- the element x at the place, and those behind it
  turn : (d : A) {x : A} → get_or l i d ≡ x → i < n → g i (x ∷ drop (i + 1) l) ≡ r
  turn d e h =
      let within : i < length l = omega (arith, w.long) in
      rw add-one (rw (drop-cons l i d within, e) at w.left)

  pub walk_on : (d : A) {x : A} → get_or l i d ≡ x → i < n → g i (x ∷ drop (i + 1) l) ≡ g (i + 1) (drop (i + 1) l) → Walking g n l (i + 1) r
  walk_on d e h t = record { long = w.long; left = sym t ∙ turn d e h }

  pub walk_out : (d : A) {x : A} {v : R} → get_or l i d ≡ x → i < n → g i (x ∷ drop (i + 1) l) ≡ v → v ≡ r
  walk_out d e h t = sym t ∙ turn d e h

  pub walk_end : n ≤ i → g i [] ≡ r
  walk_end h =
      let past : length l ≤ i = omega (arith, w.long) in
      rw drop_of_length-le at w.left
