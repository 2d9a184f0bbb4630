-- The place of a tag's producer: where a template makes the tag it is the first that does, and else how many there are.
use mathlib.Core.Path.{◌≡◌, refl, ap}
use Prim.Native.Nat.{ℕ, zero, suc, ◌<◌}
use native.Mathlib.Omega.{arith}
use mathlib.Core.Bool.{Bool, true, false, cond, ◌||◌, true≢false, false≢true}
use mathlib.Core.List.{List, [], ◌∷◌}
use lib.ListN.{length, get_or}
use Rattle.isa.specs.declared.Tag.{Tag}
use Rattle.templates.specs.Templates.{same_tag, makes}
use Rattle.templates.specs.Machine.{Itb, nothing, any_makes, producer}

module _ (t : Tag) where
  abbrev does : Itb → Bool
  does x = same_tag (makes x.work) t

  -- a template stands at the place, and makes the tag
  pub record Produces (xs : List Itb) (p : ℕ) : Type 0 where
    pub inside : p < length xs
    pub makes : does (get_or xs p nothing) ≡ true

  here : (b : Bool) (x : Itb) (xs : List Itb) → does x ≡ b → (b || any_makes t xs) ≡ true → (any_makes t xs ≡ true → Produces xs (producer t xs))
      → Produces (x ∷ xs) (cond b 0 (suc (producer t xs)))
  here true x xs h e later = record { inside = omega arith; makes = h }
  here false x xs h e later = record { inside = omega (arith, (later e).inside); makes = (later e).makes }

  pub producer-there : (xs : List Itb) → any_makes t xs ≡ true → Produces xs (producer t xs)
  producer-there [] e = absurd (false≢true e)
  producer-there (x ∷ xs) e = here (does x) x xs refl e (producer-there xs)

  none : (b : Bool) (n k : ℕ) (c : Bool) → (b || c) ≡ false → (c ≡ false → n ≡ k) → cond b 0 (suc n) ≡ suc k
  none true n k c e later = absurd (true≢false e)
  none false n k c e later = ap suc (later e)

  pub producer-none : (xs : List Itb) → any_makes t xs ≡ false → producer t xs ≡ length xs
  producer-none [] e = refl
  producer-none (x ∷ xs) e = none (does x) (producer t xs) (length xs) (any_makes t xs) e (producer-none xs)

  before : (b : Bool) (x : Itb) (xs : List Itb) (i : ℕ) → does x ≡ b → i < cond b 0 (suc (producer t xs))
      → ((j : ℕ) → j < producer t xs → does (get_or xs j nothing) ≡ false) → does (get_or (x ∷ xs) i nothing) ≡ false
  before true x xs i h l later = absurd (omega arith)
  before false x xs zero h l later = h
  before false x xs (suc i) h l later = later i (omega arith)

  pub producer-first : (xs : List Itb) (i : ℕ) → i < producer t xs → does (get_or xs i nothing) ≡ false
  producer-first [] i l = absurd (omega arith)
  producer-first (x ∷ xs) i l = before (does x) x xs i refl l (producer-first xs)
