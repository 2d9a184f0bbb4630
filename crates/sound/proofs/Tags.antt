-- A test at the place of each tag tells the tags that have a producer, one more at a time.
use mathlib.Core.Path.{◌≡◌, refl, fun_ext}
use Prim.Native.Nat.{ℕ, zero, suc, ◌<◌}
use mathlib.Core.Bool.{Bool, true, false}
use lib.ListN.{length, get_or, set, replicate}
use lib.Seq.{get_or-set_same, get_or-set_other}
use borrow.Author.Tests.{eqb-true, eqb-false}
use Rattle.isa.specs.declared.Tag.{Tag}
use Rattle.templates.specs.Templates.{same_tag}
use Rattle.sound.specs.declared.Made.{Made}
use Rattle.sound.specs.Sound.{none, also}
use Rattle.sound.specs.Search.{told}

pub told_none : (n : ℕ) → told (record { 0 = replicate n false }) ≡ none
told_none n = fun_ext (λ t. all n t.0)
  where
    all : (n i : ℕ) → get_or (replicate n false) i false ≡ false
    all zero i = refl
    all (suc n) zero = refl
    all (suc n) (suc i) = all n i

pub told-also : (made : Made) (t : Tag) → t.0 < length made.0 → told (record { 0 = set made.0 t.0 true }) ≡ also t (told made)
told-also made t h = fun_ext (λ s. at s (same_tag s t) refl)
  where
    at : (s : Tag) (b : Bool) → same_tag s t ≡ b → get_or (set made.0 t.0 true) s.0 false ≡ also t (told made) s
    at s true e = rw (e, eqb-true s.0 t.0 e) (get_or-set_same made.0 t.0 true false h)
    at s false e = rw e (get_or-set_other made.0 t.0 s.0 true false (eqb-false s.0 t.0 e))
