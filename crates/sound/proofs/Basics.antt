-- Small facts about tests and tags, which the crates above use too.
use mathlib.Core.Path.{◌≡◌, refl, sym}
use mathlib.Core.Bool.{Bool, true, false, cond, ◌||◌, true≢false}
use borrow.Author.Tests.{eqb-true, eqb-false, eq-eqb, ne_eqb}
use Rattle.isa.specs.declared.Tag.{Tag}
use Rattle.templates.specs.Templates.{same_tag}

-- ---- tests

-- what holds of both arms, each with what the test says
pub by_test : {A : Type 0} (P : A → Type 0) (t : Bool) {x y : A} → (t ≡ true → P x) → (t ≡ false → P y) → P (cond t x y)
by_test P true f g = f refl
by_test P false f g = g refl

pub neither : (a b : Bool) → (a || b) ≡ false → (a ≡ false) × (b ≡ false)
neither true b e = absurd (true≢false e)
neither false b e = (refl, e)

-- ---- two tags are one if they have the same number

pub same_tag_lem : (s t : Tag) → same_tag s t ≡ true → s ≡ t
same_tag_lem s t e = λ i. record { 0 = eqb-true s.0 t.0 e i }

pub tag-itself : (t : Tag) → same_tag t t ≡ true
tag-itself t = eq-eqb t.0 t.0 refl

pub tags_differ : (s t : Tag) → (s ≡ t → ⊥) → same_tag s t ≡ false
tags_differ s t d = ne_eqb s.0 t.0 (λ e. d (λ i. record { 0 = e i }))

pub other_tag : (s t : Tag) → same_tag s t ≡ false → s ≡ t → ⊥
other_tag s t e q = eqb-false s.0 t.0 e (λ i. (q i).0)

pub either_way : (s t : Tag) → same_tag s t ≡ false → same_tag t s ≡ false
either_way s t e = tags_differ t s (λ q. other_tag s t e (sym q))
