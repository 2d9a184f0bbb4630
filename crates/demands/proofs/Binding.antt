-- A tag is given what it stands for.
use mathlib.Core.Path.{◌≡◌, refl, sym, ◌∙◌, fun_ext}
use mathlib.Core.Bool.{Bool, true, false, cond}
use Rattle.isa.specs.declared.Tag.{Tag}
use Rattle.templates.specs.Templates.{same_tag}
use Rattle.sound.proofs.Basics.{by_test, same_tag_lem, tag-itself, other_tag}

cond_swap : {A : Type 0} (p q : Bool) (x y z : A) → (p ≡ true → q ≡ true → ⊥) → cond p x (cond q y z) ≡ cond q y (cond p x z)
cond_swap true true x y z h = absurd (h refl refl)
cond_swap true false x y z h = refl
cond_swap false true x y z h = refl
cond_swap false false x y z h = refl

module _ {A : Type 0} where
  abbrev pub bind : Tag → A → (Tag → A) → Tag → A
  bind t v e = λ s. cond (same_tag s t) v (e s)

  pub bind-itself : (t : Tag) (v : A) (e : Tag → A) → bind t v e t ≡ v
  bind-itself t v e = rw (tag-itself t)

  pub bind_other : (t : Tag) (v : A) (e : Tag → A) (s : Tag) (u : A) → e t ≡ v → same_tag s t ≡ false → bind s u e t ≡ v
  bind_other t v e s u h d = by_test (λ x. x ≡ v) (same_tag t s) (λ q. absurd (other_tag s t d (sym (same_tag_lem t s q)))) (λ _. h)

  pub bind_swap : (t : Tag) (v : A) (e : Tag → A) (s : Tag) (u : A) → same_tag s t ≡ false → bind s u (bind t v e) ≡ bind t v (bind s u e)
  bind_swap t v e s u d =
      fun_ext (λ x. cond_swap (same_tag x s) (same_tag x t) u v (e x) (λ p q. other_tag s t d (sym (same_tag_lem x s p) ∙ same_tag_lem x t q)))
