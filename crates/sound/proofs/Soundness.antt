-- When a machine is sound, and what that says of its parts.
use Prim.Native.Nat.{ℕ, ◌≤◌, ◌<◌}
use native.Mathlib.Omega.{arith}
use mathlib.Core.Path.{◌≡◌, refl, sym, ap, ◌∙◌}
use mathlib.Core.Bool.{Bool, true, false, cond, ◌||◌, or_assoc, true≢false, false≢true}
use mathlib.Core.List.{List, [], ◌∷◌, ◌++◌}
use lib.ListN.{length}
use Rattle.value.specs.declared.Value.{Value}
use Rattle.isa.specs.declared.InstrAddr.{InstrAddr}
use Rattle.isa.specs.declared.Tag.{Tag}
use Rattle.isa.specs.Instruction.{last_operation}
use Rattle.templates.specs.declared.Operand.{Operand}
use Rattle.templates.specs.declared.Operand.TheVariants.{Known, Waits}
use Rattle.templates.specs.declared.Work.{Work}
use Rattle.templates.specs.declared.Work.TheVariants.{Done, Op, Jz, Load, Store}
use Rattle.templates.specs.declared.Register.{Register}
use Rattle.templates.specs.declared.Counter.{Counter}
use Rattle.templates.specs.declared.Counter.TheVariants.{At, Stall}
use Rattle.templates.specs.Templates.{no_tag, same_tag, makes, waits, any_reg}
use Rattle.templates.specs.Machine.{Itb, ITB, any_makes, Mach, room, last_tag}
use Rattle.sound.specs.Sound.{Produced, none, also, after, after_all, is_jz, any_jz, is_empty, ends_in_jz}
use Rattle.sound.proofs.Basics.{neither, tag-itself, tags_differ, either_way}

-- ---- the test's parts as statements

abbrev pub Ready : Produced → Operand → Type 0
Ready made (Known v) = Unit
Ready made (Waits t) = made t ≡ true

abbrev pub New : Produced → Tag → Type 0
New made t = (0 < t.0) × (t.0 ≤ last_tag) × (made t ≡ false)

abbrev pub WorkOk : Produced → Work → Type 0
WorkOk made (Done t v) = New made t
WorkOk made (Op t n x y) = New made t × Ready made x × Ready made y × (n ≤ last_operation)
WorkOk made (Jz x y) = Ready made x × Ready made y
WorkOk made (Load t x) = New made t × Ready made x
WorkOk made (Store x y) = Ready made x × Ready made y

abbrev pub TemplatesOk : ℕ → Produced → List Itb → Type 0
TemplatesOk k made [] = Unit
TemplatesOk k made (x ∷ xs) = (x.address.0 < k) × WorkOk made x.work × TemplatesOk k (after x.work made) xs

abbrev pub Alone : Operand → List Register → Type 0
Alone (Known v) rf = Unit
Alone (Waits t) rf = any_reg t rf ≡ false

abbrev pub RegistersOk : Produced → List Register → Type 0
RegistersOk made [] = Unit
RegistersOk made (r ∷ rf) = Ready made r.holds × Alone r.holds rf × RegistersOk made rf

abbrev pub CounterOk : Counter → List Itb → Type 0
CounterOk (At a) xs = any_jz xs ≡ false
CounterOk Stall xs = ends_in_jz xs ≡ true

-- of a program of k instructions
pub record Sound (k : ℕ) (σ : Mach) : Type 0 where
  pub few : length σ.held ≤ room
  pub templates : TemplatesOk k none σ.held
  pub registers : RegistersOk (after_all σ.held none) σ.registers
  pub counter : CounterOk σ.counter σ.held

-- ---- templates in two parts

module _ (k : ℕ) where
  pub templates-left : (made : Produced) (xs ys : List Itb) → TemplatesOk k made (xs ++ ys) → TemplatesOk k made xs
  templates-left made [] ys h = tt
  templates-left made (x ∷ xs) ys h = (h.0, h.1, templates-left (after x.work made) xs ys h.2)

  pub templates_right : (made : Produced) (xs ys : List Itb) → TemplatesOk k made (xs ++ ys) → TemplatesOk k (after_all xs made) ys
  templates_right made [] ys h = h
  templates_right made (x ∷ xs) ys h = templates_right (after x.work made) xs ys h.2

  pub templates-append : (made : Produced) (xs ys : List Itb) → TemplatesOk k made xs → TemplatesOk k (after_all xs made) ys → TemplatesOk k made (xs ++ ys)
  templates-append made [] ys h g = g
  templates-append made (x ∷ xs) ys h g = (h.0, h.1, templates-append (after x.work made) xs ys h.2 g)

pub produced-append : (made : Produced) (xs ys : List Itb) → after_all (xs ++ ys) made ≡ after_all ys (after_all xs made)
produced-append made [] ys = refl
produced-append made (x ∷ xs) ys = produced-append (after x.work made) xs ys

-- ---- a tag that has a producer gets no second one

pub also-itself : (made : Produced) (t : Tag) → also t made t ≡ true
also-itself made t = rw (tag-itself t)

pub also_keeps : (made : Produced) (s t : Tag) → made t ≡ true → also s made t ≡ true
also_keeps made s t h = either (same_tag t s)
  where
    either : (b : Bool) → (b || made t) ≡ true
    either true = refl
    either false = h

after_keeps : (w : Work) (made : Produced) (t : Tag) → made t ≡ true → after w made t ≡ true
after_keeps (Done s v) made t h = also_keeps made s t h
after_keeps (Op s n x y) made t h = also_keeps made s t h
after_keeps (Jz x y) made t h = h
after_keeps (Load s x) made t h = also_keeps made s t h
after_keeps (Store x y) made t h = h

module _ (made : Produced) (t : Tag) (h : made t ≡ true) where
  new_differs : (s : Tag) → New made s → same_tag s t ≡ false
  new_differs s n = tags_differ s t (λ q. true≢false (sym h ∙ ap made (sym q) ∙ n.2))

  no_tag_differs : 0 < t.0 → same_tag no_tag t ≡ false
  no_tag_differs p = tags_differ no_tag t (λ q. let z : 0 ≡ t.0 = λ i. (q i).0 in omega arith)

  makes_differs : (w : Work) → 0 < t.0 → WorkOk made w → same_tag (makes w) t ≡ false
  makes_differs (Done s v) p ok = new_differs s ok
  makes_differs (Op s n x y) p ok = new_differs s ok.0
  makes_differs (Jz x y) p ok = no_tag_differs p
  makes_differs (Load s x) p ok = new_differs s ok.0
  makes_differs (Store x y) p ok = no_tag_differs p

none-makes : (k : ℕ) (made : Produced) (t : Tag) (xs : List Itb) → 0 < t.0 → made t ≡ true → TemplatesOk k made xs → any_makes t xs ≡ false
none-makes k made t [] p h ok = refl
none-makes k made t (x ∷ xs) p h ok =
    rw (makes_differs made t h x.work p ok.1, none-makes k (after x.work made) t xs p (after_keeps x.work made t h) ok.2)

-- a value template's tag is made by no later one
pub value_made_once : (k : ℕ) (pre : List Itb) (a : InstrAddr) (t : Tag) (v : Value) (post : List Itb)
    → TemplatesOk k none (pre ++ ITB a (Done t v) ∷ post) → any_makes t post ≡ false
value_made_once k pre a t v post ok =
    let made = after_all pre none in
    let g = templates_right k none pre (ITB a (Done t v) ∷ post) ok in
    none-makes k (also t made) t post g.1.0 (also-itself made t) g.2

-- ---- a tag that no template makes has no producer, and no register holds it

after_other : (w : Work) (made : Produced) (t : Tag) → same_tag (makes w) t ≡ false → after w made t ≡ made t
after_other (Done s v) made t h = rw (either_way s t h)
after_other (Op s n x y) made t h = rw (either_way s t h)
after_other (Jz x y) made t h = refl
after_other (Load s x) made t h = rw (either_way s t h)
after_other (Store x y) made t h = refl

pub produced_other : (xs : List Itb) (made : Produced) (t : Tag) → any_makes t xs ≡ false → after_all xs made t ≡ made t
produced_other [] made t h = refl
produced_other (x ∷ xs) made t h =
    let n = neither (same_tag (makes x.work) t) (any_makes t xs) h in
    produced_other xs (after x.work made) t n.1 ∙ after_other x.work made t n.0

module _ (made : Produced) (t : Tag) (h : made t ≡ false) where
  unheld : (x : Operand) → Ready made x → waits t x ≡ false
  unheld (Known v) r = refl
  unheld (Waits s) r = tags_differ s t (λ q. true≢false (sym r ∙ ap made q ∙ h))

  pub none-holds : (rf : List Register) → RegistersOk made rf → any_reg t rf ≡ false
  none-holds [] ok = refl
  none-holds (r ∷ rf) ok = rw (unheld r.holds ok.0, none-holds rf ok.2)

pub fresh_unheld : (k : ℕ) (σ : Mach) (t : Tag) → Sound k σ → any_makes t σ.held ≡ false → any_reg t σ.registers ≡ false
fresh_unheld k σ t s h = none-holds (after_all σ.held none) t (produced_other σ.held none t h) σ.registers s.registers

-- ---- where a Jz can stand

pub any_jz-append : (xs ys : List Itb) → any_jz (xs ++ ys) ≡ (any_jz xs || any_jz ys)
any_jz-append [] ys = refl
any_jz-append (x ∷ xs) ys = rw (any_jz-append xs ys) (sym (or_assoc (is_jz x.work) (any_jz xs) (any_jz ys)))

pub no_jz_append : (xs ys : List Itb) → any_jz xs ≡ false → any_jz ys ≡ false → any_jz (xs ++ ys) ≡ false
no_jz_append xs ys h g = any_jz-append xs ys ∙ rw (h, g)

pub ends-append : (xs ys : List Itb) → any_jz xs ≡ false → ends_in_jz ys ≡ true → ends_in_jz (xs ++ ys) ≡ true
ends-append [] ys h g = g
ends-append (x ∷ xs) ys h g =
    let n = neither (is_jz x.work) (any_jz xs) h in
    rw n.0 (ends-append xs ys n.1 g)

pub not_empty : (xs : List Itb) (y : Itb) (ys : List Itb) → is_empty (xs ++ y ∷ ys) ≡ false
not_empty [] y ys = refl
not_empty (x ∷ xs) y ys = refl

empty : (xs : List Itb) → is_empty xs ≡ true → xs ≡ []
empty [] h = refl
empty (x ∷ xs) h = absurd (false≢true h)

-- of a list that ends in its only Jz: what stands before another template has none, and what follows ends so too
module _ (x : Itb) (post : List Itb) where
  goes_on : (jz : Bool) (pre : List Itb) → cond jz (is_empty (pre ++ x ∷ post)) (ends_in_jz (pre ++ x ∷ post)) ≡ true
      → (jz ≡ false) × (ends_in_jz (pre ++ x ∷ post) ≡ true)
  goes_on true pre h = absurd (false≢true (sym (not_empty pre x post) ∙ h))
  goes_on false pre h = (refl, h)

  pub ends_parts : (pre : List Itb) → ends_in_jz (pre ++ x ∷ post) ≡ true → (any_jz pre ≡ false) × (ends_in_jz (x ∷ post) ≡ true)
  ends_parts [] h = (refl, h)
  ends_parts (y ∷ pre) h =
      let g = goes_on (is_jz y.work) pre h in
      let r = ends_parts pre g.1 in
      (rw g.0 r.0, r.1)

  pub straight : (c : Counter) (pre : List Itb) → CounterOk c (pre ++ x ∷ post) → any_jz pre ≡ false
  straight (At a) pre h = (neither (any_jz pre) (any_jz (x ∷ post)) (sym (any_jz-append pre (x ∷ post)) ∙ h)).0
  straight Stall pre h = (ends_parts pre h).0

-- a Jz is the last
pub jz_last : (c : Counter) (pre : List Itb) (a : InstrAddr) (x y : Operand) (post : List Itb)
    → CounterOk c (pre ++ ITB a (Jz x y) ∷ post) → post ≡ []
jz_last (At b) pre a x y post h = absurd (true≢false (neither (any_jz pre) true (sym (any_jz-append pre (ITB a (Jz x y) ∷ post)) ∙ h)).1)
jz_last Stall pre a x y post h = empty post (ends_parts (ITB a (Jz x y)) post pre h).1
