-- What is coded is read back, and what is found and done on a coded template is found and done on the template.
use mathlib.Core.Path.{◌≡◌, refl, sym, ap, ap₂, ◌∙◌}
use mathlib.Core.Logic.{◌≢◌}
use Prim.Native.Nat.{ℕ, ◌+◌, ◌-◌, ◌/◌, ◌%◌, ◌≤◌, ◌<◌}
use native.Mathlib.Omega.{arith}
use mathlib.Core.Bool.{Bool, true, false, cond, not, ◌||◌, or-true, or-false, true≢false}
use mathlib.Core.List.{[], ◌∷◌}
use lib.Dec.{eqb, ltb, leb}
use borrow.Author.Tests.{lt-ltb, le-leb, lt-leb, ltb-true, eq-eqb, ne_eqb, eqb-true, eqb-false}
use Rattle.value.specs.declared.Value.{Value}
use Rattle.value.specs.declared.Value.TheVariants.{Undefined, Word}
use Rattle.isa.specs.declared.InstrAddr.{InstrAddr}
use Rattle.isa.specs.declared.Tag.{Tag}
use Rattle.templates.specs.declared.Operand.{Operand}
use Rattle.templates.specs.declared.Operand.TheVariants.{Known, Waits}
use Rattle.templates.specs.declared.Work.{Work}
use Rattle.templates.specs.declared.Work.TheVariants.{Done, Op, Jz, Load, Store}
use Rattle.templates.specs.Templates.{no_tag, same_tag, waits, holds, makes, is_memory, fill, fill_work}
use Rattle.templates.specs.Machine.{Itb, ITB, nothing, fill_itb}
use Rattle.rows.specs.Rows.{Row, a_value, an_op, a_jz, a_load, a_store, no_word, waiting, value_number, number, value_of, operand_of, head_of, row_by, row_of, head, one, two, kind_of, operation_of, tag_of, address_of, work_by, itb_of, holds_row, is_filled, fill_number, fill_row}
use Rattle.rows.specs.Answers.{SmallTag, SmallValue, SmallOperand, SmallWork, Small}

-- by a test, with what it says
pub test : {P : Type 0} (b : Bool) → (b ≡ true → P) → (b ≡ false → P) → P
test true f g = f refl
test false f g = g refl

-- ---- one number

pub value_back : (v : Value) → SmallValue v → value_of (value_number v) ≡ v
value_back Undefined s = refl
value_back (Word w) s = rw (lt-ltb w no_word s) refl

value_low : (v : Value) → SmallValue v → value_number v ≤ no_word
value_low Undefined s = omega arith
value_low (Word w) s = omega (arith, s)

pub operand_back : (o : Operand) → SmallOperand o → operand_of (number o) ≡ o
operand_back (Known v) s = rw (le-leb (value_number v) no_word (value_low v s)) (ap Known (value_back v s))
operand_back (Waits t) s =
    let e : (4294967297 + t.0 - 4294967297) % 256 ≡ t.0 = omega (arith, s) in
    rw (lt-leb (4294967297 + t.0) no_word (omega arith)) (λ i. Waits (record { 0 = e i }))

-- what is read is small
pub value-small : (k : ℕ) → SmallValue (value_of k)
value-small k = test (ltb k no_word) (λ e. rw e (ltb-true k no_word e)) (λ e. rw e tt)

pub operand_small : (k : ℕ) → SmallOperand (operand_of k)
operand_small k = test (leb k no_word) (λ e. rw e (value-small k)) (λ e. rw e (omega arith))

-- ---- one head

module _ (kind op : ℕ) (t : Tag) (a : InstrAddr) (hk : kind < 8) (ho : op < 256) (ht : t.0 < 256) (ha : a.0 < 4294967296) where
  abbrev h : ℕ
  h = head_of kind op t a

  pub kind_back : kind_of h ≡ kind
  kind_back = omega arith

  pub operation_back : operation_of h ≡ op
  operation_back = omega arith

  pub tag_back : tag_of h ≡ t
  tag_back = let e : h / 2048 % 256 ≡ t.0 = omega arith in λ i. record { 0 = e i }

  pub address_back : address_of h ≡ a
  address_back = let e : h / 4294967296 % 4294967296 ≡ a.0 = omega arith in λ i. record { 0 = e i }

-- ---- one row

work_back : (a : InstrAddr) → a.0 < 4294967296 → (w : Work) → SmallWork w → itb_of (row_by a w) ≡ ITB a w
work_back a s (Done t v) r =
    rw (kind_back a_value 0 t a (omega arith) (omega arith) r.0 s, tag_back a_value 0 t a (omega arith) (omega arith) r.0 s, address_back a_value 0 t a (omega arith) (omega arith) r.0 s, value_back v r.1) refl
work_back a s (Op t n x y) r =
    rw (kind_back an_op n t a (omega arith) r.1 r.0 s, tag_back an_op n t a (omega arith) r.1 r.0 s, operation_back an_op n t a (omega arith) r.1 r.0 s, address_back an_op n t a (omega arith) r.1 r.0 s, operand_back x r.2, operand_back y r.3) refl
work_back a s (Jz x y) r =
    rw (kind_back a_jz 0 no_tag a (omega arith) (omega arith) (omega arith) s, address_back a_jz 0 no_tag a (omega arith) (omega arith) (omega arith) s, operand_back x r.0, operand_back y r.1) refl
work_back a s (Load t x) r =
    rw (kind_back a_load 0 t a (omega arith) (omega arith) r.0 s, tag_back a_load 0 t a (omega arith) (omega arith) r.0 s, address_back a_load 0 t a (omega arith) (omega arith) r.0 s, operand_back x r.1) refl
work_back a s (Store x y) r =
    rw (kind_back a_store 0 no_tag a (omega arith) (omega arith) (omega arith) s, address_back a_store 0 no_tag a (omega arith) (omega arith) (omega arith) s, operand_back x r.0, operand_back y r.1) refl

pub row_back : (x : Itb) → Small x → itb_of (row_of x) ≡ x
row_back x s = work_back x.address s.0 x.work s.1

-- what is read is small
work-small : (k n a b : ℕ) → SmallWork (work_by k n a b)
work-small k n a b =
    test (eqb k a_value) (λ e. rw e (omega arith, value-small a))
    (λ e. test (eqb k an_op) (λ f. rw (e, f) (omega arith, omega arith, operand_small a, operand_small b))
    (λ f. test (eqb k a_jz) (λ g. rw (e, f, g) (operand_small a, operand_small b))
    (λ g. test (eqb k a_load) (λ q. rw (e, f, g, q) (omega arith, operand_small a))
    (λ q. rw (e, f, g, q) (operand_small a, operand_small b)))))

pub row_small : (x : Row) → Small (itb_of x)
row_small x = (omega arith, work-small (kind_of (head x)) (head x) (one x) (two x))

-- ---- a tag is held where its number stands

same_far : (s t : ℕ) → eqb (4294967297 + s) (4294967297 + t) ≡ eqb s t
same_far s t = test (eqb s t) (λ e. rw e (eq-eqb (4294967297 + s) (4294967297 + t) (ap (λ (k : ℕ). 4294967297 + k) (eqb-true s t e)))) (λ e. rw e (ne_eqb (4294967297 + s) (4294967297 + t) (λ q. eqb-false s t e (omega (arith, q)))))

module _ (t : Tag) where
  value-no_tag : (v : Value) → SmallValue v → eqb (value_number v) (waiting t) ≡ false
  value-no_tag v s = ne_eqb (value_number v) (waiting t) (λ e. omega (arith, e, value_low v s))

  none-no_tag : eqb no_word (waiting t) ≡ false
  none-no_tag = ne_eqb no_word (waiting t) (λ e. omega (arith, e))

  pub waits-number : (o : Operand) → SmallOperand o → eqb (number o) (waiting t) ≡ waits t o
  waits-number (Known v) s = value-no_tag v s
  waits-number (Waits u) s = same_far u.0 t.0

  holds-work : (a : InstrAddr) (w : Work) → SmallWork w → holds_row (waiting t) (row_by a w) ≡ holds t w
  holds-work a (Done u v) s = rw (value-no_tag v s.1, none-no_tag) refl
  holds-work a (Op u n x y) s = ap₂ ◌||◌ (waits-number x s.2) (waits-number y s.3)
  holds-work a (Jz x y) s = ap₂ ◌||◌ (waits-number x s.0) (waits-number y s.1)
  holds-work a (Load u x) s = rw none-no_tag (or-false (eqb (number x) (waiting t)) ∙ waits-number x s.1)
  holds-work a (Store x y) s = ap₂ ◌||◌ (waits-number x s.0) (waits-number y s.1)

  pub holds_row_lem : (x : Itb) → Small x → holds_row (waiting t) (row_of x) ≡ holds t x.work
  holds_row_lem x s = holds-work x.address x.work s.1

  -- ---- a value filled in
  module _ (v : Value) where
    filled-tag : (s : ℕ) (b : Bool) → cond b (value_number v) (4294967297 + s) ≡ number (cond b (Known v) (Waits (record { 0 = s })))
    filled-tag s true = refl
    filled-tag s false = refl

    pub fill_number_lem : (o : Operand) → SmallOperand o → fill_number (waiting t) (value_number v) (number o) ≡ number (fill t v o)
    fill_number_lem (Known u) s = rw (value-no_tag u s) refl
    fill_number_lem (Waits u) s = rw (same_far u.0 t.0) (filled-tag u.0 (eqb u.0 t.0))

    value_stays : (u : Value) → SmallValue u → fill_number (waiting t) (value_number v) (value_number u) ≡ value_number u
    value_stays u s = rw (value-no_tag u s) refl

    none_stays : fill_number (waiting t) (value_number v) no_word ≡ no_word
    none_stays = rw none-no_tag refl

    abbrev three : ℕ → ℕ → ℕ → Row
    three h a b = h ∷ a ∷ b ∷ []

    fill_work_lem : (a : InstrAddr) (w : Work) → SmallWork w → fill_row (waiting t) (value_number v) (row_by a w) ≡ row_by a (fill_work t v w)
    fill_work_lem a (Done u x) s = ap₂ (three (head_of a_value 0 u a)) (value_stays x s.1) none_stays
    fill_work_lem a (Op u n x y) s = ap₂ (three (head_of an_op n u a)) (fill_number_lem x s.2) (fill_number_lem y s.3)
    fill_work_lem a (Jz x y) s = ap₂ (three (head_of a_jz 0 no_tag a)) (fill_number_lem x s.0) (fill_number_lem y s.1)
    fill_work_lem a (Load u x) s = ap₂ (three (head_of a_load 0 u a)) (fill_number_lem x s.1) none_stays
    fill_work_lem a (Store x y) s = ap₂ (three (head_of a_store 0 no_tag a)) (fill_number_lem x s.0) (fill_number_lem y s.1)

    pub fill_row_lem : (x : Itb) → Small x → fill_row (waiting t) (value_number v) (row_of x) ≡ row_of (fill_itb t v x)
    fill_row_lem x s = fill_work_lem x.address x.work s.1

    -- it stays small
    module _ (sv : SmallValue v) where
      either-small : (u : Tag) → SmallTag u → (b : Bool) → SmallOperand (cond b (Known v) (Waits u))
      either-small u s true = sv
      either-small u s false = s

      pub fill-small : (o : Operand) → SmallOperand o → SmallOperand (fill t v o)
      fill-small (Known u) s = s
      fill-small (Waits u) s = either-small u s (same_tag u t)

      fill_work-small : (w : Work) → SmallWork w → SmallWork (fill_work t v w)
      fill_work-small (Done u x) s = s
      fill_work-small (Op u n x y) s = (s.0, s.1, fill-small x s.2, fill-small y s.3)
      fill_work-small (Jz x y) s = (fill-small x s.0, fill-small y s.1)
      fill_work-small (Load u x) s = (s.0, fill-small x s.1)
      fill_work-small (Store x y) s = (fill-small x s.0, fill-small y s.1)

      pub fill_itb-small : (x : Itb) → Small x → Small (fill_itb t v x)
      fill_itb-small x s = (s.0, fill_work-small x.work s.1)

-- ---- its kind, whether it is memory's, and what it makes

kind-work : (a : InstrAddr) (w : Work) → a.0 < 4294967296 → SmallWork w → kind_of (head (row_by a w)) ≤ a_store
kind-work a (Done u v) ha s = rw (kind_back a_value 0 u a (omega arith) (omega arith) s.0 ha) (omega arith)
kind-work a (Op u n x y) ha s = rw (kind_back an_op n u a (omega arith) s.1 s.0 ha) (omega arith)
kind-work a (Jz x y) ha s = rw (kind_back a_jz 0 no_tag a (omega arith) (omega arith) (omega arith) ha) (omega arith)
kind-work a (Load u x) ha s = rw (kind_back a_load 0 u a (omega arith) (omega arith) s.0 ha) (omega arith)
kind-work a (Store x y) ha s = rw (kind_back a_store 0 no_tag a (omega arith) (omega arith) (omega arith) ha) (omega arith)

pub kind_row : (x : Itb) → Small x → kind_of (head (row_of x)) ≤ a_store
kind_row x s = kind-work x.address x.work s.0 s.1

memory-work : (a : InstrAddr) (w : Work) → a.0 < 4294967296 → SmallWork w → leb a_load (kind_of (head (row_by a w))) ≡ is_memory w
memory-work a (Done u v) ha s = rw (kind_back a_value 0 u a (omega arith) (omega arith) s.0 ha) refl
memory-work a (Op u n x y) ha s = rw (kind_back an_op n u a (omega arith) s.1 s.0 ha) refl
memory-work a (Jz x y) ha s = rw (kind_back a_jz 0 no_tag a (omega arith) (omega arith) (omega arith) ha) refl
memory-work a (Load u x) ha s = rw (kind_back a_load 0 u a (omega arith) (omega arith) s.0 ha) refl
memory-work a (Store x y) ha s = rw (kind_back a_store 0 no_tag a (omega arith) (omega arith) (omega arith) ha) refl

pub memory-row : (x : Itb) → Small x → leb a_load (kind_of (head (row_of x))) ≡ is_memory x.work
memory-row x s = memory-work x.address x.work s.0 s.1

made_work : (a : InstrAddr) (w : Work) → a.0 < 4294967296 → SmallWork w → tag_of (head (row_by a w)) ≡ makes w
made_work a (Done u v) ha s = tag_back a_value 0 u a (omega arith) (omega arith) s.0 ha
made_work a (Op u n x y) ha s = tag_back an_op n u a (omega arith) s.1 s.0 ha
made_work a (Jz x y) ha s = tag_back a_jz 0 no_tag a (omega arith) (omega arith) (omega arith) ha
made_work a (Load u x) ha s = tag_back a_load 0 u a (omega arith) (omega arith) s.0 ha
made_work a (Store x y) ha s = tag_back a_store 0 no_tag a (omega arith) (omega arith) (omega arith) ha

pub made_row : (x : Itb) → Small x → tag_of (head (row_of x)) ≡ makes x.work
made_row x s = made_work x.address x.work s.0 s.1

-- ---- a row that isn't filled is that of no template

none_here : (t a : ℕ) → head_of a_value 0 (record { 0 = t }) (record { 0 = a }) ≡ 0 → ITB (record { 0 = a }) (Done (record { 0 = t }) Undefined) ≡ nothing
none_here t a e =
    let first : t ≡ 0 = omega (arith, e) in
    let second : a ≡ 0 = omega (arith, e) in
    λ i. ITB (record { 0 = second i }) (Done (record { 0 = first i }) Undefined)

-- one of another kind, or with a word, is filled
head_fills : (h : ℕ) (b : Bool) → h ≢ 0 → (not (eqb h 0) || b) ≡ false → ⊥
head_fills h b d e = true≢false (sym (rw (ne_eqb h 0 d) refl) ∙ e)

filled-work : (a : InstrAddr) (w : Work) → SmallWork w → is_filled (row_by a w) ≡ false → ITB a w ≡ nothing
filled-work a (Done t Undefined) s e = none_here t.0 a.0 (test (eqb (head_of a_value 0 t a) 0) (λ q. eqb-true _ _ q) (λ q. absurd (head_fills (head_of a_value 0 t a) false (λ z. eqb-false _ _ q z) e)))
filled-work a (Done t (Word w)) s e =
    let other : eqb w no_word ≡ false = ne_eqb w no_word (λ q. omega (arith, q, s.1)) in
    absurd (true≢false (sym (rw other (or-true (not (eqb (head_of a_value 0 t a) 0)))) ∙ e))
filled-work a (Op t n x y) s e = absurd (head_fills (head_of an_op n t a) (not (eqb (number x) no_word) || not (eqb (number y) no_word)) (λ q. omega (arith, q)) e)
filled-work a (Jz x y) s e = absurd (head_fills (head_of a_jz 0 no_tag a) (not (eqb (number x) no_word) || not (eqb (number y) no_word)) (λ q. omega (arith, q)) e)
filled-work a (Load t x) s e = absurd (head_fills (head_of a_load 0 t a) (not (eqb (number x) no_word) || false) (λ q. omega (arith, q)) e)
filled-work a (Store x y) s e = absurd (head_fills (head_of a_store 0 no_tag a) (not (eqb (number x) no_word) || not (eqb (number y) no_word)) (λ q. omega (arith, q)) e)

pub filled_row : (x : Itb) → Small x → is_filled (row_of x) ≡ false → x ≡ nothing
filled_row x s e = filled-work x.address x.work s.1 e
