-- What stands in memory, and what a store leaves there.
use mathlib.Core.Path.{◌≡◌, refl, sym, ap, ap₂, ◌∙◌}
use Prim.Native.Nat.{ℕ, zero, suc, ◌*◌, ◌/◌, ◌%◌, ◌^◌, ◌<◌, ◌≤◌}
use native.Mathlib.Decide.{dec_lt}
use native.Mathlib.Omega.{arith}
use mathlib.Core.Bool.{Bool, true, false, cond, ◌&&◌, ◌||◌}
use mathlib.Core.List.{List, [], ◌∷◌, map}
use mathlib.Core.Option
use mathlib.Core.Option.{none, some}
use lib.Dec.{eqb}
use lib.ListN.{length, get_or, set, get_elem?, length-map}
use lib.Seq.{sets, set_out}
use borrow.Author.Tests.{eqb-true, eq-eqb, le-leb, le-ltb}
use Rattle.records.specs.declared.Record.{Record}
use Rattle.records.specs.declared.Refusal.TheVariants.{BadCell}
use Rattle.records.specs.Records
use Rattle.records.specs.Records.{records, bytes, replaced}
use Rattle.records.specs.Scan.{accepted, leading}
use Rattle.records.proofs.Basics.{both}
use Rattle.records.proofs.Tabulate.{length-records}
use Rattle.records.proofs.Leading.{scan_says}
use Rattle.records.proofs.Replaced.{replaced-at, replaced_past, records-replaced}
use Rattle.records.proofs.Image
use Rattle.records.proofs.Image.{length-image, image-records, records-image, image-set}
use Rattle.value.specs.declared.Value.{Value}
use Rattle.value.specs.declared.Value.TheVariants.{Undefined, Word}
use Rattle.cells.specs.Cells.{value_of, is_cell, record_of, cells, image, Formed, scan_of}

pub map_at : {A B : Type 0} (f : A → B) (xs : List A) (n : ℕ) → get_elem? (map f xs) n ≡ Option.map f (get_elem? xs n)
map_at f [] n = refl
map_at f (x ∷ xs) zero = refl
map_at f (x ∷ xs) (suc n) = map_at f xs n

module _ (b : List ℕ) (n : ℕ) where
  pub cell_at : {r : Record} → get_elem? (records b) n ≡ some r → get_elem? (cells b) n ≡ some (value_of r)
  unfolding cells
  cell_at e = map_at value_of (records b) n ∙ ap (Option.map value_of) e

  pub cell_past : get_elem? (records b) n ≡ none → get_elem? (cells b) n ≡ none
  unfolding cells
  cell_past e = map_at value_of (records b) n ∙ ap (Option.map value_of) e

pub length-cells : (b : List ℕ) → length (cells b) ≡ length b / 8
unfolding cells
length-cells b = length-map (records b) value_of ∙ length-records b

map-set : {A B : Type 0} (f : A → B) (xs : List A) (i : ℕ) (x : A) → map f (set xs i x) ≡ set (map f xs) i (f x)
map-set f [] zero x = refl
map-set f [] (suc i) x = refl
map-set f (y ∷ xs) zero x = refl
map-set f (y ∷ xs) (suc i) x = ap (λ ys. f y ∷ ys) (map-set f xs i x)

map_again : {A B : Type 0} (f : B → A) (g : A → B) (xs : List A) → ((x : A) → f (g x) ≡ x) → map f (map g xs) ≡ xs
map_again f g [] h = refl
map_again f g (x ∷ xs) h = ap₂ ◌∷◌ (h x) (map_again f g xs h)

-- ---- a value and its record

value_again : (v : Value) → value_of (record_of v) ≡ v
value_again Undefined = refl
value_again (Word w) = refl

record_again : (r : Record) → is_cell r ≡ true → record_of (value_of r) ≡ r
record_again r h =
    let p = both (eqb r.b1 0 && eqb r.b2 0 && eqb r.b3 0) (eqb r.b0 1 || (eqb r.b0 0 && eqb r.word 0)) h in
    let q = both (eqb r.b1 0 && eqb r.b2 0) (eqb r.b3 0) p.0 in
    let s = both (eqb r.b1 0) (eqb r.b2 0) q.0 in
    marked (eqb-true _ _ s.0) (eqb-true _ _ s.1) (eqb-true _ _ q.1) (eqb r.b0 1) refl p.1
  where
    marked : r.b1 ≡ 0 → r.b2 ≡ 0 → r.b3 ≡ 0 → (t : Bool) → eqb r.b0 1 ≡ t → (t || (eqb r.b0 0 && eqb r.word 0)) ≡ true
        → record_of (cond t (Word r.word) Undefined) ≡ r
    marked x y z true e d =
        let m = eqb-true _ _ e in
        λ i. record { b0 = sym m i; b1 = sym x i; b2 = sym y i; b3 = sym z i; word = r.word }
    marked x y z false e d =
        let u = both (eqb r.b0 0) (eqb r.word 0) d in
        let m = eqb-true _ _ u.0 in
        let w = eqb-true _ _ u.1 in
        λ i. record { b0 = sym m i; b1 = sym x i; b2 = sym y i; b3 = sym z i; word = sym w i }

records_again : (rs : List Record) → length rs ≤ leading is_cell rs → map record_of (map value_of rs) ≡ rs
records_again [] h = refl
records_again (r ∷ rs) h = first (is_cell r) refl h (λ l. records_again rs l)
  where
    first : (t : Bool) → is_cell r ≡ t → suc (length rs) ≤ cond t (suc (leading is_cell rs)) 0
        → (length rs ≤ leading is_cell rs → map record_of (map value_of rs) ≡ rs) → record_of (value_of r) ∷ map record_of (map value_of rs) ≡ r ∷ rs
    first true e l rest = ap₂ ◌∷◌ (record_again r e) (rest (omega arith))
    first false e l rest = absurd (omega arith)

-- ---- memory and its values say each other

pub image-cells : (b : List ℕ) → scan_of b ≡ accepted → ((i : ℕ) → get_or b i 0 < 256) → Formed b
unfolding cells image scan_of
image-cells b e small =
    let w = scan_says BadCell is_cell b e in
    ap Records.image (records_again (records b) w.formed) ∙ image-records b small w.even

-- every word of m is a word
abbrev pub Words : List Value → Type 0
Words m = Image.Words (map record_of m)

pub cells-image : (m : List Value) → Words m → cells (image m) ≡ m
unfolding cells image
cells-image m w = ap (map value_of) (records-image (map record_of m) w) ∙ map_again value_of record_of m value_again

-- the bytes of values are well formed
pub scan-image : (m : List Value) → Words m → length m ≤ 1024 → scan_of (image m) ≡ accepted
unfolding scan_of image
scan-image m w h =
    let rs = map record_of m in
    let long : length (Records.image rs) ≡ 8 * length m = length-image rs ∙ ap (λ (n : ℕ). 8 * n) (length-map m record_of) in
    let whole : length (Records.image rs) % 8 ≡ 0 = omega arith in
    let few : length (Records.image rs) ≤ 8192 = omega arith in
    let count : length (Records.image rs) / 8 ≤ leading is_cell (records (Records.image rs)) =
    rw (records-image rs w, all-cells m) (omega arith) in
    rw (eq-eqb _ _ whole, le-leb _ _ few, le-ltb _ _ count) refl
  where
    all-cells : (m : List Value) → leading is_cell (map record_of m) ≡ length m
    all-cells [] = refl
    all-cells (Undefined ∷ m) = ap suc (all-cells m)
    all-cells (Word w ∷ m) = ap suc (all-cells m)

-- ---- a store

module _ (b : List ℕ) (a : ℕ) (v : Value) where
  pub stored-cells : (record_of v).word < 2 ^ 32 → cells (replaced b a (record_of v)) ≡ set (cells b) a v
  unfolding cells
  stored-cells h =
      ap (map value_of) (records-replaced b a (record_of v) h)
      ∙ map-set value_of (records b) a (record_of v)
      ∙ ap (set (map value_of (records b)) a) (value_again v)

  pub stored-image : Formed b → replaced b a (record_of v) ≡ image (set (cells b) a v)
  unfolding image
  stored-image f = inside (dec_lt a (length b / 8))
    where
      rs : List Record
      rs = map record_of (cells b)

      same : (c : List ℕ) → c ≡ b → sets c (8 * a) (bytes (record_of v)) ≡ sets b (8 * a) (bytes (record_of v))
      same c e = ap (λ (c : List ℕ). sets c (8 * a) (bytes (record_of v))) e

      inside : Dec (a < length b / 8) → replaced b a (record_of v) ≡ Records.image (map record_of (set (cells b) a v))
      inside (yes l) =
          replaced-at b a (record_of v) l
          ∙ sym (same (Records.image rs) f)
          ∙ image-set rs a (record_of v) (rw (length-map (cells b) record_of, length-cells b) l)
          ∙ ap Records.image (sym (map-set record_of (cells b) a v))
      inside (no l) =
          replaced_past b a (record_of v) (omega arith)
          ∙ sym f
          ∙ ap (λ (m : List Value). Records.image (map record_of m)) (sym (set_out (cells b) a v (rw (length-cells b) (omega arith))))
