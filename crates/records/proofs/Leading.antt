-- What a read found, and the loop that looks for the first malformed record.
use mathlib.Core.Path.{◌≡◌, refl, sym, ◌∙◌}
use Prim.Native.Nat.{ℕ, zero, suc, ◌+◌, ◌/◌, ◌%◌, ◌<◌, ◌≤◌}
use native.Mathlib.Numerals.{add-one}
use native.Mathlib.Omega.{arith}
use mathlib.Core.Bool.{Bool, true, false, cond}
use mathlib.Core.List.{List, [], ◌∷◌}
use mathlib.Core.Option.{Option as Maybe, none, some}
use lib.Dec.{eqb, leb, ltb}
use lib.ListN.{length, drop, get_elem?}
use borrow.Author.Tests.{eqb-true, leb-true, ltb-false}
use Rattle.records.specs.declared.Record.{Record}
use Rattle.std.specs.Prelude.{Option, Some, None}
use Rattle.records.specs.declared.Refusal.{Refusal}
use Rattle.records.specs.Records.{records, found, is_whole}
use Rattle.records.specs.declared.Refusal.TheVariants.{BadLength}
use Rattle.records.specs.Scan.{refused, accepted, leading, judged, scanned}
use Rattle.records.proofs.Basics.{both, got_not_fails}
use Rattle.records.proofs.Tabulate.{length-records}

-- what a read found
found_is : (o : Maybe Record) {r : Record} → found o ≡ Some r → o ≡ some r
found_is none e = let z : ◌≡◌ {A = ℕ} 0 1 = cc in absurd (omega arith)
found_is (some s) e = cc

found_none : (o : Maybe Record) → found o ≡ None → o ≡ none
found_none none e = refl
found_none (some s) e = let z : ◌≡◌ {A = ℕ} 0 1 = cc in absurd (omega arith)

module _ (b : List ℕ) (n : ℕ) {f : Option Record} (e : f ≡ found (get_elem? (records b) n)) where
  pub read_is : {r : Record} → f ≡ Some r → get_elem? (records b) n ≡ some r
  read_is g = found_is (get_elem? (records b) n) (sym e ∙ g)

  pub read-none : f ≡ None → get_elem? (records b) n ≡ none
  read-none g = found_none (get_elem? (records b) n) (sym e ∙ g)

pub found_inside : {A : Type 0} (xs : List A) (n : ℕ) {x : A} → get_elem? xs n ≡ some x → n < length xs
found_inside [] n e = let z : ◌≡◌ {A = ℕ} 0 1 = cc in absurd (omega arith)
found_inside (y ∷ xs) zero e = omega arith
found_inside (y ∷ xs) (suc n) e = omega (arith, found_inside xs n e)

pub record_within : (b : List ℕ) (n : ℕ) {r : Record} → get_elem? (records b) n ≡ some r → n < length b / 8
record_within b n e = rw length-records at (found_inside (records b) n e)

pub drop_some : {A : Type 0} (xs : List A) (n : ℕ) {x : A} → get_elem? xs n ≡ some x → drop n xs ≡ x ∷ drop (suc n) xs
drop_some [] n e = let z : ◌≡◌ {A = ℕ} 0 1 = cc in absurd (omega arith)
drop_some (y ∷ xs) zero e = cc
drop_some (y ∷ xs) (suc n) e = drop_some xs n e

-- what an accepted scan says
pub record Whole (right : Record → Bool) (b : List ℕ) : Type 0 where
  pub even : length b % 8 ≡ 0
  pub few : length b ≤ 8192
  pub formed : length (records b) ≤ leading right (records b)

pub scan_says : (n : Refusal) (right : Record → Bool) (b : List ℕ) → scanned n right b ≡ accepted → Whole right b
scan_says n right b e = whole (is_whole b) refl e
  where
    k : ℕ
    k = leading right (records b)

    all : (t : Bool) → ltb k (length b / 8) ≡ t → cond t (refused n k) accepted ≡ accepted → length b / 8 ≤ k
    all true f g = got_not_fails g
    all false f g = ltb-false k (length b / 8) f

    whole : (t : Bool) → is_whole b ≡ t → cond t (judged n k (length b / 8)) (refused BadLength 0) ≡ accepted → Whole right b
    whole true f g =
        let w = both (eqb (length b % 8) 0) (leb (length b) 8192) f in
        record {
          even = eqb-true (length b % 8) 0 w.0;
          few = leb-true (length b) 8192 w.1;
          formed = rw (length-records b) (all (ltb k (length b / 8)) refl g);
        }
    whole false f g = got_not_fails g

module _ {A : Type 0} (right : A → Bool) (xs : List A) where
  -- n are counted, and the rest is still to be counted
  abbrev pub Counted : ℕ → Type 0
  Counted n = n + leading right (drop n xs) ≡ leading right xs

  module _ (n : ℕ) where
    pub counted_more : {x : A} → get_elem? xs n ≡ some x → right x ≡ true → Counted n → Counted (n + 1)
    counted_more {x} e t h =
        let one : leading right (drop n xs) ≡ suc (leading right (drop (suc n) xs)) = rw (drop_some xs n e, t) refl in
        let same : drop (n + 1) xs ≡ drop (suc n) xs = rw add-one refl in
        rw same (omega (arith, one, h))

    pub counted_stop : {x : A} → get_elem? xs n ≡ some x → right x ≡ false → Counted n → n ≡ leading right xs
    counted_stop e t h = let last : leading right (drop n xs) ≡ 0 = rw (drop_some xs n e, t) refl in omega (arith, last, h)
