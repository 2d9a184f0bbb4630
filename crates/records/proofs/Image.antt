-- A buffer and its records say each other.
use mathlib.Core.Path.{◌≡◌, refl, sym, ap, ap₂, ◌∙◌}
use Prim.Native.Nat.{ℕ, zero, suc, ◌+◌, ◌*◌, ◌/◌, ◌%◌, ◌^◌, ◌<◌, ◌≤◌}
use native.Mathlib.Omega.{arith}
use native.Mathlib.Numerals.{towards_suc}
use mathlib.Core.List.{List, [], ◌∷◌, ◌++◌}
use lib.ListN.{length, get_or, drop, set, length-append}
use lib.Seq.{sets, drop-cons, drop-length}
use Rattle.records.specs.declared.Record.{Record}
use Rattle.records.specs.Records.{record_from, tabulate, records, bytes, image}
use Rattle.records.proofs.Tabulate.{tabulate_same}
use Rattle.records.proofs.Bytes.{spelt, eight, bytes_of_record}

pub length-image : (rs : List Record) → length (image rs) ≡ 8 * length rs
length-image [] = refl
length-image (r ∷ rs) = omega (arith, length-image rs)

-- ---- the image of a buffer's records is the buffer

-- eight bytes and the rest
eight-first : (b : List ℕ) (at : ℕ) → at + 8 ≤ length b → drop at b ≡ eight b at ++ drop (at + 8) b
eight-first b at h =
    simp (towards_suc, next at (omega arith), next (suc at) (omega arith), next (suc (suc at)) (omega arith), next (suc (suc (suc at))) (omega arith), next (suc (suc (suc (suc at)))) (omega arith), next (suc (suc (suc (suc (suc at))))) (omega arith), next (suc (suc (suc (suc (suc (suc at)))))) (omega arith), next (suc (suc (suc (suc (suc (suc (suc at))))))) (omega arith)) refl
  where
    next : (k : ℕ) → k < length b → drop k b ≡ get_or b k 0 ∷ drop (suc k) b
    next k l = drop-cons b k 0 l

module _ (b : List ℕ) (small : (i : ℕ) → get_or b i 0 < 256) where
  image-from : (n at : ℕ) → at + 8 * n ≡ length b → image (tabulate n (λ i. record_from b (at + 8 * i))) ≡ drop at b
  image-from zero at h = let e : at ≡ length b = omega arith in rw (e, drop-length b) refl
  image-from (suc n) at h =
      let first : at + 8 * 0 ≡ at = omega arith in
      let shifted : (k : ℕ) → at + 8 * suc k ≡ at + 8 + 8 * k = λ k. omega arith in
      ap₂ ◌++◌ (ap (λ (k : ℕ). bytes (record_from b k)) first ∙ bytes_of_record b at small)
      (ap image (tabulate_same n (λ k. record_from b (at + 8 * suc k)) (λ k. record_from b (at + 8 + 8 * k)) (λ k l. ap (record_from b) (shifted k)))
      ∙ image-from n (at + 8) (omega arith))
      ∙ sym (eight-first b at (omega arith))

  pub image-records : length b % 8 ≡ 0 → image (records b) ≡ b
  unfolding records
  image-records h =
      let n = length b / 8 in
      let start : (k : ℕ) → 8 * k ≡ 0 + 8 * k = λ k. omega arith in
      ap image (tabulate_same n (λ k. record_from b (8 * k)) (λ k. record_from b (0 + 8 * k)) (λ k _. ap (record_from b) (start k)))
      ∙ image-from n 0 (omega arith)

-- ---- the records of an image are the records

-- every record's word is a word
abbrev pub Words : List Record → Type 0
Words [] = Unit
Words (r ∷ rs) = (r.word < 2 ^ 32) × Words rs

module _ (r : Record) (c : List ℕ) where
  first-record : r.word < 2 ^ 32 → record_from (bytes r ++ c) 0 ≡ r
  first-record h = λ i. record { b0 = r.b0; b1 = r.b1; b2 = r.b2; b3 = r.b3; word = spelt r.word h i }

  later-record : (i : ℕ) → record_from (bytes r ++ c) (8 * suc i) ≡ record_from c (8 * i)
  later-record i =
      let e : 8 * suc i ≡ suc (suc (suc (suc (suc (suc (suc (suc (8 * i)))))))) = omega arith in
      simp (e, towards_suc) refl

pub records-image : (rs : List Record) → Words rs → records (image rs) ≡ rs
unfolding records
records-image [] w = refl
records-image (r ∷ rs) w =
    let c = image rs in
    let more : length (bytes r ++ c) / 8 ≡ suc (length c / 8) = omega (arith, length-append (bytes r) c) in
    ap (λ (n : ℕ). tabulate n (λ i. record_from (bytes r ++ c) (8 * i))) more
    ∙ ap₂ ◌∷◌ (first-record r c w.0)
    (tabulate_same (length c / 8) (λ i. record_from (bytes r ++ c) (8 * suc i)) (λ i. record_from c (8 * i)) (λ i _. later-record r c i) ∙ records-image rs w.1)

-- ---- replacing a record of an image

sets_behind : (x : ℕ) (l : List ℕ) (k : ℕ) (vs : List ℕ) → sets (x ∷ l) (suc k) vs ≡ x ∷ sets l k vs
sets_behind x l k [] = refl
sets_behind x l k (v ∷ vs) = sets_behind x (set l k v) (suc k) vs

pub image-set : (rs : List Record) (i : ℕ) (r : Record) → i < length rs → sets (image rs) (8 * i) (bytes r) ≡ image (set rs i r)
image-set [] i r h = absurd (omega arith)
image-set (s ∷ rs) zero r h = refl
image-set (s ∷ rs) (suc i) r h =
    let e : 8 * suc i ≡ suc (suc (suc (suc (suc (suc (suc (suc (8 * i)))))))) = omega arith in
    ap (λ (k : ℕ). sets (bytes s ++ image rs) k (bytes r)) e
    ∙ simp sets_behind (ap (λ (c : List ℕ). bytes s ++ c) (image-set rs i r (omega arith)))
