-- A buffer with one record replaced: that record alone is another.
use mathlib.Core.Path.{◌≡◌, refl, sym, ap, ◌∙◌}
use mathlib.Core.Logic.{◌≢◌, ◌⊎◌, inl, inr, ⊎_elim}
use Prim.Native.Nat.{ℕ, zero, suc, ◌+◌, ◌*◌, ◌/◌, ◌^◌, ◌<◌, ◌≤◌}
use native.Mathlib.Decide.{dec_lt}
use native.Mathlib.Omega.{arith}
use mathlib.Core.List.{List, [], ◌∷◌}
use lib.Dec.{lit<}
use lib.ListN.{length, get_or, set, length-set}
use lib.Seq.{sets, length-sets, get_or-set_same, get_or-set_other, set_out}
use borrow.Author.Tests.{lt-ltb, le-ltb}
use Rattle.records.specs.declared.Record.{Record}
use Rattle.records.specs.Records.{word_at, record_from, tabulate, records, bytes, replaced}
use Rattle.records.proofs.Tabulate.{tabulate-set, length-records}
use Rattle.records.proofs.Bytes.{spelt}

-- ---- a run of stores, place by place
before : (vs b : List ℕ) (at k : ℕ) → k < at → get_or (sets b at vs) k 0 ≡ get_or b k 0
before [] b at k h = refl
before (v ∷ vs) b at k h =
    let ne : k ≢ at = omega arith in
    before vs (set b at v) (suc at) k (omega arith) ∙ get_or-set_other b at k v 0 ne

beyond : (vs b : List ℕ) (at k : ℕ) → at + length vs ≤ k → get_or (sets b at vs) k 0 ≡ get_or b k 0
beyond [] b at k h = refl
beyond (v ∷ vs) b at k h =
    let ne : k ≢ at = omega arith in
    beyond vs (set b at v) (suc at) k (omega arith) ∙ get_or-set_other b at k v 0 ne

inside : (vs b : List ℕ) (at j : ℕ) → j < length vs → at + length vs ≤ length b → get_or (sets b at vs) (at + j) 0 ≡ get_or vs j 0
inside [] b at j h l = absurd (omega arith)
inside (v ∷ vs) b at zero h l =
    let e : at + 0 ≡ at = omega arith in
    rw e (before vs (set b at v) (suc at) at (omega arith) ∙ get_or-set_same b at v 0 (omega arith))
inside (v ∷ vs) b at (suc j) h l =
    let e : at + suc j ≡ suc at + j = omega arith in
    rw e (inside vs (set b at v) (suc at) j (omega arith) (simp length-set (omega arith)))

-- ---- the record that is written, and every other
module _ (b : List ℕ) (at : ℕ) (r : Record) where
  same_record : at + 8 ≤ length b → r.word < 2 ^ 32 → record_from (sets b at (bytes r)) at ≡ r
  same_record h l =
      let c = sets b at (bytes r) in
      let g : (j : ℕ) → j < 8 → get_or c (at + j) 0 ≡ get_or (bytes r) j 0 = λ j s. inside (bytes r) b at j s h in
      let first : get_or c at 0 ≡ r.b0 = (let e : at ≡ at + 0 = omega arith in ap (λ (n : ℕ). get_or c n 0) e ∙ g 0 (lit< tt)) in
      let s : (k : ℕ) → get_or c (at + 4 + k) 0 ≡ get_or c (at + (4 + k)) 0 = λ k. (let e : at + 4 + k ≡ at + (4 + k) = omega arith in ap (λ (n : ℕ). get_or c n 0) e) in
      let word : word_at c (at + 4) ≡ r.word =
      (λ i. g 4 (lit< tt) i + 256 * (s 1 ∙ g 5 (lit< tt)) i + 65536 * (s 2 ∙ g 6 (lit< tt)) i + 16777216 * (s 3 ∙ g 7 (lit< tt)) i) ∙ spelt r.word l in
      λ i. record { b0 = first i; b1 = g 1 (lit< tt) i; b2 = g 2 (lit< tt) i; b3 = g 3 (lit< tt) i; word = word i }

  other_record : (to : ℕ) → (to + 8 ≤ at) ⊎ (at + 8 ≤ to) → record_from (sets b at (bytes r)) to ≡ record_from b to
  other_record to apart =
      let g : (k : ℕ) → to ≤ k → k < to + 8 → get_or (sets b at (bytes r)) k 0 ≡ get_or b k 0 =
      λ k l u. ⊎_elim (λ h. before (bytes r) b at k (omega arith)) (λ h. beyond (bytes r) b at k (omega arith)) apart in
      λ i. record {
        b0 = g to (omega arith) (omega arith) i;
        b1 = g (to + 1) (omega arith) (omega arith) i;
        b2 = g (to + 2) (omega arith) (omega arith) i;
        b3 = g (to + 3) (omega arith) (omega arith) i;
        word =
            g (to + 4) (omega arith) (omega arith) i
            + 256 * g (to + 4 + 1) (omega arith) (omega arith) i
            + 65536 * g (to + 4 + 2) (omega arith) (omega arith) i
            + 16777216 * g (to + 4 + 3) (omega arith) (omega arith) i;
      }

module _ (b : List ℕ) (i : ℕ) (r : Record) where
  pub replaced-at : i < length b / 8 → replaced b i r ≡ sets b (8 * i) (bytes r)
  replaced-at h = rw (lt-ltb i (length b / 8) h) refl

  pub replaced_past : length b / 8 ≤ i → replaced b i r ≡ b
  replaced_past h = rw (le-ltb i (length b / 8) h) refl

pub records-replaced : (b : List ℕ) (i : ℕ) (r : Record) → r.word < 2 ^ 32 → records (replaced b i r) ≡ set (records b) i r
unfolding records
records-replaced b i r h = go (dec_lt i (length b / 8))
  where
    n : ℕ
    n = length b / 8

    go : Dec (i < n) → records (replaced b i r) ≡ set (records b) i r
    go (yes l) =
        let c = sets b (8 * i) (bytes r) in
        let long : length c / 8 ≡ length b / 8 = ap (λ (k : ℕ). k / 8) (length-sets b (8 * i) (bytes r)) in
        let apart : (k : ℕ) → k ≢ i → record_from c (8 * k) ≡ record_from b (8 * k) =
        λ k e. other_record b (8 * i) r (8 * k) (apart_or k e) in
        ap records (replaced-at b i r l)
        ∙ ap (λ (k : ℕ). tabulate k (λ j. record_from c (8 * j))) long
        ∙ tabulate-set n (λ j. record_from b (8 * j)) (λ j. record_from c (8 * j)) i l apart
        ∙ ap (set (records b) i) (same_record b (8 * i) r (omega arith) h)
      where
        apart_or : (k : ℕ) → k ≢ i → (8 * k + 8 ≤ 8 * i) ⊎ (8 * i + 8 ≤ 8 * k)
        apart_or k e = below (dec_lt k i)
          where
            below : Dec (k < i) → (8 * k + 8 ≤ 8 * i) ⊎ (8 * i + 8 ≤ 8 * k)
            below (yes q) = inl (omega arith)
            below (no q) = inr (omega arith)
    go (no l) =
        ap records (replaced_past b i r (omega arith))
        ∙ sym (set_out (records b) i r (rw (length-records b) (omega arith)))
