-- `table::remove` meets its contract.
use Rattle.std.proofs.Common.{◌≡◌, ℕ, suc, ◌+◌, ◌-◌, ◌<◌, ◌≤◌, List, [], ◌∷◌, ◌++◌, length, take, drop, set, sym, ap, ap₂, ◌∙◌, arith, add-one, append_assoc, length-drop}
use lib.Seq.{paste}
use Rattle.std.proofs.lemmas.List.{set_split, drop-drop, take-take, drop-take}
use Rattle.std.proofs.lemmas.List.Edits.{length-paste, take-paste, drop-paste}
use Rattle.rows.specs.Rows.{Row, blank_row, among, without_at}
use Rattle.rows.proofs.Walks.{changed_in, changed_out}
use Rattle.table.proofs.remove.Goals as goal

-- the j rows behind place p moved down by one, and the blank put where the last of them stood
module _ (p j : ℕ) (xs : List Row) (h : p + j < length xs) where
  abbrev n : ℕ
  n = (p + 1) + j

  abbrev behind : List Row
  behind = drop (p + 1) xs

  abbrev moved : List Row
  moved = paste xs p behind j

  enough : j ≤ length behind
  enough = omega (arith, length-drop (p + 1) xs)

  front : take (p + j) moved ≡ take p xs ++ take j behind
  front = take-paste xs p behind j (omega arith) enough

  back : drop (suc (p + j)) moved ≡ drop n xs
  back =
      ap (λ (m : ℕ). drop m moved) (sym (add-one (p + j))) ∙ sym (drop-drop 1 (p + j) moved)
      ∙ ap (drop 1) (drop-paste xs p behind j (omega arith) enough)
      ∙ drop-drop 1 (p + j) xs
      ∙ ap (λ (m : ℕ). drop m xs) (omega arith)

  regroup : (a b r : List Row) → (a ++ b) ++ blank_row ∷ r ≡ (a ++ (b ++ blank_row ∷ [])) ++ r
  regroup a b r = simp append_assoc

  within : p + j < length moved
  within = omega (arith, length-paste xs p behind j (omega (arith, enough)) enough)

  gap_closed : set moved (p + j) blank_row ≡ among n (without_at p) xs
  gap_closed =
      set_split moved (p + j) blank_row within
      ∙ ap₂ (λ (a r : List Row). a ++ blank_row ∷ r) front back
      ∙ regroup (take p xs) (take j behind) (drop n xs)
      ∙ ap₂ (λ (a b : List Row). (a ++ (b ++ blank_row ∷ [])) ++ drop n xs) (sym (take-take p n xs (omega arith)))
      (sym (drop-take (p + 1) j xs) ∙ ap (λ (m : ℕ). drop m (take n xs)) (add-one p))

closed : (k p : ℕ) (xs : List Row) → p < k → k ≤ length xs → set (paste xs p (drop (p + 1) xs) (k - (p + 1))) (k - 1) blank_row ≡ among k (without_at p) xs
closed k p xs h l =
    let j = k - (p + 1) in
    let last : k - 1 ≡ p + j = omega arith in
    let all : (p + 1) + j ≡ k = omega arith in
    ap (λ (m : ℕ). set (paste xs p (drop (p + 1) xs) j) m blank_row) last ∙ gap_closed p j xs (omega arith) ∙ ap (λ (m : ℕ). among m (without_at p) xs) all

pub returns-then-p-end : goal.returns-then-p-end
returns-then-p-end c =
    let ts = c.args.ts.now in
    ap (λ (xs : List Row). set xs (c.held-end.result - 1) blank_row) c.copy_within.ensures.after
    ∙ closed c.held-end.result c.args.p ts c.if-p-end.true (omega (arith, c.held-end.ensures))
    ∙ changed_in _ c.args.n c.args.p ts c.held-end.ensures (without_at c.args.p) c.if-p-end.true

pub returns-else-p-end : goal.returns-else-p-end
returns-else-p-end c = changed_out _ c.args.n c.args.p c.args.ts.now c.held-end.ensures (without_at c.args.p) c.if-p-end.false
