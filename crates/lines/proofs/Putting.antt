-- Texts one behind another on a page, and how many bytes they take at most.
use mathlib.Core.Path.{◌≡◌, ap, ◌∙◌}
use Prim.Native.Nat.{ℕ, ◌+◌, ◌^◌, ◌<◌, ◌≤◌}
use native.Mathlib.Omega.{arith}
use mathlib.Core.List.{List, ◌++◌}
use lib.ListN.{length}
use Rattle.text.specs.declared.Page.{Page}
use Rattle.text.specs.Page.{Adds}
use Rattle.text.specs.Text.{decimal}
use Rattle.text.proofs.Puts.{puts}
use Rattle.text.proofs.Pages.{adds_as}
use Rattle.text.proofs.Decimal.{decimal_width}
use Rattle.lines.specs.Lines.{AddsWithin}

module _ {p : Page} {t : List ℕ} {q : Page} where
  pub adds_within : (k : ℕ) → length t ≤ k → Adds p t q → AddsWithin p t k q
  adds_within k h a = record { same_buffer = a.same_buffer; puts = record { text = a.text; most = omega (arith, a.text.next) } }

  pub all_of : Adds p t q → AddsWithin p t (length t) q
  all_of = adds_within (length t) (omega arith)

  module _ {j : ℕ} (a : AddsWithin p t j q) where
    pub adds_of : Adds p t q
    adds_of = record { same_buffer = a.same_buffer; text = a.puts.text }

    pub then : {u : List ℕ} {k : ℕ} {r : Page} → AddsWithin q u k r → AddsWithin p (t ++ u) (j + k) r
    then b = record {
      same_buffer = b.same_buffer ∙ a.same_buffer;
      puts = record { text = puts a.puts.text b.puts.text; most = omega (arith, a.puts.most, b.puts.most) };
    }

    pub in_at_most : {k : ℕ} → j ≤ k → AddsWithin p t k q
    in_at_most h = record { same_buffer = a.same_buffer; puts = record { text = a.puts.text; most = omega (arith, a.puts.most) } }

-- a text, a number of at most k digits, and what follows
module _ {p q r s : Page} {t u : List ℕ} {j : ℕ} (before : Adds p t q) where
  number : (k n : ℕ) → 0 < k → n < 10 ^ k → Adds q (decimal n) r → AddsWithin r u j s → AddsWithin p (t ++ (decimal n ++ u)) (length t + (k + j)) s
  number k n h l a others = then (all_of before) (then (adds_within k (decimal_width k n h l) a) others)

  pub byte : {m n : ℕ} → m ≡ n → n < 256 → Adds q (decimal m) r → AddsWithin r u j s → AddsWithin p (t ++ (decimal n ++ u)) (length t + (3 + j)) s
  byte {m} {n} e h a = number 3 n (omega arith) (omega arith) (adds_as a (ap decimal e))

  pub word : {m n : ℕ} → m ≡ n → n < 2 ^ 32 → Adds q (decimal m) r → AddsWithin r u j s → AddsWithin p (t ++ (decimal n ++ u)) (length t + (10 + j)) s
  word {m} {n} e h a = number 10 n (omega arith) (omega arith) (adds_as a (ap decimal e))

  pub count : {n : ℕ} → n < 2 ^ 64 → Adds q (decimal n) r → AddsWithin r u j s → AddsWithin p (t ++ (decimal n ++ u)) (length t + (20 + j)) s
  count {n} h = number 20 n (omega arith) (omega arith)
