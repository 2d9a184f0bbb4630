-- Numbered texts of at most 23 bytes each, added one after another by a loop.
use mathlib.Core.Path.{◌≡◌}
use Prim.Native.Nat.{ℕ, suc, ◌+◌, ◌*◌, ◌≤◌}
use native.Mathlib.Omega.{arith}
use mathlib.Core.List.{List, [], ◌∷◌}
use Rattle.text.specs.declared.Page.{Page}
use Rattle.text.specs.Page.{Adds}
use Rattle.text.specs.Text.{numbered}
use Rattle.text.proofs.Numbered.{Added, added-none, added_more, added_all}
use Rattle.lines.proofs.Putting.{adds_of}
use Rattle.lines.specs.Lines.{AddsWithin}

-- ---- the texts before number i are added
module _ {A : Type 0} (f : ℕ → A → List ℕ) (rest : ℕ → List A) (p : Page) where
  pub record Going (i : ℕ) (q : Page) : Type 0 where
    pub added : Added f rest p i q
    pub near : q.at ≤ p.at + 23 * i

  pub going-none : Going 0 p
  going-none = record { added = added-none f rest p; near = omega arith }

  module _ {i : ℕ} {q : Page} (g : Going i q) where
    pub going_more : {x : A} {r : Page} → rest i ≡ x ∷ rest (suc i) → AddsWithin q (f i x) 23 r → Going (i + 1) r
    going_more e a = record { added = added_more f rest p g.added e (adds_of a); near = omega (arith, g.near, a.puts.most) }

    pub going-all : {k : ℕ} → rest i ≡ [] → 23 * i ≤ k → AddsWithin p (numbered f 0 (rest 0)) k q
    going-all e h =
        let a : Adds p (numbered f 0 (rest 0)) q = added_all f rest p g.added e in
        record { same_buffer = a.same_buffer; puts = record { text = a.text; most = omega (arith, g.near) } }
