-- The loop over numbered texts: with those that remain, what is added is all of them.
use mathlib.Core.Path.{◌≡◌, sym, ap}
use Prim.Native.Nat.{ℕ, suc, ◌+◌}
use native.Mathlib.Numerals.{add-one}
use mathlib.Core.List.{List, [], ◌∷◌}
use Rattle.text.specs.declared.Page.{Page}
use Rattle.text.specs.Page.{Adds}
use Rattle.text.specs.Text.{numbered}
use Rattle.text.proofs.Pages.{adds-nothing, adds_as, adds}

-- `rest i` are the things from number i on
module _ {A : Type 0} (f : ℕ → A → List ℕ) (rest : ℕ → List A) (p : Page) where
  -- the texts before number i are added: with the others after them, all are
  abbrev pub Added : ℕ → Page → Type 0
  Added i q = (r : Page) → Adds q (numbered f i (rest i)) r → Adds p (numbered f 0 (rest 0)) r

  pub added-none : Added 0 p
  added-none r a = a

  module _ {i : ℕ} {q : Page} (w : Added i q) where
    pub added_more : {x : A} {s : Page} → rest i ≡ x ∷ rest (suc i) → Adds q (f i x) s → Added (i + 1) s
    unfolding numbered
    added_more {x} e a r b =
        let more : Adds _ (numbered f (suc i) (rest (suc i))) r = adds_as b (ap (λ (n : ℕ). numbered f n (rest n)) (add-one i)) in
        w r (adds_as (adds a more) (ap (numbered f i) (sym e)))

    pub added_all : rest i ≡ [] → Adds p (numbered f 0 (rest 0)) q
    unfolding numbered
    added_all e = w q (adds_as (adds-nothing q) (ap (numbered f i) (sym e)))
