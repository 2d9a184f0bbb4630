-- Texts added to a page, one behind another.
use mathlib.Core.Path.{◌≡◌, refl, ◌∙◌}
use Prim.Native.Nat.{ℕ}
use mathlib.Core.List.{List, [], ◌++◌}
use Rattle.text.specs.declared.Page.{Page}
use Rattle.text.specs.Page.{Adds}
use Rattle.text.proofs.Puts.{put-nothing, put_as, puts}

pub adds-nothing : (p : Page) → Adds p [] p
adds-nothing p = record { same_buffer = refl; text = put-nothing p.out.now p.at }

module _ {p : Page} {t : List ℕ} {q : Page} (a : Adds p t q) where
  -- the same text, said otherwise
  pub adds_as : {u : List ℕ} → t ≡ u → Adds p u q
  adds_as e = record { same_buffer = a.same_buffer; text = put_as a.text e }

  -- a second text, right behind the first
  pub adds : {u : List ℕ} {r : Page} → Adds q u r → Adds p (t ++ u) r
  adds b = record { same_buffer = b.same_buffer ∙ a.same_buffer; text = puts a.text b.text }
