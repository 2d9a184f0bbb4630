-- What writing a text on a page leaves.
use Rattle.std.specs.Prelude.{◌≡◌, ℕ, List}
use Rattle.text.specs.declared.Page.{Page}
use Rattle.text.specs.Text.{Put}

-- the text is put at p's place: q is of the same buffer, and its place is the one behind
pub record Adds (p : Page) (t : List ℕ) (q : Page) : Type 0 where
  pub same_buffer : q.out.ghost_name ≡ p.out.ghost_name
  pub text : Put p.out.now p.at t q.at q.out.now
