-- `Page::put` meets its contract: nothing has room, or the text's start is copied.
use mathlib.Core.Path.{refl}
use native.Mathlib.Omega.{arith}
use Rattle.text.proofs.Puts.{put_full, put_copied}
use Rattle.text.proofs.Page.put.Goals as goal

pub returns-then-self : goal.returns-then-self
returns-then-self c = record { same_buffer = refl; text = put_full _ _ _ c.if-self.true }

pub returns : goal.returns
returns c = record { same_buffer = refl; text = put_copied _ _ _ _ _ _ _ (omega arith) c.min-n.ensures (omega arith) (omega arith) c.copy_from_slice.ensures.after }
