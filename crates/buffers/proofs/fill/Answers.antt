use Rattle.std.proofs.Common.{◌≡◌, ℕ, ◌+◌, ◌≤◌, List, ◌++◌, rules, arith, length, take, sym, subst, drop_at, length-take-le}
use Rattle.std.proofs.lemmas.Slice.{take-put_mid_below}
use Rattle.std.specs.Io.KnownBytes.{Consumes}
use Rattle.std.proofs.KnownBytes.{Consumes-trans}
use borrow.Rule.Slice.PartMut.{put_mid}
use lib.Seq.{take-add, take-append-le}
use Rattle.buffers.proofs.fill.Goals as goal

-- what a read puts after the first `from` bytes is what the longer front has more
take-put_mid_more : (from room n : ℕ) (xs ys : List ℕ) → from ≤ length xs → n ≤ length ys
    → take (from + n) (put_mid from room xs ys) ≡ take from xs ++ take n ys
take-put_mid_more from room n xs ys within fits = grind (arith, take-add, take-put_mid_below, drop_at, length-take-le, take-append-le)

pub loop-filled-preserved : goal.loop-filled-preserved
loop-filled-preserved g c = record {
  within = search rules;
  bytes =
      subst (Consumes _ _) (sym (take-put_mid_more _ _ _ _ _ c.loop-filled.invariant.within c.in-Ok.ensures.bound.0))
      (Consumes-trans _ _ _ _ _ c.loop-filled.invariant.bytes c.in-Ok.ensures.bytes.0);
}
