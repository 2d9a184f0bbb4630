-- `listing::check` meets its contract: a buffer has room for as many lines as its length has 31s.
use mathlib.Core.Path.{refl}
use Prim.Native.Nat.{◌*◌, ◌/◌, ◌<◌, ◌≤◌}
use native.Mathlib.Omega.{arith}
use borrow.Author.Rules.{rules}
use lib.ListN.{length}
use borrow.Author.Tests.{lt-ltb, le-ltb}
use Rattle.listing.specs.Listing.{room, checked}
use Rattle.listing.proofs.check.Goals as goal

pub returns-then-space-program : goal.returns-then-space-program
unfolding checked
returns-then-space-program c =
    let short : c.args.space < room * (length c.args.program.now / 8) = omega arith in
    rw (lt-ltb _ _ short, c.from.ensures) refl

pub returns : goal.returns
unfolding checked
returns c =
    let enough : room * (length c.args.program.now / 8) ≤ c.args.space = omega arith in
    rw (le-ltb _ _ enough) (search rules)
