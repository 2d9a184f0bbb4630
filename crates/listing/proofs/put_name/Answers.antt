-- `listing::put_name` meets its contract: a name for each number.
use mathlib.Core.Path.{sym, ap}
use mathlib.Core.Logic.{◌≢◌}
use native.Mathlib.Omega.{arith}
use borrow.Author.Tests.{ne_eqb}
use Rattle.text.proofs.Pages.{adds_as}
use Rattle.listing.specs.Listing.{name_text}
use Rattle.listing.proofs.put_name.Goals as goal

pub returns-in-0 : goal.returns-in-0
unfolding name_text
returns-in-0 c = adds_as c.put.ensures (sym (ap name_text c.in-0.is))

pub returns-in-1 : goal.returns-in-1
unfolding name_text
returns-in-1 c = adds_as c.put-in-1.ensures (sym (ap name_text c.in-1.is))

pub returns-in-2 : goal.returns-in-2
unfolding name_text
returns-in-2 c = adds_as c.put-in-2.ensures (sym (ap name_text c.in-2.is))

pub returns-in-3 : goal.returns-in-3
unfolding name_text
returns-in-3 c = adds_as c.put-in-3.ensures (sym (ap name_text c.in-3.is))

pub returns-in_default : goal.returns-in_default
unfolding name_text
returns-in_default c =
    let zeroth : c.args.operation ≢ 0 = omega arith in
    let first : c.args.operation ≢ 1 = omega arith in
    let second : c.args.operation ≢ 2 = omega arith in
    let third : c.args.operation ≢ 3 = omega arith in
    adds_as c.put-in_default.ensures (rw (ne_eqb _ _ zeroth, ne_eqb _ _ first, ne_eqb _ _ second, ne_eqb _ _ third))
