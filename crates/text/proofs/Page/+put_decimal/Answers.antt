-- `Page::put_decimal` meets its contract: the number falls, and its last digit follows the text of its tenth.
use mathlib.Core.Path.{sym}
use native.Mathlib.Omega.{arith}
use Prim.Native.Nat.{◌<◌, ◌≤◌}
use Rattle.text.proofs.Pages.{adds_as, adds}
use Rattle.text.proofs.Decimal.{decimal-one, decimal_more}
use Rattle.text.proofs.Page.+put_decimal.Goals as goal

pub returns-then-n-lt10 : goal.returns-then-n-lt10
returns-then-n-lt10 t c = let one : c.args.n < 10 = omega arith in adds_as c.put_digit.ensures (sym (decimal-one _ one))

pub returns : goal.returns
returns t c = let more : 10 ≤ c.args.n = omega arith in adds_as (adds c.put_decimal.ensures c.put_digit-2.ensures) (sym (decimal_more _ more))
