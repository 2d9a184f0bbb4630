-- `table::numbers` meets its contract.
use mathlib.Core.Path.{◌≡◌}
use lib.ListN.{length, take}
use Rattle.rows.specs.Rows.{no_word}
use Rattle.rows.specs.Shown.{numbers_of}
use Rattle.rows.specs.Answers.{SmallOperand, All}
use Rattle.rows.proofs.Walks.{Laying}
use Rattle.table.proofs.numbers.Given as goal

abbrev pub invariant-loop-i : goal.invariant-loop-i
invariant-loop-i l = Laying no_word 32 (numbers_of l.fn.rf) l.out l.i × All (λ x. SmallOperand x.holds) (take l.i l.fn.rf) × (length l.out ≡ 32)
