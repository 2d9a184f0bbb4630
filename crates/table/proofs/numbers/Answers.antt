-- `table::numbers` meets its contract.
use mathlib.Core.Path.{◌≡◌, refl, sym, ◌∙◌}
use native.Mathlib.Omega.{arith}
use lib.ListN.{length, length-map}
use borrow.Author.Rules.{rules}
use Rattle.value.specs.Operation.{undefined}
use Rattle.templates.specs.declared.Operand.TheVariants.{Known}
use Rattle.templates.specs.declared.Register.{Register}
use Rattle.templates.specs.Templates.{register}
use Rattle.rows.specs.Rows.{no_word}
use Rattle.rows.specs.Shown.{numbers_of}
use Rattle.rows.specs.Answers.{SmallOperand}
use Rattle.rows.proofs.Walks.{lay_on, lay_end, laid-all, all_on, all_end}
use Rattle.rows.proofs.Showing.{number_shown}
use Rattle.table.proofs.numbers.Goals as goal

pub loop-i-init : goal.loop-i-init
loop-i-init c = (record { same = refl }, tt, refl)

pub loop-i-preserved : goal.loop-i-preserved
loop-i-preserved c =
    let rs = c.args.rf in
    let long : length rs ≡ 32 = search rules in
    let size : length (numbers_of rs) ≡ 32 = length-map rs _ ∙ long in
    let next = lay_on c.loop-i.invariant.0 no_word (sym (number_shown rs c.loop-i.i)) (omega (arith, size, c.loop-i-test.true)) (omega (arith, c.loop-i-test.true)) in (
      record { same = c.hold.ensures.numbers ∙ next.same },
      all_on (λ (x : Register). SmallOperand x.holds) rs c.loop-i.i (register (Known undefined)) (omega (arith, long, c.loop-i-test.true)) c.loop-i.invariant.1 c.hold.ensures.small,
      c.hold.auto.rf ∙ c.loop-i.invariant.2,
    )

pub returns : goal.returns
returns c =
    let rs = c.args.rf in
    let long : length rs ≡ 32 = search rules in
    let size : length (numbers_of rs) ≡ 32 = length-map rs _ ∙ long in
    record {
      long = long;
      numbers = lay_end c.loop-i.invariant.0 (omega (arith, c.loop-i-test.false)) ∙ laid-all no_word (numbers_of rs) size;
      small = all_end (λ (x : Register). SmallOperand x.holds) rs c.loop-i.i (omega (arith, long, c.loop-i-test.false)) c.loop-i.invariant.1;
    }
