-- `lines::put_value` meets its contract: two numbers for a word, each behind its text, and nothing for undefined.
use native.Mathlib.Omega.{arith}
use Rattle.text.proofs.Pages.{adds-nothing}
use Rattle.lines.proofs.Putting.{all_of, adds_within, word}
use Rattle.lines.specs.Lines.{named_text, value_text}
use Rattle.lines.proofs.put_value.Goals as goal

pub returns-in-Undefined : goal.returns-in-Undefined
unfolding value_text
returns-in-Undefined c = rw c.in-Undefined.is (adds_within _ (omega arith) (adds-nothing c.args.page.now))

pub returns-in-Word : goal.returns-in-Word
unfolding value_text named_text
returns-in-Word c =
    rw c.in-Word.is
    (word c.put.ensures c.from.ensures (omega arith) c.put_decimal.ensures
    (word c.put-in-Word.ensures c.from-in-Word.ensures (omega arith) c.put_decimal-in-Word.ensures (all_of c.put-in-Word-2.ensures)))
