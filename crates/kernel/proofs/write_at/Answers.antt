-- `kernel::write_at` meets its contract.
use mathlib.Core.Path.{refl, ◌∙◌}
use Rattle.kernel.proofs.Writing.{store-verdict, store_kept}
use Rattle.kernel.proofs.write_at.Goals as goal

pub returns-in-Undefined : goal.returns-in-Undefined
returns-in-Undefined c = rw c.in-Undefined.is (record { answer = refl; bytes = refl; holds = refl })

pub returns-in-Word : goal.returns-in-Word
returns-in-Word c = let b = c.args.memory.now in
    let w = c.in-Word.w in
    rw c.in-Word.is
    (record {
      answer = c.store.ensures.answer ∙ store-verdict b w c.args.v;
      bytes = c.store.ensures.bytes;
      holds = c.store.ensures.holds ∙ store_kept b w c.args.v;
    })
