-- `cells::store` meets its contract.
use mathlib.Core.Path.{refl, sym, ap, subst, ◌∙◌}
use Prim.Native.Nat.{◌^◌, ◌<◌}
use borrow.Author.Tests.{lt-ltb, le-ltb}
use lib.Seq.{set_out}
use Rattle.records.specs.declared.Record.{Record}
use Rattle.records.specs.Records.{replaced}
use Rattle.cells.specs.Cells.{cells}
use Rattle.cells.proofs.Memory.{length-cells, stored-cells}
use Rattle.cells.proofs.store.Goals as goal

pub returns-then-number-memory : goal.returns-then-number-memory
returns-then-number-memory c = let m = c.args.memory.now in
    record {
      answer = rw (le-ltb _ _ c.if-number-memory.true) refl;
      bytes = rw (le-ltb _ _ c.if-number-memory.true) refl;
      holds = sym (set_out (cells m) c.args.at.0 c.args.v (rw (length-cells m) c.if-number-memory.true));
    }

pub returns : goal.returns
returns c = let m = c.args.memory.now in
    let is = c.record_of.ensures.0 in
    let bytes = c.write.ensures ∙ ap (replaced m c.args.at.0) is in
    record {
      answer = rw (lt-ltb _ _ c.if-number-memory.false) refl;
      bytes = bytes;
      holds =
          ap cells bytes ∙ stored-cells m c.args.at.0 c.args.v (subst (λ (r : Record). r.word < 2 ^ 32) is c.record_of.ensures.1);
    }
