-- `lines::put_registers` keeps at its loop that the registers before the next are put.
use lib.ListN.{drop}
use Rattle.lines.proofs.Looping.{Going}
use Rattle.lines.specs.Lines.{register_text}
use Rattle.lines.proofs.put_registers.Given as goal

abbrev pub invariant-loop-i : goal.invariant-loop-i
invariant-loop-i l = Going register_text (λ n. drop n l.fn.rs) l.initial.page l.i l.page
