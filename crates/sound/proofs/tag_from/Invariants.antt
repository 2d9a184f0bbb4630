-- `sound::tag_from` meets its contract.
use lib.ListN.{length, drop}
use Rattle.templates.specs.Templates.{waits, any_reg}
use Rattle.templates.proofs.Seeking.{Seeking}
use Rattle.rows.specs.Shown.{regs_of}
use Rattle.sound.proofs.tag_from.Given as goal

abbrev pub invariant-loop-i : goal.invariant-loop-i
invariant-loop-i l = Seeking (λ x. waits l.t x.holds) (length l.rf) (length l.rf) (regs_of l.rf) l.i (any_reg l.t (drop l.from (regs_of l.rf)))
