-- `sound::registers_ok` meets its contract.
use lib.ListN.{length}
use Rattle.rows.specs.Shown.{regs_of}
use Rattle.sound.specs.Sound.{registers_ok}
use Rattle.sound.specs.Search.{told}
use Rattle.sound.proofs.Turns.{Walking}
use Rattle.sound.proofs.registers_ok.Given as goal

abbrev pub invariant-loop-i : goal.invariant-loop-i
invariant-loop-i l = Walking (λ j. registers_ok (told l.made)) (length l.rf) (regs_of l.rf) l.i (registers_ok (told l.made) (regs_of l.rf))
