-- P1 to P12 hold, by computation.
use mathlib.Core.Path.{refl}
use Rattle.value.specs.Operation.{result_of}
use Rattle.isa.specs.Instruction.{parse, read_of}
use Rattle.sound.specs.Sound.{sound_mach}
use Rattle.rules.specs.Rules.{issue, apply}
use Rattle.rules.specs.Schedule.{obey}
use Rattle.demands.specs.Table.{All, table}

pub table-holds : All table
unfolding result_of read_of parse sound_mach obey issue apply
table-holds = (refl, (refl, (refl, (refl, (refl, (refl, (refl, (refl, ((refl, refl), ((refl, refl), ((refl, refl), ((refl, refl), tt))))))))))))
