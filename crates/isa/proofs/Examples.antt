-- Worked examples of the reader, by computation.
use mathlib.Core.Path.{◌≡◌, refl}
use mathlib.Core.List.{[], ◌∷◌}
use Rattle.records.specs.declared.Refusal.TheVariants.{BadInstruction}
use Rattle.std.specs.Prelude.{Ok, Err}
use Rattle.isa.specs.declared.Instr.TheVariants.{Loadc}
use Rattle.isa.specs.Instruction.{reg, parse, read_of}

reads : read_of (1 ∷ 1 ∷ 0 ∷ 0 ∷ 6 ∷ 0 ∷ 0 ∷ 0 ∷ []) ≡ Ok (Loadc (reg 1) 6)
unfolding read_of parse
reads = refl

unused_byte : read_of (1 ∷ 1 ∷ 1 ∷ 0 ∷ 6 ∷ 0 ∷ 0 ∷ 0 ∷ []) ≡ Err BadInstruction
unfolding read_of parse
unused_byte = refl
