-- `sound::first_jz` meets its contract.
use Prim.Native.Nat.{◌+◌}
use Rattle.rows.specs.Shown.{held_of}
use Rattle.sound.specs.Search.{first_jz}
use Rattle.sound.proofs.Turns.{Walking}
use Rattle.sound.proofs.first_jz.Given as goal

abbrev pub invariant-loop-i : goal.invariant-loop-i
invariant-loop-i l = Walking (λ j xs. j + first_jz xs) l.n (held_of l.n l.ts) l.i (first_jz (held_of l.n l.ts))
