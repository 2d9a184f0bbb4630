-- `sound::templates_ok` meets its contract.
use mathlib.Core.Path.{◌≡◌}
use Prim.Native.Nat.{◌≤◌}
use lib.ListN.{take}
use Rattle.rows.specs.Shown.{held_of}
use Rattle.sound.specs.Sound.{none, after_all, templates_ok}
use Rattle.sound.specs.Search.{told}
use Rattle.sound.proofs.Turns.{Walking}
use Rattle.sound.proofs.templates_ok.Given as goal

abbrev pub invariant-loop-i : goal.invariant-loop-i
invariant-loop-i l = Walking (λ j. templates_ok l.instructions (after_all (take j (held_of l.n l.ts)) none)) l.n (held_of l.n l.ts) l.i (templates_ok l.instructions none (held_of l.n l.ts))
    × (told l.made ≡ after_all (take l.i (held_of l.n l.ts)) none)
    × (l.i ≤ l.n)
