-- So many rows show the templates that were put there.
use mathlib.Core.Path.{◌≡◌}
use lib.ListN.{length, take}
use Rattle.templates.specs.Layout.{places, itbs}
use Rattle.rows.proofs.Showing.{Shows}
use Rattle.table.proofs.turn_in.Given as goal

abbrev pub invariant-loop-i : goal.invariant-loop-i
invariant-loop-i l = Shows l.i l.out (itbs (take l.i l.ts)) × (length l.out ≡ places)
