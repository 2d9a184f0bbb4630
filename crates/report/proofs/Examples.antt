-- The scope paper's run in full, from three files' bytes to the text that is printed, by computation.
use mathlib.Core.Path.{◌≡◌, refl}
use Prim.Native.Nat.{ℕ}
use mathlib.Core.List.{List, [], ◌∷◌}
use lib.ListN.{replicate}
use Rattle.records.specs.Records.{records}
use Rattle.value.specs.Operation.{result_of}
use Rattle.isa.specs.Instruction.{parse}
use Rattle.isa.specs.Program as Program
use Rattle.cells.specs.Cells as Cells
use Rattle.kernel.specs.Checks.{checked}
use Rattle.sound.specs.Sound.{sound_mach, is_sound}
use Rattle.rules.specs.Rules.{issue, apply}
use Rattle.rules.specs.Schedule.{command_of, obey}
use Rattle.rules.specs.Run.{commands, run_from}
use Rattle.rules.specs.Drain.{drain_from, oldest}
use Rattle.entry.specs.Entry.{entered}
use Rattle.renaming.specs.Entries.{ran, ran_memory, drained, drained_memory}
use Rattle.text.specs.Text.{ascii, decimal, numbered}
use Rattle.lines.specs.Lines.{ran_text, drained_text, counter_text, named_text, value_text, operand_text}
use Rattle.report.specs.Report.{judged, end_text, contents_text, run_text, report}

-- r1 := Loadc(6); r2 := Loadc(0); r3 := Div(r1,r2); r4 := Add(r1,r1); Store(r2,r4)
program : List ℕ
program =
    1 ∷ 1 ∷ 0 ∷ 0 ∷ 6 ∷ 0 ∷ 0 ∷ 0 ∷
    1 ∷ 2 ∷ 0 ∷ 0 ∷ 0 ∷ 0 ∷ 0 ∷ 0 ∷
    3 ∷ 3 ∷ 1 ∷ 2 ∷ 3 ∷ 0 ∷ 0 ∷ 0 ∷
    3 ∷ 4 ∷ 1 ∷ 1 ∷ 0 ∷ 0 ∷ 0 ∷ 0 ∷
    6 ∷ 0 ∷ 2 ∷ 4 ∷ 0 ∷ 0 ∷ 0 ∷ 0 ∷
    []

-- two undefined cells
memory : List ℕ
memory = replicate 16 0

-- five issues with tags 1, 2, 3, 4, 0
schedule : List ℕ
schedule = 1 ∷ 0 ∷ 1 ∷ 0 ∷ 1 ∷ 0 ∷ 2 ∷ 0 ∷ 1 ∷ 0 ∷ 3 ∷ 0 ∷ 1 ∷ 0 ∷ 4 ∷ 0 ∷ 1 ∷ 0 ∷ 0 ∷ 0 ∷ []

one-run : report program memory schedule ≡ ascii "accepted 5 refused 0\nissued 5\ndrained 14\npc 5\nr1 6\nr2 0\nr4 12\nm0 12\n"
unfolding program memory schedule report judged run_text ran ran_memory drained drained_memory entered checked is_sound sound_mach Program.scan_of Program.program Cells.scan_of Cells.cells Cells.image Cells.load_from records parse commands command_of obey run_from issue apply result_of drain_from oldest ran_text drained_text end_text contents_text counter_text named_text value_text operand_text numbered decimal
one-run = refl
