-- The report of one run in full: what is printed for three files.
use Rattle.std.specs.Prelude.{◌≡◌, ℕ, ◌*◌, ◌%◌, ◌≤◌, Bool, cond, ◌&&◌, List, ◌++◌, eqb, leb, length, Result, Ok, Err, is_ok, IfOk}
use Rattle.records.specs.declared.Fault.{Fault}
use Rattle.records.specs.declared.Refusal.{Refusal}
use Rattle.records.specs.declared.Refusal.TheVariants.{BadLength}
use Rattle.records.specs.Refusal.{number_of, fault}
use Rattle.records.specs.Records.{is_whole}
use Rattle.value.specs.declared.Value.{Value}
use Rattle.isa.specs.declared.InstrAddr.{InstrAddr}
use Rattle.isa.specs.Program as Program
use Rattle.cells.specs.Cells as Cells
use Rattle.cells.specs.Cells.{cells}
use Rattle.text.specs.declared.Page.{Page}
use Rattle.text.specs.Text.{into, numbered}
use Rattle.templates.specs.declared.Counter.{Counter}
use Rattle.templates.specs.declared.Register.{Register}
use Rattle.templates.specs.declared.State.{State}
use Rattle.templates.specs.Machine.{start}
use Rattle.templates.specs.Layout.{state_of}
use Rattle.renaming.specs.declared.Ran.{Ran}
use Rattle.renaming.specs.declared.Settled.{Settled}
use Rattle.renaming.specs.Entries.{ran, ran_memory, drained, drained_memory}
use Rattle.lines.specs.Lines.{ran_text, drained_text, blocked_text, counter_text, register_text, cell_text, AddsWithin}
use Rattle.lines.specs.Lines as Lines
use Rattle.report.specs.declared.Input.{Input}

-- ---- refused input

-- the file, 1 to 3, and its fault
abbrev pub refused : ℕ → Fault → Result Unit Input
refused file f = Err (record { file = file; fault = f })

-- no file is refused
abbrev pub fit : Result Unit Input
fit = Ok tt

-- whole records, and at most 16,384 of them
abbrev pub is_schedule : List ℕ → Bool
is_schedule s = eqb (length s % 4) 0 && leb (length s) (4 * 16384)

-- what is said of a file, unless it is accepted: then what is said of those behind it
abbrev pub unless : ℕ → Result Unit Fault → Result Unit Input → Result Unit Input
unless file (Ok u) others = others
unless file (Err f) others = refused file f

-- the lengths of all three files come before any record; the lowest file is named
unfoldable pub judged : List ℕ → List ℕ → List ℕ → Result Unit Input
judged p m s =
    cond (is_whole p)
    (cond (is_whole m)
    (cond (is_schedule s)
    (unless 1 (Program.scan_of p) (unless 2 (Cells.scan_of m) fit))
    (refused 3 (fault BadLength 0)))
    (refused 2 (fault BadLength 0)))
    (refused 1 (fault BadLength 0))

abbrev pub input_text : Input → List ℕ
input_text i = Lines.input_text i.file (number_of i.fault.refusal) i.fault.number

-- ---- a run from the start, then a drain

abbrev pub the_run : List ℕ → List ℕ → List ℕ → Ran
the_run p m s = ran p (state_of start) m s

abbrev pub after_run : List ℕ → List ℕ → List ℕ → List ℕ
after_run p m s = ran_memory p (state_of start) m s

abbrev pub the_drain : List ℕ → List ℕ → List ℕ → Settled
the_drain p m s = drained p (the_run p m s).state (after_run p m s)

abbrev pub after_drain : List ℕ → List ℕ → List ℕ → List ℕ
after_drain p m s = drained_memory p (the_run p m s).state (after_run p m s)

-- blocked, if templates remain
abbrev pub end_of : ℕ → ℕ → ℕ → InstrAddr → List ℕ
end_of count rules refusal a = cond (eqb count 0) (drained_text rules) (blocked_text a refusal rules)

-- the number of what was refused, 0 if nothing was
abbrev pub refusal_of : Result Unit Fault → ℕ
refusal_of (Ok u) = 0
refusal_of (Err f) = number_of f.refusal

unfoldable pub end_text : Settled → List ℕ
end_text d = end_of d.state.count d.rules (refusal_of d.verdict) d.address

-- the counter, then registers and cells, ascending
abbrev pub contents_of : Counter → List Register → List Value → List ℕ
contents_of c rs m = counter_text c ++ (numbered register_text 0 rs ++ numbered cell_text 0 m)

unfoldable pub contents_text : State → List Value → List ℕ
contents_text s m = contents_of s.counter s.registers m

-- what is said of a run, of the drain and of memory after it
abbrev pub told : Ran → Settled → List ℕ → List ℕ
told r d m = ran_text r.accepted (refusal_of r.verdict) r.issued ++ (end_text d ++ contents_text d.state (cells m))

unfoldable pub run_text : List ℕ → List ℕ → List ℕ → List ℕ
run_text p m s = told (the_run p m s) (the_drain p m s) (after_drain p m s)

-- ---- the report

abbrev pub is_fit : List ℕ → List ℕ → List ℕ → Bool
is_fit p m s = is_ok (judged p m s)

-- the text of a run, unless a file is refused
abbrev pub said : Result Unit Input → List ℕ → List ℕ
said (Ok u) t = t
said (Err i) t = input_text i

unfoldable pub report : List ℕ → List ℕ → List ℕ → List ℕ
report p m s = said (judged p m s) (run_text p m s)

-- the bytes that the output needs; no report is longer
abbrev pub room : ℕ
room = 24576

abbrev pub has_room : List ℕ → Bool
has_room out = leb room (length out)

-- the text is written and its length is answered, or nothing at all and the output is refused
pub record Writes (good : Bool) (t out : List ℕ) (r : Result ℕ Refusal) (out' : List ℕ) : Type 0 where
  pub answer : r ≡ cond good (Ok (length t)) (Err BadLength)
  pub output : out' ≡ cond good (into out t) out
  pub within : IfOk r (λ n. n ≤ length out)

-- the report, and memory as the drain leaves it, if there was one
pub record Reports (p m s out : List ℕ) (r : Result ℕ Refusal) (m' out' : List ℕ) : Type 0 where
  pub writes : Writes (has_room out) (report p m s) out r out'
  pub memory : m' ≡ cond (has_room out && is_fit p m s) (after_drain p m s) m

-- what a machine holds, of a memory that is whole cells
abbrev pub Shows : State → List ℕ → List ℕ → Result ℕ Refusal → List ℕ → Type 0
Shows s m out r out' = Writes (is_whole m && has_room out) (contents_text s (cells m)) out r out'

-- ---- what the code's leaves promise

-- the text of a run is put on the page, in at most k bytes, and memory after it
pub record Tells (p m s : List ℕ) (page : Page) (k : ℕ) (m' : List ℕ) (page' : Page) : Type 0 where
  pub text : AddsWithin page (run_text p m s) k page'
  pub memory : m' ≡ after_drain p m s
