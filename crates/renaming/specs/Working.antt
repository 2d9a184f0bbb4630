-- The machine that the working table shows, and what the rules' code makes of it and of memory's bytes.
use Rattle.std.specs.Prelude.{◌≡◌, ℕ, suc, ◌/◌, ◌≤◌, ◌<◌, true, cond, List, ◌++◌, length, get_or, take, drop, Result}
use Rattle.records.specs.declared.Fault.{Fault}
use Rattle.records.specs.declared.Refusal.{Refusal}
use Rattle.records.specs.declared.Refusal.TheVariants.{Unsound}
use Rattle.records.specs.Scan as Scan
use Rattle.value.specs.declared.Value.{Value}
use Rattle.isa.specs.declared.Instr.{Instr}
use Rattle.isa.specs.declared.Tag.{Tag}
use Rattle.isa.specs.Program.{scan_of}
use Rattle.cells.specs.Cells.{cells, Formed}
use Rattle.kernel.specs.Checks.{first, checked}
use Rattle.templates.specs.declared.Counter.{Counter}
use Rattle.templates.specs.Machine.{Itb, nothing, Mach}
use Rattle.sound.specs.Sound.{sound_mach}
use Rattle.sound.specs.Search.{sound_on}
use Rattle.rows.specs.Rows.{Row}
use Rattle.rows.specs.Shown.{regs_of, Table, File}
use Rattle.rules.specs.Rules.{Step, accepted, refused, holding, renamed}
use Rattle.rules.specs.Run.{End}
use Rattle.rules.specs.Drain.{refusal, Drained}
use Rattle.renaming.specs.declared.running.Went.{Went}
use Rattle.renaming.specs.Answers.{memory_of}

-- ---- what is shown

-- rows and numbers stand for what they show: coding that gives them again
pub record Coded (n : ℕ) (ts : List Row) (rf : List ℕ) : Type 0 where
  pub table : Table n ts
  pub file : File rf

-- every template's address is below 1,024, so that the next is an address too
abbrev pub Within : List Itb → Type 0
Within xs = (i : ℕ) → i < length xs → (get_or xs i nothing).address.0 < 1024

-- ---- the way in

-- refusals 1 to 4 of what a table shows
abbrev pub entered_on : List ℕ → List ℕ → Counter → ℕ → List Row → List ℕ → Result Unit Fault
entered_on p b c n ts rf = first (checked p b) (cond (sound_on (length p / 8) c n ts rf) Scan.accepted (Scan.refused Unsound 0))

-- ---- what a step comes to

-- a refusal leaves the machine
abbrev pub after : Mach → Step → Mach
after σ (accepted τ m) = τ
after σ (refused why) = σ

-- from machine σ and memory m: the answer r, and machine and memory afterwards
pub record Does (f : Mach → List Value → Step) (σ : Mach) (m : List Value) (r : Result Unit Refusal) (σ' : Mach) (m' : List Value) : Type 0 where
  pub verdict : r ≡ refusal (f σ m)
  pub machine : σ' ≡ after σ (f σ m)
  pub memory : m' ≡ memory_of m (f σ m)

-- whatever memory is, which stays
abbrev pub DoesAlone : (Mach → List Value → Step) → Mach → Result Unit Refusal → Mach → Type 0
DoesAlone f σ r σ' = (m : List Value) → Does f σ m r σ' m

-- on memory's bytes
pub record Acts (f : Mach → List Value → Step) (σ : Mach) (b : List ℕ) (r : Result Unit Refusal) (σ' : Mach) (b' : List ℕ) : Type 0 where
  pub does : Does f σ (cells b) r σ' (cells b')
  pub formed : Formed b → Formed b'

-- the template at place p removed
abbrev pub without : ℕ → Mach → Mach
without p σ = holding σ (take p σ.held ++ drop (suc p) σ.held)

-- the tag in the destination
pub record Renames (t : Tag) (i : Instr) (rf rf' : List ℕ) : Type 0 where
  pub shown : regs_of rf' ≡ renamed (regs_of rf) t i
  pub file : File rf'

-- ---- the loops

-- a sound machine, of a program of at most 1,024 instructions
abbrev pub Inside : Mach → Type 0
Inside σ = (k : ℕ) × (k ≤ 1024) × (sound_mach k σ ≡ true)

-- sound for a program that was scanned
pub record Ready (p : List ℕ) (σ : Mach) : Type 0 where
  pub sound : sound_mach (length p / 8) σ ≡ true
  pub scanned : scan_of p ≡ Scan.accepted

-- the run came to e
pub record RunsTo (e : End) (b : List ℕ) (r : Went) (σ' : Mach) (b' : List ℕ) : Type 0 where
  pub end : record { accepted = r.accepted; issued = r.issued; verdict = r.verdict; machine = σ'; memory = cells b' } ≡ e
  pub formed : Formed b → Formed b'

-- the drain came to d
pub record DrainsTo (d : Drained) (b : List ℕ) (rules : ℕ) (σ' : Mach) (b' : List ℕ) : Type 0 where
  pub end : record { rules = rules; machine = σ'; memory = cells b' } ≡ d
  pub formed : Formed b → Formed b'
