-- What an instruction does once its operands are values, on either machine.
use Rattle.std.specs.Prelude.{◌≡◌, ℕ, ◌+◌, cond, List, eqb, ltb, length, set, Result, Ok, Err}
use Rattle.records.specs.declared.Refusal.TheVariants.{IsUndefined, Outside}
use Rattle.records.specs.Refusal.{verdict_of}
use Rattle.records.specs.Records.{replaced}
use Rattle.records.specs.declared.Refusal.{Refusal}
use Rattle.value.specs.declared.Value.{Value}
use Rattle.value.specs.declared.Value.TheVariants.{Undefined, Word}
use Rattle.isa.specs.declared.InstrAddr.{InstrAddr}
use Rattle.isa.specs.declared.DataAddr.{DataAddr}
use Rattle.cells.specs.Cells.{record_of, cells, load_from}

-- ---- a value becomes an address here alone

abbrev pub data_addr : ℕ → DataAddr
data_addr w = record { 0 = w }

abbrev pub instr_addr : ℕ → InstrAddr
instr_addr w = record { 0 = w }

abbrev pub read_at : List Value → Value → Result Value Refusal
read_at m Undefined = Err IsUndefined
read_at m (Word w) = load_from m (data_addr w)

abbrev pub write_at : List Value → Value → Value → Result (List Value) Refusal
write_at m Undefined v = Err IsUndefined
write_at m (Word w) v = cond (ltb w (length m)) (Ok (set m w v)) (Err Outside)

abbrev pub target : Value → Result InstrAddr Refusal
target Undefined = Err IsUndefined
target (Word w) = Ok (instr_addr w)

-- ---- where a Jz goes

abbrev pub next : InstrAddr → InstrAddr
next a = instr_addr (a.0 + 1)

-- from address a, by condition and target
abbrev pub branch : InstrAddr → Value → Value → Result InstrAddr Refusal
branch a Undefined t = Err IsUndefined
branch a (Word w) t = cond (eqb w 0) (target t) (Ok (next a))

-- ---- a run of instructions

-- it goes on, with what holds the values, the counter and memory; or it stopped at an address, for a reason
pub data Run (E : Type 0) : Type 0 where
  going : E → InstrAddr → List Value → Run E
  stopped : InstrAddr → Refusal → List Value → Run E

-- the instruction at address a, which may fail, and what it does if not
abbrev pub attempt : {A E : Type 0} → InstrAddr → List Value → (A → Run E) → Result A Refusal → Run E
attempt a m f (Ok x) = f x
attempt a m f (Err n) = stopped a n m

-- ---- what the code answers

abbrev pub or_kept : {A : Type 0} → A → Result A Refusal → A
or_kept x (Ok y) = y
or_kept x (Err n) = x

-- memory's bytes after a write
abbrev pub written : List ℕ → Value → Value → List ℕ
written b Undefined v = b
written b (Word w) v = replaced b w (record_of v)

pub record Writes (b : List ℕ) (a v : Value) (r : Result Unit Refusal) (b' : List ℕ) : Type 0 where
  pub answer : r ≡ verdict_of (write_at (cells b) a v)
  pub bytes : b' ≡ written b a v
  pub holds : cells b' ≡ or_kept (cells b) (write_at (cells b) a v)
