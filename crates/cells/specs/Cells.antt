-- Memory: cells in records of 8 bytes.
use Rattle.std.specs.Prelude.{◌≡◌, ℕ, ◌/◌, Bool, cond, ◌&&◌, ◌||◌, List, map, eqb, ltb, length, set, Result, Ok, Err}
use Rattle.std.proofs.Math.Option.{Option, none, some}
use Rattle.std.proofs.Math.ListN.{get_elem?}
use Rattle.records.specs.declared.Record.{Record}
use Rattle.records.specs.declared.Fault.{Fault}
use Rattle.records.specs.declared.Refusal.TheVariants.{BadCell, Outside}
use Rattle.records.specs.declared.Refusal.{Refusal}
use Rattle.records.specs.Records
use Rattle.records.specs.Records.{records, replaced}
use Rattle.records.specs.Scan.{scanned}
use Rattle.value.specs.declared.Value.{Value}
use Rattle.value.specs.declared.Value.TheVariants.{Undefined, Word}
use Rattle.value.specs.Operation.{undefined}
use Rattle.isa.specs.declared.DataAddr.{DataAddr}

-- byte 0 is the mark, 1 for a word; what is not marked as a word is undefined
abbrev pub value_of : Record → Value
value_of r = cond (eqb r.b0 1) (Word r.word) undefined

-- the mark is 0 or 1, three bytes are zero, and so is the word of an undefined cell
abbrev pub is_cell : Record → Bool
is_cell r = eqb r.b1 0 && eqb r.b2 0 && eqb r.b3 0 && (eqb r.b0 1 || (eqb r.b0 0 && eqb r.word 0))

abbrev pub record_of : Value → Record
record_of Undefined = record { b0 = 0; b1 = 0; b2 = 0; b3 = 0; word = 0 }
record_of (Word w) = record { b0 = 1; b1 = 0; b2 = 0; b3 = 0; word = w }

-- ---- the values that memory's bytes hold, and the bytes of values

unfoldable pub cells : List ℕ → List Value
cells b = map value_of (records b)

unfoldable pub image : List Value → List ℕ
image m = Records.image (map record_of m)

-- the bytes are those of the values
abbrev pub Formed : List ℕ → Type 0
Formed b = image (cells b) ≡ b

unfoldable pub scan_of : List ℕ → Result Unit Fault
scan_of b = scanned BadCell is_cell b

-- ---- load and store by address, refused outside memory

abbrev pub inside : Option Value → Result Value Refusal
inside (some v) = Ok v
inside none = Err Outside

unfoldable pub load_from : List Value → DataAddr → Result Value Refusal
load_from m a = inside (get_elem? m a.0)

-- what a store answers
abbrev pub storing : ℕ → DataAddr → Result Unit Refusal
storing size a = cond (ltb a.0 size) (Ok tt) (Err Outside)

-- the answer, and what memory is then: that cell alone is another, and outside memory none
pub record Stores (b : List ℕ) (a : DataAddr) (v : Value) (r : Result Unit Refusal) (b' : List ℕ) : Type 0 where
  pub answer : r ≡ storing (length b / 8) a
  pub bytes : b' ≡ replaced b a.0 (record_of v)
  pub holds : cells b' ≡ set (cells b) a.0 v
