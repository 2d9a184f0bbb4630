-- The numbers for no, and what a refusal is about.
use Rattle.std.specs.Prelude.{ℕ, Result, Ok, Err}
use Rattle.records.specs.declared.Refusal.{Refusal}
use Rattle.records.specs.declared.Refusal.TheVariants.{BadLength, BadInstruction, BadCell, Unsound, BadSchedule, NoInstruction, Stalled, Full, BadTag, NoTemplate, OtherKind, NeedsTag, NotHeld, StillHeld, EarlierMemory, IsUndefined, Outside, OtherWay}
use Rattle.records.specs.declared.Fault.{Fault}

-- each refusal's number in the scope paper's table, and when it is given
abbrev pub number_of : Refusal → ℕ
-- a buffer isn't whole records, is over its limit, or an output is too short
number_of BadLength = 1
-- a malformed instruction, a malformed cell: with the first such record's number
number_of BadInstruction = 2
number_of BadCell = 3
-- state not sound
number_of Unsound = 4
-- malformed schedule record
number_of BadSchedule = 5
-- issue: no instruction there; stalled; 64 templates; tag wrong or in use
number_of NoInstruction = 6
number_of Stalled = 7
number_of Full = 8
number_of BadTag = 9
-- no template at the place; not of the rule's kind
number_of NoTemplate = 10
number_of OtherKind = 11
-- a needed operand is a tag
number_of NeedsTag = 12
-- nothing holds the tag to forward or commit; retire: the tag is held
number_of NotHeld = 13
number_of StillHeld = 14
-- an earlier Load or Store
number_of EarlierMemory = 15
-- undefined address, condition or taken target; address outside memory
number_of IsUndefined = 16
number_of Outside = 17
-- jump with non-zero condition, or no-jump with zero
number_of OtherWay = 18

-- the refusal at record number i
abbrev pub fault : Refusal → ℕ → Fault
fault n i = record { refusal = n; number = i }

-- ---- what was tried, without its value

abbrev pub verdict_of : {A : Type 0} → Result A Refusal → Result Unit Refusal
verdict_of (Ok x) = Ok tt
verdict_of (Err n) = Err n

-- of a refusal that is about no record
abbrev pub faulted : Result Unit Refusal → Result Unit Fault
faulted (Ok x) = Ok tt
faulted (Err n) = Err (fault n 0)
