-- The scan of a buffer for its first malformed record.
use Rattle.std.specs.Prelude.{ℕ, suc, ◌/◌, Bool, cond, List, [], ◌∷◌, ltb, length, Result, Ok, Err}
use Rattle.records.specs.declared.Record.{Record}
use Rattle.records.specs.declared.Refusal.{Refusal}
use Rattle.records.specs.declared.Refusal.TheVariants.{BadLength}
use Rattle.records.specs.declared.Fault.{Fault}
use Rattle.records.specs.Refusal.{fault}
use Rattle.records.specs.Records.{records, is_whole}

-- refused, at record number i
abbrev pub refused : Refusal → ℕ → Result Unit Fault
refused n i = Err (fault n i)

abbrev pub accepted : Result Unit Fault
accepted = Ok tt

-- how many from the front are well formed: the number of the first that isn't
abbrev pub leading : {A : Type 0} → (A → Bool) → List A → ℕ
leading right [] = 0
leading right (x ∷ xs) = cond (right x) (suc (leading right xs)) 0

-- refusal n at record number i, unless all of the count are well formed
abbrev pub judged : Refusal → ℕ → ℕ → Result Unit Fault
judged n i count = cond (ltb i count) (refused n i) accepted

-- the length first; then each record by `right`, whose refusal is n
abbrev pub scanned : Refusal → (Record → Bool) → List ℕ → Result Unit Fault
scanned n right b = cond (is_whole b) (judged n (leading right (records b)) (length b / 8)) (refused BadLength 0)
