-- A buffer as records of 8 bytes, and a record as 8 bytes.
use Rattle.std.specs.Prelude.{ℕ, zero, suc, ◌+◌, ◌*◌, ◌/◌, ◌%◌, Bool, cond, ◌&&◌, List, [], ◌∷◌, ◌++◌, eqb, leb, ltb, length, get_or, Option, Some, None}
use Rattle.std.proofs.Math.Option.{Option as Maybe, none, some}
use Rattle.std.proofs.lemmas.List.Edits.{sets}
use Rattle.records.specs.declared.Record.{Record}

-- the most records that a program or a memory has
abbrev pub limit : ℕ
limit = 1024

-- the 32-bit number in the four bytes at `at`, the lowest first
abbrev pub word_at : List ℕ → ℕ → ℕ
word_at b at = get_or b at 0 + 256 * get_or b (at + 1) 0 + 65536 * get_or b (at + 2) 0 + 16777216 * get_or b (at + 3) 0

-- the record in the eight bytes at `at`
abbrev pub record_from : List ℕ → ℕ → Record
record_from b at =
    record {
      b0 = get_or b at 0;
      b1 = get_or b (at + 1) 0;
      b2 = get_or b (at + 2) 0;
      b3 = get_or b (at + 3) 0;
      word = word_at b (at + 4);
    }

-- f 0, f 1, .., f (n - 1)
abbrev pub tabulate : {A : Type 0} → ℕ → (ℕ → A) → List A
tabulate zero f = []
tabulate (suc n) f = f 0 ∷ tabulate n (λ i. f (suc i))

-- a buffer's whole records, in order
unfoldable pub records : List ℕ → List Record
records b = tabulate (length b / 8) (λ i. record_from b (8 * i))

abbrev pub found : Maybe Record → Option Record
found (some r) = Some r
found none = None

-- a record's eight bytes
abbrev pub bytes : Record → List ℕ
bytes r =
    r.b0 ∷
    r.b1 ∷
    r.b2 ∷
    r.b3 ∷
    r.word % 256 ∷
    r.word / 256 % 256 ∷
    r.word / 65536 % 256 ∷
    r.word / 16777216 % 256 ∷
    []

-- the bytes of records, one after another
abbrev pub image : List Record → List ℕ
image [] = []
image (r ∷ rs) = bytes r ++ image rs

-- the buffer with its record number i replaced, if it has one
abbrev pub replaced : List ℕ → ℕ → Record → List ℕ
replaced b i r = cond (ltb i (length b / 8)) (sets b (8 * i) (bytes r)) b

-- whole records, and no more than the limit
abbrev pub is_whole : List ℕ → Bool
is_whole b = eqb (length b % 8) 0 && leb (length b) (8 * limit)
