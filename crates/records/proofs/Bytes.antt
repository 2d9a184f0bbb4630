-- A record and its eight bytes say each other.
use mathlib.Core.Path.{◌≡◌, refl}
use Prim.Native.Nat.{ℕ, ◌+◌, ◌*◌, ◌/◌, ◌%◌, ◌^◌, ◌<◌}
use mathlib.Core.List.{List, [], ◌∷◌}
use native.Mathlib.Nat.{div-div-eq-div-mul, mod-add-div}
use native.Mathlib.Omega.{arith}
use lib.ListN.{get_or}
use Rattle.records.specs.declared.Record.{Record}
use Rattle.records.specs.Records.{record_from, bytes}

-- a digit and the rest
digit : (k m : ℕ) → k / m % 256 + 256 * (k / (m * 256)) ≡ k / m
digit k m = rw (← div-div-eq-div-mul k m 256) (mod-add-div (k / m) 256)

glue : (k q₁ q₂ q₃ r₀ r₁ r₂ : ℕ) → r₀ + 256 * q₁ ≡ k → r₁ + 256 * q₂ ≡ q₁ → r₂ + 256 * q₃ ≡ q₂
    → r₀ + 256 * r₁ + 65536 * r₂ + 16777216 * q₃ ≡ k
glue k q₁ q₂ q₃ r₀ r₁ r₂ e₁ e₂ e₃ = omega arith

-- the four bytes of a word spell it
pub spelt : (k : ℕ) → k < 2 ^ 32 → k % 256 + 256 * (k / 256 % 256) + 65536 * (k / 65536 % 256) + 16777216 * (k / 16777216 % 256) ≡ k
spelt k h =
    let top : k / 16777216 % 256 ≡ k / 16777216 = omega arith in
    rw top (glue k (k / 256) (k / 65536) (k / 16777216) (k % 256) (k / 256 % 256) (k / 65536 % 256) (mod-add-div k 256) (digit k 256) (digit k 65536))

-- the bytes of a record read back as the record
pub record_of-bytes : (r : Record) → r.word < 2 ^ 32 → record_from (bytes r) 0 ≡ r
record_of-bytes r h = λ i. record { b0 = r.b0; b1 = r.b1; b2 = r.b2; b3 = r.b3; word = spelt r.word h i }

-- each byte of the word that four bytes spell
module _ (a b c d : ℕ) (ha : a < 256) (hb : b < 256) (hc : c < 256) (hd : d < 256) where
  abbrev word : ℕ
  word = a + 256 * b + 65536 * c + 16777216 * d

  byte0 : word % 256 ≡ a
  byte0 = omega arith

  byte1 : word / 256 % 256 ≡ b
  byte1 = omega arith

  byte2 : word / 65536 % 256 ≡ c
  byte2 = omega arith

  byte3 : word / 16777216 % 256 ≡ d
  byte3 = omega arith

-- the bytes from `at` on
abbrev pub eight : List ℕ → ℕ → List ℕ
eight b at =
    get_or b at 0 ∷
    get_or b (at + 1) 0 ∷
    get_or b (at + 2) 0 ∷
    get_or b (at + 3) 0 ∷
    get_or b (at + 4) 0 ∷
    get_or b (at + 4 + 1) 0 ∷
    get_or b (at + 4 + 2) 0 ∷
    get_or b (at + 4 + 3) 0 ∷
    []

-- the record in eight bytes has these bytes
pub bytes_of_record : (b : List ℕ) (at : ℕ) → ((i : ℕ) → get_or b i 0 < 256) → bytes (record_from b at) ≡ eight b at
bytes_of_record b at small =
    let k : ℕ → ℕ = λ j. get_or b (at + 4 + j) 0 in
    let s0 = small (at + 4) in
    let s1 = small (at + 4 + 1) in
    let s2 = small (at + 4 + 2) in
    let s3 = small (at + 4 + 3) in
    rw (byte0 _ _ _ _ s0 s1 s2 s3, byte1 _ _ _ _ s0 s1 s2 s3, byte2 _ _ _ _ s0 s1 s2 s3, byte3 _ _ _ _ s0 s1 s2 s3) refl
