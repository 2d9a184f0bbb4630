-- The operations: each takes two words, and an operand that is undefined makes the result undefined.
use Rattle.std.specs.Prelude.{ℕ, ◌+◌, ◌-◌, ◌*◌, ◌%◌, ◌^◌, cond, ℤ, ◌==◌, int_div, int_lt}
use Rattle.std.specs.Int.{w32}
use Rattle.std.proofs.Common.{to_z, of_z}
use Rattle.value.specs.declared.Value.{Value}
use Rattle.value.specs.declared.Value.TheVariants.{Undefined, Word}

-- the undefined value: built here alone
abbrev pub undefined : Value
undefined = Undefined

-- the low 32 bits
abbrev pub low : ℕ → ℕ
low n = n % 2 ^ 32

-- a word as two's complement, and the word of a number between -2^31 and 2^31
abbrev pub signed : ℕ → ℤ
signed a = to_z w32 a

abbrev pub word_of : ℤ → ℕ
word_of z = of_z w32 z

abbrev pub add : ℕ → ℕ → ℕ
add a b = low (a + b)

abbrev pub sub : ℕ → ℕ → ℕ
sub a b = low (a + (2 ^ 32 - b))

abbrev pub mul : ℕ → ℕ → ℕ
mul a b = low (a * b)

-- the quotient, rounded toward zero; a zero divisor has none; -2^31 by -1 is the word 2^31
abbrev pub div : ℕ → ℕ → Value
div a b = cond (b == 0) undefined (Word (word_of (int_div (signed a) (signed b))))

-- 1 if the first is smaller, else 0
abbrev pub less : ℕ → ℕ → ℕ
less a b = cond (int_lt (signed a) (signed b)) 1 0

-- 0 Add, 1 Sub, 2 Mul, 3 Div, 4 Less; no other number is an operation's
abbrev pub on_words : ℕ → ℕ → ℕ → Value
on_words n a b =
    cond (n == 0) (Word (add a b))
    (cond (n == 1) (Word (sub a b))
    (cond (n == 2) (Word (mul a b))
    (cond (n == 3) (div a b)
    (cond (n == 4) (Word (less a b))
    undefined))))

unfoldable pub result_of : ℕ → Value → Value → Value
result_of n Undefined y = undefined
result_of n (Word a) Undefined = undefined
result_of n (Word a) (Word b) = on_words n a b
