-- Worked examples of the operations, by computation.
use Rattle.std.proofs.Common.{◌≡◌, refl}
use Rattle.value.specs.declared.Value.TheVariants.{Undefined, Word}
use Rattle.value.specs.Operation.{result_of}

add_wraps : result_of 0 (Word 4294967295) (Word 1) ≡ Word 0
unfolding result_of
add_wraps = refl

sub_wraps : result_of 1 (Word 0) (Word 1) ≡ Word 4294967295
unfolding result_of
sub_wraps = refl

mul_low : result_of 2 (Word 65536) (Word 65536) ≡ Word 0
unfolding result_of
mul_low = refl

-- -7 by 2 is -3
div_toward_zero : result_of 3 (Word 4294967289) (Word 2) ≡ Word 4294967293
unfolding result_of
div_toward_zero = refl

div_by_zero : result_of 3 (Word 7) (Word 0) ≡ Undefined
unfolding result_of
div_by_zero = refl

-- -2^31 by -1
div_corner : result_of 3 (Word 2147483648) (Word 4294967295) ≡ Word 2147483648
unfolding result_of
div_corner = refl

less-signed : result_of 4 (Word 4294967295) (Word 0) ≡ Word 1
unfolding result_of
less-signed = refl

no-operation : result_of 5 (Word 1) (Word 1) ≡ Undefined
unfolding result_of
no-operation = refl
