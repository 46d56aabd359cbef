-- Numbers and their texts, by computing.
use mathlib.Core.Path.{◌≡◌, refl}
use lib.IntN.{pos, negsuc}
use Rattle.writing.specs.Ascii.{ascii}
use Rattle.writing.specs.Decimal.{decimal_of, signed_of}

-- nothing is one digit
pub of_zero : decimal_of 0 ≡ ascii "0"
unfolding decimal_of
of_zero = refl

-- zeros at the end stay
pub of_million : decimal_of 1000000 ≡ ascii "1000000"
unfolding decimal_of
of_million = refl

-- the largest number of 64 bits
pub of_largest : decimal_of 18446744073709551615 ≡ ascii "18446744073709551615"
unfolding decimal_of
of_largest = refl

-- below 0
pub of_negative : signed_of (negsuc 11) ≡ ascii "-12"
unfolding signed_of
of_negative = refl

-- not below 0
pub of_positive : signed_of (pos 13) ≡ ascii "13"
unfolding signed_of
of_positive = refl
