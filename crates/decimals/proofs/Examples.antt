-- Words worked by hand, read and written.
use Rattle.std.specs.Prelude.{None, Some}
use Rattle.std.proofs.Common.{◌≡◌, refl}
use lib.Ieee.{add, mul, of_bits, round, to_bits, to_unsigned}
use Rattle.decimals.specs.Decimals.{all_hex, decimal_text, hex_after, hex_text, last_digits, last_hex, nearest_bits, places_from, reads_back, real, real_text}
use Rattle.output.specs.Text.{ascii, decimal, digits}
use Rattle.text.specs.Text.{before}
use Rattle.text.specs.Tokens.{all_digits, value_after}

-- ---- read

tenth : real (ascii "0.1") ≡ Some 0x3fb999999999999a
unfolding real before all_digits value_after nearest_bits round to_bits
tenth = refl

minus_zero : real (ascii "-0") ≡ Some 0x8000000000000000
unfolding real before all_digits value_after nearest_bits round to_bits
minus_zero = refl

fifteen_digits : real (ascii "-123456.789012345") ≡ Some 0xc0fe240c9fcb689f
unfolding real before all_digits value_after nearest_bits round to_bits
fifteen_digits = refl

sixteen_digits : real (ascii "1234567.890123456") ≡ None
unfolding real before all_digits
sixteen_digits = refl

no_digit_before : real (ascii ".5") ≡ None
unfolding real before
no_digit_before = refl

no_digit_behind : real (ascii "5.") ≡ None
unfolding real before
no_digit_behind = refl

hex_infinity : real (ascii "0x7Ff0000000000000") ≡ Some 0x7ff0000000000000
unfolding real all_hex hex_after
hex_infinity = refl

-- ---- written

one : real_text 0x3ff0000000000000 ≡ ascii "1"
unfolding real_text places_from reads_back decimal_text decimal digits nearest_bits of_bits round mul add to_bits to_unsigned
one = refl

minus_tenth : real_text 0xbfb999999999999a ≡ ascii "-0.1"
unfolding real_text places_from reads_back decimal_text decimal digits last_digits nearest_bits of_bits round mul add to_bits to_unsigned
minus_tenth = refl

million : real_text 0x412e848000000000 ≡ ascii "1000000"
unfolding real_text places_from reads_back decimal_text decimal digits nearest_bits of_bits round mul add to_bits to_unsigned
million = refl

third : real_text 0x3fd5555555555555 ≡ ascii "0x3fd5555555555555"
unfolding real_text places_from reads_back hex_text last_hex nearest_bits of_bits round mul add to_bits to_unsigned
third = refl
