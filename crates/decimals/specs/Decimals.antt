-- The ends of spans and parameters as words: a decimal, or 0x and the f64's 16 hexadecimal digits (docs/GUIDE.md, A first garment by hand).
use Rattle.std.specs.Prelude.{ℕ, zero, suc, ◌+◌, ◌-◌, ◌*◌, ◌/◌, ◌%◌, ◌^◌, Bool, true, false, ◌&&◌, ◌||◌, List, [], ◌∷◌, ◌++◌, length, drop, ◌==◌, from_bits, nat_le, nat_lt, slice_index, to_bits, None, Option, Some}
use Rattle.std.specs.Float.Ieee.{add, mul, round, to_unsigned}
use Rattle.std.specs.Float.{binary64}
use Rattle.lists.specs.Lists.{pick}
use Rattle.output.specs.Text.{ascii, decimal}
use Rattle.text.specs.Text.{before}
use Rattle.text.specs.Tokens.{all_digits, is_digit, value_after}

-- ---- reading

-- the f64 nearest to m / 10^k, at a tie the even one, negative where s says so; as its bits
unfoldable pub nearest_bits : Bool → ℕ → ℕ → ℕ
nearest_bits s m k = to_bits binary64 (round binary64 s m (10 ^ k))

abbrev pub is_point : ℕ → Bool
is_point b = b == 46

-- digits, of at most 15 in all, with k of them after the point
abbrev pub plain : Bool → List ℕ → ℕ → Option ℕ
plain s ds k = pick (nat_le (length ds) 15 && all_digits ds) (Some (nearest_bits s (value_after 0 ds) k)) None

-- digits; or digits, a point, digits
abbrev pub unsigned : Bool → List ℕ → Option ℕ
unsigned s w =
    let whole = before is_point w in
    let places = drop (suc (length whole)) w in
    pick (length whole == length w) (pick (length w == 0) None (plain s w 0)) (pick (length whole == 0 || length places == 0) None (plain s (whole ++ places) (length places)))

-- a hexadecimal digit's value; 16 for any other byte
abbrev pub hex_digit : ℕ → ℕ
hex_digit b = pick (is_digit b) (b - 48) (pick (nat_le 97 b && nat_le b 102) (b - 87) (pick (nat_le 65 b && nat_le b 70) (b - 55) 16))

unfoldable pub all_hex : List ℕ → Bool
all_hex [] = true
all_hex (b ∷ s) = nat_lt (hex_digit b) 16 && all_hex s

unfoldable pub hex_after : ℕ → List ℕ → ℕ
hex_after n [] = n
hex_after n (b ∷ s) = hex_after (n * 16 + hex_digit b) s

-- 0x and 16 digits
abbrev pub hex : List ℕ → Option ℕ
hex w = pick (length w == 18 && all_hex (drop 2 w)) (Some (hex_after 0 (drop 2 w))) None

-- an f64, as its bits: 0x first, else a decimal with or without a minus before it
unfoldable pub real : List ℕ → Option ℕ
real w = pick (slice_index w 0 == 48 && slice_index w 1 == 120) (hex w) (pick (slice_index w 0 == 45) (unsigned true (drop 1 w)) (unsigned false w))

-- ---- writing

abbrev pub is_negative : ℕ → Bool
is_negative bits = nat_le 0x8000000000000000 bits

-- the magnitude times 10^k, plus a half, without its fraction
abbrev pub scaled : ℕ → ℕ → ℕ
scaled bits k = to_unsigned 64 (add binary64 (mul binary64 (from_bits binary64 (bits % 0x8000000000000000)) (round binary64 false (10 ^ k) 1)) (round binary64 false 1 2))

-- of magnitude at most 1,000,000, and that whole number over 10^k reads back to the same bits
unfoldable pub reads_back : ℕ → ℕ → Bool
reads_back bits k = nat_le (bits % 0x8000000000000000) 0x412e848000000000 && nat_lt (scaled bits k) 1000000000000000 && nearest_bits (is_negative bits) (scaled bits k) k == bits

-- the fewest places after the point, from k on, that read back; d tries
unfoldable pub places_from : ℕ → ℕ → ℕ → ℕ
places_from bits zero k = k
places_from bits (suc d) k = pick (reads_back bits k) k (places_from bits d (suc k))

-- the last d digits of a number in the base 10, or 16
unfoldable pub last_digits : ℕ → ℕ → List ℕ
last_digits zero n = []
last_digits (suc d) n = last_digits d (n / 10) ++ ((48 + n % 10) ∷ [])

unfoldable pub last_hex : ℕ → ℕ → List ℕ
last_hex zero n = []
last_hex (suc d) n = last_hex d (n / 16) ++ (pick (nat_lt (n % 16) 10) (48 + n % 16) (87 + n % 16) ∷ [])

unfoldable pub decimal_text : Bool → ℕ → ℕ → List ℕ
decimal_text s m k = pick s (ascii "-") [] ++ decimal (m / 10 ^ k) ++ pick (k == 0) [] (ascii "." ++ last_digits k m)

unfoldable pub hex_text : ℕ → List ℕ
hex_text bits = ascii "0x" ++ last_hex 16 bits

-- the decimal with the fewest places, up to nine, that reads back to the same bits; else the hexadecimal digits
unfoldable pub real_text : ℕ → List ℕ
real_text bits =
    let k = places_from bits 10 0 in
    pick (nat_lt k 10) (decimal_text (is_negative bits) (scaled bits k) k) (hex_text bits)
