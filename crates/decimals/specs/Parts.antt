-- Parts of what is written.
use Rattle.std.specs.Prelude.{ℕ, zero, suc, ◌+◌, ◌/◌, ◌%◌, Bool, List, [], ◌∷◌, ◌++◌, ◌==◌, nat_lt}
use Rattle.decimals.specs.Decimals.{last_digits}
use Rattle.lists.specs.Lists.{pick}
use Rattle.output.specs.Text.{ascii}

-- the digit of a number below 16
abbrev pub digit_byte : ℕ → ℕ
digit_byte n = pick (nat_lt n 10) (48 + n) (87 + n)

-- the last d digits of n in a base of at most 16
unfoldable pub last_in : ℕ → ℕ → ℕ → List ℕ
last_in base zero n = []
last_in base (suc d) n = last_in base d (n / base) ++ (digit_byte (n % base) ∷ [])

-- a minus, or nothing
abbrev pub sign_text : Bool → List ℕ
sign_text s = pick s (ascii "-") []

-- a point and the last k digits, or nothing
abbrev pub places_text : ℕ → ℕ → List ℕ
places_text k m = pick (k == 0) [] (ascii "." ++ last_digits k m)
