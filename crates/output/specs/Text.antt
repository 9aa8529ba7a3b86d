-- What the programs print, as bytes: numbers, and the line of a refused file (FORMAT 3.1).
use Rattle.std.specs.Prelude.{ℕ, zero, suc, ◌+◌, ◌/◌, ◌%◌, List, [], ◌∷◌, ◌++◌, ltb}
use Prim.Native.Char.{code}
use Prim.Native.String.{String, [] as []ₛ, ◌∷◌ as ◌∷ₛ◌}
use Rattle.lists.specs.Lists.{pick}
use Rattle.errors.specs.Numbers.{number, body, record_number}
use Rattle.errors.specs.declared.Refusal.{Refusal}

-- the bytes of an ASCII text
abbrev pub ascii : String → List ℕ
ascii []ₛ = []
ascii (c ∷ₛ s) = code c ∷ ascii s

-- the digit of a number below 10
abbrev pub digit : ℕ → List ℕ
digit n = (48 + n) ∷ []

-- the digits of a number that has at most d of them
unfoldable pub digits : ℕ → ℕ → List ℕ
digits zero n = []
digits (suc d) n = let more = digits d (n / 10) ++ digit (n % 10) in pick (ltb n 10) (digit n) more

-- a number in decimal: no number n has more than n + 1 digits
unfoldable pub decimal : ℕ → List ℕ
decimal n = digits (suc n) n

-- a text, and a number after it
unfoldable pub field : String → ℕ → List ℕ
field s n = ascii s ++ decimal n

unfoldable pub refusal_line : Refusal → List ℕ
refusal_line f = field "refused " (number f) ++ field " body " (body f) ++ field " record " (record_number f) ++ ascii "\n"
