-- What a word can say: a number, a use or listing, a name (docs/GUIDE.md, Edits).
use Rattle.std.specs.Prelude.{ℕ, ◌+◌, ◌-◌, ◌*◌, min, Bool, true, ◌&&◌, List, [], ◌∷◌, eqb, leb, get_or, length, take, None, Option, Some}
use Rattle.lists.specs.Lists.{pick}

abbrev pub is_digit : ℕ → Bool
is_digit b = leb 48 b && leb b 57

unfoldable pub all_digits : List ℕ → Bool
all_digits [] = true
all_digits (b ∷ s) = is_digit b && all_digits s

-- the digits s in the base, after those of the number n
unfoldable pub value_after : ℕ → List ℕ → ℕ
value_after n [] = n
value_after n (b ∷ s) = value_after (n * 10 + (b - 48)) s

-- one to nine digits
unfoldable pub number : List ℕ → Option ℕ
number w = pick (leb 1 (length w) && leb (length w) 9 && all_digits w) (Some (value_after 0 w)) None

-- a number, and + or - after it. An edge or face above 32,767 names nothing, as 32,767 does
abbrev pub signed_number : Option ℕ → ℕ → Option ℕ
signed_number None sign = None
signed_number (Some n) sign = pick (eqb sign 43) (Some (min n 32767)) (pick (eqb sign 45) (Some (min n 32767 + 32768)) None)

unfoldable pub signed : List ℕ → Option ℕ
signed w = signed_number (number (take (length w - 1) w)) (get_or w (length w - 1) 0)

-- a word of at most seven bytes as a number: a one and its bytes, the first the highest; no two words have the same. 0 for a longer one
unfoldable pub name_after : ℕ → List ℕ → ℕ
name_after n [] = n
name_after n (b ∷ s) = name_after (n * 256 + b) s

unfoldable pub name : List ℕ → ℕ
name w = pick (leb (length w) 7) (name_after 1 w) 0
