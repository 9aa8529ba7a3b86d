-- Which numbers the places in a line have.
use Rattle.std.specs.Prelude.{ℕ, Bool, ◌||◌, eqb, leb}

abbrev pub is_place : ℕ → Bool
is_place n = leb n 4 || (eqb n 30 || (eqb n 31 || eqb n 32))
