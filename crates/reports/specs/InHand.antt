-- The columns that are lent to the reports: the listings of a shell in them, and their uses.
use Rattle.std.specs.Prelude.{◌+◌, ℕ, List, get_or}
use Rattle.columns.specs.Columns.{Columns}
use Rattle.listing.specs.Parts.{between, parts_of}

-- the listings of shell n
abbrev pub listings_in : Columns → ℕ → List ℕ
listings_in k n = between k.listings (get_or k.places n 0) (get_or k.places (n + 1) 0)

-- the uses of shell n
abbrev pub uses_in : Columns → ℕ → List ℕ
uses_in k n = parts_of k.uses k.turned k.starts (listings_in k n)
