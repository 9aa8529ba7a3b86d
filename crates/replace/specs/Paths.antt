-- A path as C takes it.
use Rattle.std.specs.Prelude.{◌≡◌, ℕ, List, slice_index_or}

-- the last of a path's 4096 bytes is 0
abbrev pub Ended : List ℕ → Type 0
Ended bytes = slice_index_or bytes 4095 1 ≡ 0
