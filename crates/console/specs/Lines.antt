-- The lines of a file.
use Rattle.std.specs.Prelude.{ℕ, ◌-◌, List, if◌then◌else◌, get_or, length, take}
use Rattle.text.specs.Text.{is_feed}

-- without a line feed at its end
abbrev pub without_feed : List ℕ → List ℕ
without_feed s = if is_feed (get_or s (length s - 1) 0) then take (length s - 1) s else s
