-- The wires of a pattern: all uses in sequence, and the lengths of the wires.
use Rattle.std.specs.Prelude.{ℕ, ◌≤◌, ◌<◌, List, get_or, length, ◌≡◌}
use Rattle.lists.specs.Lists.{sum}

-- every wire has two uses or more
abbrev pub TwoUses : List ℕ → Type 0
TwoUses lens = (w : ℕ) → w < length lens → 2 ≤ get_or lens w 0

-- no more than a pattern has, each of two uses or more
pub record WireTables (uses lens : List ℕ) : Type 0 where
  pub few_uses : length uses ≤ 4096
  pub few_wires : length lens ≤ 1024
  pub summed : sum lens ≡ length uses
  pub paired : TwoUses lens
