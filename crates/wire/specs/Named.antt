-- What the functions on a wire ask of its uses. Cited by inner contracts.
use Rattle.std.specs.Prelude.{ℕ, ◌<◌, List, ◌≡◌, get_or, length}
use Rattle.edge.specs.Uses.{edge_number, front_of}

module _ (fronts backs : List ℕ) where
  -- every use names an edge, and begins at one of 2,048 points
  pub record Named (us : List ℕ) : Type 0 where
    pub alike : length backs ≡ length fronts
    pub edge : (k : ℕ) → k < length us → edge_number (get_or us k 0) < length fronts
    pub point : (k : ℕ) → k < length us → front_of fronts backs (get_or us k 0) < 2048
