-- How many bytes were read.
use Rattle.std.specs.Prelude.{ℕ, ◌≡◌, ◌≤◌, List, length, take, Result, IfOk}

-- what a reading into n bytes may answer: an error, or how many bytes it moved, at most n
abbrev pub Moved : {E : Type 0} → ℕ → Result ℕ E → Type 0
Moved n r = IfOk r (λ k. k ≤ n)

-- the first n of these bytes are there, and are n
abbrev pub IsPrefixLen : ℕ → List ℕ → Type 0
IsPrefixLen n xs = (n ≤ length xs) × (n ≡ length (take n xs))
