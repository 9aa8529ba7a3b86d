-- Places in a buffer of n bytes.
use Rattle.std.specs.Prelude.{ℕ, Option, Some, None, ◌≤◌, ◌≡◌}
use Rattle.std.proofs.Common.{subst}

-- the line lies in the buffer
abbrev pub Inside : ℕ → Option (ℕ × ℕ) → Type 0
Inside n (Some (a, b)) = (a ≤ b) × (b ≤ n)
Inside n None = Unit

pub line_inside : (n : ℕ) (l : Option (ℕ × ℕ)) (a b : ℕ) → Inside n l → l ≡ Some (a, b) → (a ≤ b) × (b ≤ n)
line_inside n l a b h e = subst (Inside n) e h
