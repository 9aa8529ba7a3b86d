-- Parts of lists, as they are lent.
use Prim.Native.Nat.{◌≤◌, suc, zero, ℕ}
use mathlib.Core.List.{List, ◌∷◌}
use mathlib.Core.Path.{◌∙◌, ◌≡◌, ap, refl, sym}
use native.Mathlib.Omega.{arith}
use lib.ListN.{length, length-replicate, replicate, take}

take_bare : (n m : ℕ) → n ≤ m → take n (replicate {A = ℕ} m 65535) ≡ replicate n 65535
take_bare zero m h = refl
take_bare (suc n) zero h = absurd (omega arith)
take_bare (suc n) (suc m) h = ap (λ (xs : List ℕ). 65535 ∷ xs) (take_bare n m (omega (arith, h)))

pub bare_long : (n : ℕ) → n ≤ 2048 → length (take n (replicate {A = ℕ} 2048 65535)) ≡ n
bare_long n h = ap length (take_bare n 2048 h) ∙ length-replicate {A = ℕ} n 65535

-- nothing is kept in the first n places
pub bare_whole : (n : ℕ) → n ≤ 2048 → (let k = take n (replicate {A = ℕ} 2048 65535) in (k ≡ replicate (length k) 65535) × (length k ≤ 2048))
bare_whole n h = (take_bare n 2048 h ∙ ap (λ (m : ℕ). replicate m 65535) (sym (bare_long n h)), omega (arith, bare_long n h))
