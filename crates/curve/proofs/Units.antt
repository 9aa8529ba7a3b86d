-- A finite value over a denominator: `size` parts of 1 / L with a sign, `right − left` of which one is 0. A denominator that several values have compares and adds them.
use Prim.Native.Nat.{ℕ, ◌*◌}
use native.Mathlib.Nat.{mul_assoc, mul_comm, mul_right_comm}
use mathlib.Core.Bool.{Bool, cond}
use mathlib.Core.Path.{◌∙◌, ◌≡◌, ap, refl, sym}
use lib.Ieee.{Float, down, fin, inf, nan, up}
use lib.Ieee.Exact.{HasValue}
use lib.IntN.{ℤ}

-- what a sign and a magnitude have on either side of zero
abbrev pub right_of : Bool → ℕ → ℕ
right_of s n = cond s 0 n

abbrev pub left_of : Bool → ℕ → ℕ
left_of s n = cond s n 0

pub record Value (L : ℕ) (x : Float) : Type 0 where
  pub sign : Bool
  pub size : ℕ
  pub is : HasValue x sign size L

abbrev pub right : {L : ℕ} {x : Float} → Value L x → ℕ
right v = right_of v.sign v.size

abbrev pub left : {L : ℕ} {x : Float} → Value L x → ℕ
left v = left_of v.sign v.size

-- over a multiple of its own denominator
pub value_over : (s : Bool) (m : ℕ) (e : ℤ) (K L : ℕ) → L ≡ down e * K → HasValue (fin s m e) s (m * up e * K) L
value_over s m e K L h = (refl, ap (λ (z : ℕ). m * up e * z) h ∙ ap (λ (z : ℕ). m * up e * z) (mul_comm (down e) K) ∙ sym (mul_assoc (m * up e) K (down e)))

-- over a multiple of a denominator that it has
pub value_times : (x : Float) (s : Bool) (n l M : ℕ) → HasValue x s n l → HasValue x s (n * M) (l * M)
value_times nan s n l M h = h
value_times (inf t) s n l M h = h
value_times (fin t m e) s n l M h = (h.0, sym (mul_assoc (m * up e) l M) ∙ ap (λ (z : ℕ). z * M) h.1 ∙ mul_right_comm n (down e) M)
