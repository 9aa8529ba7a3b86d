-- Rounding a fraction n / L, where L is a multiple of the denominator of the format's smallest value: the result is within half a unit in the last place.
use Prim.Native.Nat.{Ordering, compare, ℕ, ◌%◌, ◌*◌, ◌+◌, ◌-◌, ◌/◌, ◌<◌, ◌^◌, ◌≤◌}
use native.Mathlib.Nat.{add-mul, div-add-mod', div-lt_iff_lt-mul, le_of_eq, le_of_mul-le-mul_right, le_trans, lt_of_lt_of_le, lt_of_mul-lt-mul_right, mod-lt, mul_assoc, mul_comm, mul-le-mul_right, mul_left_comm, mul-lt-mul_of_pos_right, mul-pos, mul_right_comm, suc-mul}
use native.Mathlib.Omega.{arith}
use mathlib.Core.Bool.{Bool, not}
use mathlib.Core.Path.{◌∙◌, ◌≡◌, ap, subst, sym}
use lib.Arith.{lt_of_le-ne}
use lib.Dec.{T, eqb, eqb_refl, eqb→eq, compare_is_eq, is_le, leb→le, nleb→lt}
use lib.Ieee.{Float, Format, low, nearest, prec, round, size}
use lib.Ieee.Digits.{size-le}
use lib.Ieee.Exact.{HasValue, units_val}
use lib.Ieee.Fits.{nearest-le, round_is}
use lib.Ieee.Nearest.{closest, nearest-ge}
use lib.Ieee.Scale.{overflow}
use lib.Pow.{pow_mono, pow_pos}
use Rattle.curve.proofs.Units.{value_times}

-- ---- half a unit in the last place
-- x and y differ by at most half of u
abbrev pub Half : ℕ → ℕ → ℕ → Type 0
Half x y u = (x * 2 ≤ y * 2 + u) × (y * 2 ≤ x * 2 + u)

abbrev pub Compared : Ordering → ℕ → ℕ → Type 0
Compared Ordering.lt a b = a < b
Compared Ordering.eq a b = a ≡ b
Compared Ordering.gt a b = b < a

pub compared : (a b : ℕ) → Compared (compare a b) a b
compared a b = go (compare a b) (leb→le a b) (nleb→lt a b) (eqb→eq a b) (λ (e : a ≡ b). subst (λ (x : ℕ). T (eqb a x)) e (eqb_refl a))
  where
    go : (o : Ordering) → (T (is_le o) → a ≤ b) → (T (not (is_le o)) → b < a) → (T (compare_is_eq o) → a ≡ b) → (a ≡ b → T (compare_is_eq o)) → Compared o a b
    go Ordering.lt le gt eq ne = lt_of_le-ne (le tt) ne
    go Ordering.eq le gt eq ne = eq tt
    go Ordering.gt le gt eq ne = gt tt

nearest_half : (q r u n : ℕ) (o : Ordering) → q * u + r ≡ n → r < u → Compared o (r * 2) u → Half (nearest q o * u) n u
nearest_half q r u n Ordering.lt e l c = (omega arith, omega arith)
nearest_half q r u n Ordering.eq e l c =
    let low : q * u ≤ nearest q Ordering.eq * u = mul-le-mul_right u (nearest-ge q Ordering.eq) in
    let high : nearest q Ordering.eq * u ≤ q * u + u = le_trans (mul-le-mul_right u (nearest-le q Ordering.eq)) (le_of_eq (suc-mul q u)) in
    (omega arith, omega arith)
nearest_half q r u n Ordering.gt e l c = rw (suc-mul q u) (omega arith, omega arith)

closest_half : (n u : ℕ) → 0 < u → Half (closest n u * u) n u
closest_half n u h = nearest_half (n / u) (n % u) u n (compare (n % u * 2) u) (div-add-mod' n u) (mod-lt n h) (compared (n % u * 2) u)

-- the same of halves a common factor smaller
half_less : (x y u l : ℕ) → 0 < l → Half (x * l) (y * l) (u * l) → Half x y u
half_less x y u l h p = (less x y p.0, less y x p.1)
  where
    less : (a b : ℕ) → a * l * 2 ≤ b * l * 2 + u * l → a * 2 ≤ b * 2 + u
    less a b q =
        let left : a * 2 * l ≡ a * l * 2 = mul_right_comm a 2 l in
        let right : (b * 2 + u) * l ≡ b * l * 2 + u * l = add-mul (b * 2) u l ∙ ap (λ (z : ℕ). z + u * l) (mul_right_comm b 2 l) in
        le_of_mul-le-mul_right (le_trans (le_of_eq left) (le_trans q (le_of_eq (sym right)))) h

-- ---- n / L with L = 2 ^ low · M and n below 2 ^ (prec + k) · M: at most k digits are dropped
module _ (f : Format) (s : Bool) (n M k : ℕ) (P : 0 < M) where
  abbrev l : ℕ
  l = 2 ^ low f

  abbrev L : ℕ
  L = l * M

  abbrev dropped : ℕ
  dropped = size (n * l / L) - prec f

  abbrev q : ℕ
  q = closest (n * l) (L * 2 ^ dropped)

  -- what the result has of 1 / L
  abbrev pub rounded : ℕ
  rounded = q * 2 ^ dropped * M

  deep : 0 < l
  deep = pow_pos (low f)

  half : Half rounded n (M * 2 ^ dropped)
  half =
      let u = 2 ^ dropped in
      let one : q * (L * u) ≡ rounded * l = simp (mul_assoc, mul_comm, mul_left_comm) in
      let two : L * u ≡ M * u * l = simp (mul_assoc, mul_comm) in
      let h = closest_half (n * l) (L * u) (mul-pos (mul-pos deep P) (pow_pos dropped)) in
      half_less rounded n (M * u) l deep (rw (← one, ← two) h)

  module _ (below : n < 2 ^ (prec f + k) * M) where
    few : dropped ≤ k
    few =
        let b = 2 ^ (prec f + k) in
        let less : n * l < b * L = lt_of_lt_of_le (mul-lt-mul_of_pos_right below deep) (le_of_eq (mul_assoc b M l ∙ ap (λ (z : ℕ). b * z) (mul_comm M l))) in
        digits (size (n * l / L)) (prec f) (size-le (n * l / L) (prec f + k) ((div-lt_iff_lt-mul (mul-pos deep P)).1 less))
      where
        digits : (z p : ℕ) → z ≤ p + k → z - p ≤ k
        digits z p h = omega arith

    -- E is half a unit in the last place, or more
    module _ (E : ℕ) (wide : 2 ^ k ≤ 2 * E) where
      unit : M * 2 ^ dropped ≤ 2 * (E * M)
      unit =
          let h : 2 ^ dropped * M ≤ 2 * E * M = mul-le-mul_right M (le_trans (pow_mono few) wide) in
          le_trans (le_of_eq (mul_comm M (2 ^ dropped))) (le_trans h (le_of_eq (mul_assoc 2 E M)))

      pub near : Half rounded n (2 * (E * M))
      near = go rounded n (M * 2 ^ dropped) (2 * (E * M)) half unit
        where
          go : (x y u v : ℕ) → Half x y u → u ≤ v → Half x y v
          go x y u v h le = (omega (arith, h.0), omega (arith, h.1))

      -- and the result is finite
      pub round_value : 2 ^ (prec f + k) + E ≤ overflow f → HasValue (round f s n L) s rounded L
      round_value room =
          value_times (round f s n L) s (q * 2 ^ dropped) l M
          (subst (λ (x : Float). HasValue x s (q * 2 ^ dropped) l) (sym (round_is f s n L)) (units_val f s q dropped (lt_of_lt_of_le reach room)))
        where
          reach : q * 2 ^ dropped < 2 ^ (prec f + k) + E
          reach =
              let g = q * 2 ^ dropped in
              let b = 2 ^ (prec f + k) in
              let sum : (b + E) * M ≡ b * M + E * M = add-mul b E M in
              lt_of_mul-lt-mul_right M (less (g * M) n (b * M) (E * M) ((b + E) * M) near.0 below sum)
            where
              less : (x n b e t : ℕ) → x * 2 ≤ n * 2 + 2 * e → n < b → t ≡ b + e → x < t
              less x n b e t h i j = omega arith
