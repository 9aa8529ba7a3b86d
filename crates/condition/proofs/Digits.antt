-- The four digits of a byte: what reading and writing one gives.
use Prim.Native.Nat.{◌%◌, ◌*◌, ◌+◌, ◌-◌, ◌/◌, ◌<◌, ◌^◌, ◌≤◌, suc, zero, ℕ}
use mathlib.Core.Path.{◌≡◌, refl}
use native.Mathlib.Omega.{arith}
use Rattle.condition.proofs.Least.{least_ge, least_le, least_top}
use Rattle.condition.specs.Tallies.{digit, least, with_digit}

-- four places
four : (P : ℕ → Type 0) → P 0 → P 1 → P 2 → P 3 → (d : ℕ) → d < 4 → P d
four P a b c e zero l = a
four P a b c e (suc zero) l = b
four P a b c e (suc (suc zero)) l = c
four P a b c e (suc (suc (suc zero))) l = e
four P a b c e (suc (suc (suc (suc d)))) l = absurd (omega arith)

pub digit_none : (d : ℕ) → d < 4 → digit 0 d ≡ 0
digit_none = four (λ (d : ℕ). digit 0 d ≡ 0) refl refl refl refl

module _ (b s : ℕ) (few : s < 4) where
  pub digit_same : (d : ℕ) → d < 4 → digit (with_digit b d s) d ≡ s
  digit_same = four (λ (d : ℕ). digit (with_digit b d s) d ≡ s) (omega arith) (omega arith) (omega arith) (omega arith)

  other : (d : ℕ) → d < 4 → (k : ℕ) → k < 4 → (k ≡ d → ⊥) → digit (with_digit b d s) k ≡ digit b k
  other =
      four (λ (d : ℕ). (k : ℕ) → k < 4 → (k ≡ d → ⊥) → digit (with_digit b d s) k ≡ digit b k)
      (four (λ (k : ℕ). (k ≡ 0 → ⊥) → digit (with_digit b 0 s) k ≡ digit b k) (λ n. absurd (n refl)) (λ n. omega arith) (λ n. omega arith) (λ n. omega arith))
      (four (λ (k : ℕ). (k ≡ 1 → ⊥) → digit (with_digit b 1 s) k ≡ digit b k) (λ n. omega arith) (λ n. absurd (n refl)) (λ n. omega arith) (λ n. omega arith))
      (four (λ (k : ℕ). (k ≡ 2 → ⊥) → digit (with_digit b 2 s) k ≡ digit b k) (λ n. omega arith) (λ n. omega arith) (λ n. absurd (n refl)) (λ n. omega arith))
      (four (λ (k : ℕ). (k ≡ 3 → ⊥) → digit (with_digit b 3 s) k ≡ digit b k) (λ n. omega arith) (λ n. omega arith) (λ n. omega arith) (λ n. absurd (n refl)))

  pub digit_other : (d k : ℕ) → d < 4 → k < 4 → (k ≡ d → ⊥) → digit (with_digit b d s) k ≡ digit b k
  digit_other d k l m n = other d l k m n

-- the code's shifts
pub state_in : (b d : ℕ) → d < 4 → b / 2 ^ (2 * d) % 4 ≡ digit b d
state_in b = four (λ (d : ℕ). b / 2 ^ (2 * d) % 4 ≡ digit b d) refl refl refl refl

module _ (b : ℕ) where
  abbrev off : ℕ → ℕ
  off d = b / 2 ^ (2 * d) % 4 * 2 ^ (2 * d) % 256

  pub off_fits : (d : ℕ) → d < 4 → off d ≤ b
  off_fits = four (λ (d : ℕ). off d ≤ b) (omega arith) (omega arith) (omega arith) (omega arith)

  module _ (s : ℕ) (byte : b < 256) (few : s < 4) where
    abbrev on : ℕ → ℕ
    on d = b - off d + s * 2 ^ (2 * d) % 256

    pub on_fits : (d : ℕ) → d < 4 → on d < 256
    on_fits = four (λ (d : ℕ). on d < 256) (omega arith) (omega arith) (omega arith) (omega arith)

    pub on_is : (d : ℕ) → d < 4 → on d ≡ with_digit b d s
    on_is = four (λ (d : ℕ). on d ≡ with_digit b d s) (omega arith) (omega arith) (omega arith) (omega arith)

-- what the four edges of a byte make of the condition
module _ (x : ℕ → ℕ) where
  abbrev made : ℕ → ℕ
  made d = 3 - x d % 2

  pub none_odd : x 0 % 2 + x 1 % 2 + (x 2 % 2 + x 3 % 2) ≡ 0 → 3 ≡ least 4 made
  none_odd e =
      omega (arith, least_top made 4, least_ge made 3 4 (omega arith) (four (λ (d : ℕ). 3 ≤ made d) (omega arith) (omega arith) (omega arith) (omega arith)))

  pub some_odd : (x 0 % 2 + x 1 % 2 + (x 2 % 2 + x 3 % 2) ≡ 0 → ⊥) → 2 ≡ least 4 made
  some_odd n =
      let low = least_ge made 2 4 (omega arith) (λ d l. omega arith) in
      omega (arith, n, low, least_le made 4 0 (omega arith), least_le made 4 1 (omega arith), least_le made 4 2 (omega arith), least_le made 4 3 (omega arith))
