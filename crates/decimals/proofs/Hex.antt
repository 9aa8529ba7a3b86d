-- Hexadecimal digits by the ranges of bytes.
use Rattle.std.specs.Prelude.{None, Some}
use Rattle.std.proofs.Common.{◌≡◌, ℕ, ◌-◌, ◌≤◌, ltb, true, false, ⊎_elim, arith}
use Rattle.lists.proofs.Laws.{cases}
use Rattle.lists.specs.Lists.{pick}
use Rattle.decimals.proofs.Numerals.{inside, over}
use Rattle.decimals.specs.Decimals.{hex_digit}

pub is_tenth : (n b : ℕ) → n ≡ b → 48 ≤ b → b ≤ 57 → n - 48 ≡ hex_digit b
is_tenth n b e p q = rw (inside 48 b 57 p q, e)

pub is_lower : (n b : ℕ) → n ≡ b → 97 ≤ b → b ≤ 102 → n - 87 ≡ hex_digit b
is_lower n b e p q = rw (over 48 b 57 (omega arith), inside 97 b 102 p q, e)

-- what a byte says as a digit
pub digit_some : (b : ℕ) {d : ℕ} → pick (ltb (hex_digit b) 16) (Some (hex_digit b)) None ≡ Some d → (ltb (hex_digit b) 16 ≡ true) × (d ≡ hex_digit b)
digit_some b {d} h =
    ⊎_elim
    (λ (e : ltb (hex_digit b) 16 ≡ true). let g : Some (hex_digit b) ≡ Some d = rw e at h in (e, cc))
    (λ (e : ltb (hex_digit b) 16 ≡ false). let g : None ≡ Some d = rw e at h in absurd (cc))
    (cases (ltb (hex_digit b) 16))

pub digit_none : (b : ℕ) → pick (ltb (hex_digit b) 16) (Some (hex_digit b)) None ≡ None → ltb (hex_digit b) 16 ≡ false
digit_none b h =
    ⊎_elim
    (λ (e : ltb (hex_digit b) 16 ≡ true). let g : Some (hex_digit b) ≡ None = rw e at h in absurd (cc))
    (λ (e : ltb (hex_digit b) 16 ≡ false). e)
    (cases (ltb (hex_digit b) 16))
