-- The parts of a word one after the other, and how long they are.
use Rattle.std.proofs.Common.{◌≡◌, ℕ, suc, ◌+◌, ◌-◌, ◌*◌, ◌/◌, ◌^◌, ◌<◌, ◌≤◌, Bool, true, false, eqb, List, ◌++◌, length, set, sym, refl, ap, ◌∙◌, ⊎_elim, div-lt_iff_lt-mul, arith, pow-add, le-ltb, lt-ltb, eq-eqb, ne_eqb}
use lib.Seq.{sets}
use Rattle.decimals.proofs.Last.{last_hex_lem, last_long, last_tens}
use Rattle.decimals.proofs.Rounding.{ten_pos}
use Rattle.decimals.specs.Decimals.{decimal_text, hex_text, is_negative, last_digits, last_hex, places_from, real_text, scaled}
use Rattle.decimals.specs.Parts.{last_in, places_text, sign_text}
use Rattle.lists.proofs.Laws.{cases}
use Rattle.lists.proofs.Sets.{Put, put_then}
use Rattle.output.proofs.Laws.{decimal_short}
use Rattle.output.specs.Text.{ascii, decimal}

pub sign_short : (s : Bool) → length (sign_text s) ≤ 1
sign_short true = omega arith
sign_short false = omega arith

module _ (l : List ℕ) (at k m : ℕ) where
  pub no_places : k ≡ 0 → Put l at (places_text k m) l at
  no_places h = rw (eq-eqb k 0 h) (refl, omega arith)

  -- the point, then the digits
  pub some_places : (k ≡ 0 → ⊥) → (out : List ℕ) → out ≡ sets (set l at 46) (at + 1) (last_in 10 k m) → Put l at (places_text k m) out (at + 1 + k)
  some_places h out e =
      rw (ne_eqb k 0 h)
      (put_then l at (ascii ".") (last_digits k m) (set l at 46) out (at + 1) (at + 1 + k) (refl, refl)
      (rw (← last_tens k m) e, omega (arith, last_long 10 k m, ap length (last_tens k m))))

places_long : (k m : ℕ) → length (places_text k m) ≤ k + 1
places_long k m =
    ⊎_elim
    (λ (e : eqb k 0 ≡ true). rw e (omega arith))
    (λ (e : eqb k 0 ≡ false). rw e (omega (arith, last_long 10 k m, ap length (last_tens k m))))
    (cases (eqb k 0))

-- a number of at most 15 digits without its last k
pub whole_short : (m k q : ℕ) → q ≡ 10 ^ k → m < 1000000000000000 → k ≤ 9 → length (decimal (m / q)) + k ≤ 15
whole_short m k q is h l =
    let e : suc (14 - k) + k ≡ 15 = omega arith in
    let p : 10 ^ 15 ≡ 10 ^ suc (14 - k) * 10 ^ k = ap (λ (i : ℕ). 10 ^ i) (sym e) ∙ pow-add 10 (suc (14 - k)) k in
    rw is (omega (arith, decimal_short (14 - k) (m / 10 ^ k) ((div-lt_iff_lt-mul (ten_pos k)).1 (omega (arith, h, p)))))

-- the sign, the whole part, the places
module _ (l : List ℕ) (at : ℕ) (s : Bool) (m k q : ℕ) (is : q ≡ 10 ^ k) (out₁ out₂ out₃ : List ℕ) (at₁ at₂ at₃ : ℕ)
    (p₁ : Put l at (sign_text s) out₁ at₁) (p₂ : Put out₁ at₁ (decimal (m / q)) out₂ at₂) (p₃ : Put out₂ at₂ (places_text k m) out₃ at₃) where
  pub put_fraction : m < 1000000000000000 → k ≤ 9 → (out₃ ≡ sets l at (decimal_text s m k)) × (at₃ ≡ at + length (decimal_text s m k)) × (at₃ ≤ at + 18)
  unfolding decimal_text
  put_fraction h j =
      let p₁₂ = put_then l at (sign_text s) (decimal (m / 10 ^ k)) out₁ out₂ at₁ at₂ p₁ (rw is at p₂) in
      let p = put_then l at (sign_text s ++ decimal (m / 10 ^ k)) (places_text k m) out₂ out₃ at₂ at₃ p₁₂ p₃ in
      (p.0, p.1, omega (arith, p₁.1, p₂.1, p₃.1, sign_short s, places_long k m, whole_short m k q is h j))

pub put_hex : (l : List ℕ) (at n : ℕ) (out₁ out₂ : List ℕ) (at₁ : ℕ) → Put l at (ascii "0x") out₁ at₁ → out₂ ≡ sets out₁ at₁ (last_in 16 16 n) → Put l at (hex_text n) out₂ (at₁ + 16)
unfolding hex_text
put_hex l at n out₁ out₂ at₁ p e =
    put_then l at (ascii "0x") (last_hex 16 n) out₁ out₂ at₁ (at₁ + 16) p
    (rw (← last_hex_lem 16 n) e, omega (arith, last_long 16 16 n, ap length (last_hex_lem 16 n)))

-- the word of an f64 by its places
module _ (bits k : ℕ) (is : k ≡ places_from bits 10 0) where
  pub hex_real : 10 ≤ k → hex_text bits ≡ real_text bits
  unfolding real_text
  hex_real h = rw (← is, le-ltb k 10 h)

  pub decimal_real : k < 10 → decimal_text (is_negative bits) (scaled bits k) k ≡ real_text bits
  unfolding real_text
  decimal_real h = rw (← is, lt-ltb k 10 h)
