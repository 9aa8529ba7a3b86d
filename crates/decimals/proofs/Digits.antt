-- What was written in digits reads back.
use Rattle.std.proofs.Common.{◌≡◌, ℕ, zero, suc, ◌+◌, ◌*◌, ◌/◌, ◌%◌, ◌^◌, ◌<◌, true, false, ltb, [], ◌∷◌, sym, refl, ap, ◌∙◌, ⊎_elim, mod-lt, div-add-mod', div-one, arith, ltb-false, ltb-true, lt-ltb}
use native.Mathlib.Nat.{div-div-eq-div-mul, pow-succ', pow-zero}
use Rattle.decimals.proofs.Hex.{is_lower, is_tenth}
use Rattle.decimals.proofs.Numerals.{Numeral, after_append, all_append, inside, sixteens, tens}
use Rattle.decimals.specs.Decimals.{hex_digit}
use Rattle.decimals.specs.Parts.{digit_byte, last_in}
use Rattle.lists.proofs.Laws.{cases}
use Rattle.output.specs.Text.{decimal, digit, digits}
use Rattle.text.specs.Tokens.{all_digits, value_after}

-- the byte of a digit reads as that digit
abbrev Reads : Numeral → Type 0
Reads N = (r : ℕ) → r < N.base → (N.ok (digit_byte r) ≡ true) × (N.digit (digit_byte r) ≡ r)

module _ (N : Numeral) (back : Reads N) where
  one : (m r : ℕ) → r < N.base → (N.all (digit_byte r ∷ []) ≡ true) × (N.after m (digit_byte r ∷ []) ≡ m * N.base + r)
  one m r h =
      let b = back r h in (
        rw (N.all_cons (digit_byte r) [], b.0, N.all_nil),
        rw (N.after_cons m (digit_byte r) [], b.1, N.after_nil (m * N.base + r)),
      )

  -- the last d digits, after what stands before them
  pub last_all : (d n : ℕ) → N.all (last_in N.base d n) ≡ true
  unfolding last_in
  last_all zero n = N.all_nil
  last_all (suc d) n =
      rw (all_append N (last_in N.base d (n / N.base)) (digit_byte (n % N.base) ∷ []), last_all d (n / N.base))
      (one 0 (n % N.base) (mod-lt n {m = N.base} N.some)).0

  pub last_after : (d n : ℕ) → N.after (n / N.base ^ d) (last_in N.base d n) ≡ n
  unfolding last_in
  last_after zero n = rw (pow-zero N.base) (N.after_nil (n / 1) ∙ div-one n)
  last_after (suc d) n =
      let B = N.base in
      let e : n / B ^ suc d ≡ n / B / B ^ d = ap (λ (x : ℕ). n / x) (pow-succ' B d) ∙ sym (div-div-eq-div-mul n B (B ^ d)) in
      after_append N (n / B ^ suc d) (last_in B d (n / B)) (digit_byte (n % B) ∷ [])
      ∙ rw (e, last_after d (n / B)) ((one (n / B) (n % B) (mod-lt n {m = B} N.some)).1 ∙ div-add-mod' n B)

pub ten_back : Reads tens
ten_back r h = rw (lt-ltb r 10 h) (inside 48 (48 + r) 57 (omega arith) (omega arith), omega arith)

pub hex_back : Reads sixteens
hex_back r h =
    ⊎_elim
    (λ (e : ltb r 10 ≡ true).
    let l = ltb-true r 10 e in
    let d : hex_digit (48 + r) ≡ r = sym (is_tenth (48 + r) (48 + r) refl (omega arith) (omega arith)) ∙ omega arith in
    rw (e, d) (lt-ltb r 16 h, refl))
    (λ (e : ltb r 10 ≡ false).
    let l = ltb-false r 10 e in
    let d : hex_digit (87 + r) ≡ r = sym (is_lower (87 + r) (87 + r) refl (omega arith) (omega arith)) ∙ omega arith in
    rw (e, d) (lt-ltb r 16 h, refl))
    (cases (ltb r 10))

-- one digit of a decimal
digit_back : (m r : ℕ) → r < 10 → (all_digits (digit r) ≡ true) × (value_after m (digit r) ≡ m * 10 + r)
digit_back m r h = rw (lt-ltb r 10 h) at (one tens ten_back m r h)

-- a number in decimal
digits_back : (d n : ℕ) → n < d → (all_digits (digits d n) ≡ true) × (value_after 0 (digits d n) ≡ n)
unfolding digits
digits_back zero n h = absurd (omega arith)
digits_back (suc d) n h =
    ⊎_elim
    (λ (e : ltb n 10 ≡ true). let b = digit_back 0 n (ltb-true n 10 e) in rw e (b.0, b.1 ∙ omega arith))
    (λ (e : ltb n 10 ≡ false).
    let l = ltb-false n 10 e in
    let p = digits_back d (n / 10) (omega arith) in
    let b = digit_back (n / 10) (n % 10) (omega arith) in
    rw (e, all_append tens (digits d (n / 10)) (digit (n % 10)), after_append tens 0 (digits d (n / 10)) (digit (n % 10)), p.0, p.1)
    (b.0, b.1 ∙ omega arith))
    (cases (ltb n 10))

pub decimal_all : (n : ℕ) → all_digits (decimal n) ≡ true
unfolding decimal
decimal_all n = (digits_back (suc n) n (omega arith)).0

pub decimal_after : (n : ℕ) → value_after 0 (decimal n) ≡ n
unfolding decimal
decimal_after n = (digits_back (suc n) n (omega arith)).1
