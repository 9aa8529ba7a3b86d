-- What is written reads back: the word of an f64 reads as its bits.
use Rattle.std.specs.Prelude.{Some}
use Rattle.std.proofs.Common.{◌≡◌, ℕ, suc, ◌+◌, ◌-◌, ◌/◌, ◌^◌, ◌<◌, ◌≤◌, Bool, true, false, eqb, ltb, leb, List, [], ◌∷◌, ◌++◌, length, get_or, take, drop, sym, refl, ap, ◌∙◌, ⊎_elim, append-nil, div-one, arith, length-append, take_all, take_at, ltb-false, ltb-true, ne_eqb, eqb-true, leb-true}
use native.Mathlib.Nat.{div-eq_of_lt}
use lib.Seq.{drop-append-add}
use borrow.Author.Tests.{eqb-false}
use Rattle.decimals.proofs.Digits.{decimal_after, decimal_all, hex_back, last_after, last_all, ten_back}
use Rattle.decimals.proofs.Last.{last_hex_lem, last_long, last_tens}
use Rattle.decimals.proofs.Numerals.{sixteens, tens}
use Rattle.decimals.proofs.Places.{found}
use Rattle.decimals.proofs.Real.{hex_word, other_second}
use Rattle.decimals.proofs.Texts.{decimal_real, hex_real, whole_short}
use Rattle.decimals.proofs.Unsigned.{no_point_is, one_point_is}
use Rattle.decimals.specs.Decimals.{all_hex, decimal_text, hex_after, hex_text, is_negative, is_point, last_digits, last_hex, nearest_bits, places_from, real, real_text, scaled, unsigned}
use Rattle.decimals.specs.Parts.{places_text}
use Rattle.lists.proofs.Laws.{cases, left_true, right_true}
use Rattle.output.proofs.Laws.{length_more, length_one}
use Rattle.output.specs.Text.{decimal}
use Rattle.text.specs.Text.{before}
use Rattle.text.specs.Tokens.{all_digits, is_digit, value_after}

decimal_some : (n : ℕ) → 0 < length (decimal n)
decimal_some n =
    ⊎_elim
    (λ (e : ltb n 10 ≡ true). omega (arith, length_one n (ltb-true n 10 e)))
    (λ (e : ltb n 10 ≡ false). omega (arith, length_more n (ltb-false n 10 e)))
    (cases (ltb n 10))

-- a digit's byte
is_digit_lem : (b : ℕ) → is_digit b ≡ true → (48 ≤ b) × (b ≤ 57)
is_digit_lem b h = (leb-true 48 b (left_true (leb 48 b) (leb b 57) h), leb-true b 57 (right_true (leb 48 b) (leb b 57) h))

first_digit : (b : ℕ) (s : List ℕ) → all_digits (b ∷ s) ≡ true → (48 ≤ b) × (b ≤ 57)
unfolding all_digits
first_digit b s h = is_digit_lem b (left_true (is_digit b) (all_digits s) h)

rest_digits : (b : ℕ) (s : List ℕ) → all_digits (b ∷ s) ≡ true → all_digits s ≡ true
unfolding all_digits
rest_digits b s h = right_true (is_digit b) (all_digits s) h

-- no digit is a point
digits_before : (ds t : List ℕ) → all_digits ds ≡ true → before is_point (ds ++ t) ≡ ds ++ before is_point t
unfolding before
digits_before [] t h = refl
digits_before (b ∷ ds) t h =
    let d = first_digit b ds h in
    rw (ne_eqb b 46 (λ e. omega arith)) (ap (λ (s : List ℕ). b ∷ s) (digits_before ds t (rest_digits b ds h)))

-- a word that begins with digits has no minus first, and no x second
no_minus : (ds t : List ℕ) → all_digits ds ≡ true → 0 < length ds → get_or (ds ++ t) 0 0 ≡ 45 → ⊥
no_minus [] t h l e = omega arith
no_minus (b ∷ ds) t h l e = let d = first_digit b ds h in omega arith

no_x : (ds t : List ℕ) → all_digits ds ≡ true → 0 < length ds → (get_or t 0 0 ≡ 120 → ⊥) → get_or (ds ++ t) 1 0 ≡ 120 → ⊥
no_x [] t h l n e = omega arith
no_x (b ∷ []) t h l n e = n e
no_x (b ∷ c ∷ ds) t h l n e = let d = first_digit c ds (rest_digits b (c ∷ ds) h) in omega arith

module _ (s : Bool) (ds : List ℕ) (h : all_digits ds ≡ true) (some : 0 < length ds) where
  not_none : length ds ≡ 0 → ⊥
  not_none z = omega arith

  ends : before is_point ds ≡ ds
  unfolding before
  ends = rw (append-nil ds) at (digits_before ds [] h)

  whole_word : length ds ≤ 15 → unsigned s ds ≡ Some (nearest_bits s (value_after 0 ds) 0)
  whole_word l = sym (no_point_is s ds (length ds) (ap length (sym ends)) refl not_none l) ∙ rw h

  module _ (es : List ℕ) where
    ends_point : before is_point (ds ++ (46 ∷ es)) ≡ ds
    unfolding before
    ends_point = digits_before ds (46 ∷ es) h ∙ append-nil ds

    pointed_word : all_digits es ≡ true → 0 < length es → length ds + length es ≤ 15
        → unsigned s (ds ++ (46 ∷ es)) ≡ Some (nearest_bits s (value_after (value_after 0 ds) es) (length es))
    pointed_word g more l =
        let w = ds ++ (46 ∷ es) in
        let long : length w ≡ length ds + suc (length es) = length-append ds (46 ∷ es) in
        let first : take (length ds) w ≡ ds = take_at ds (46 ∷ es) (length ds) (omega arith) in
        let rest : take (length w - (length ds + 1)) (drop (length ds + 1) w) ≡ es =
        rw (drop-append-add ds (46 ∷ es) 1) (take_all (length w - (length ds + 1)) es (omega arith)) in
        let count : length w - (length ds + 1) ≡ length es = omega arith in
        sym (one_point_is s w (length ds) (ap length (sym ends_point)) (omega arith) not_none (λ z. omega arith) (omega arith) (Some (value_after 0 ds)) (rw (first, h)))
        ∙ rw (rest, count, g)

-- the whole part and the places
unsigned_back : (s : Bool) (m k : ℕ) → m < 1000000000000000 → k ≤ 9 → unsigned s (decimal (m / 10 ^ k) ++ places_text k m) ≡ Some (nearest_bits s m k)
unsigned_back s m k h l =
    let q = m / 10 ^ k in
    let short = whole_short m k (10 ^ k) refl h l in
    ⊎_elim
    (λ (e : eqb k 0 ≡ true).
    let z : k ≡ 0 = eqb-true k 0 e in
    let all : q ≡ m = ap (λ (i : ℕ). m / 10 ^ i) z ∙ div-one m in
    rw (e, append-nil (decimal q), whole_word s (decimal q) (decimal_all q) (decimal_some q) (omega arith), decimal_after q, all, z))
    (λ (e : eqb k 0 ≡ false).
    let long : length (last_digits k m) ≡ k = ap length (sym (last_tens k m)) ∙ last_long 10 k m in
    let digits : all_digits (last_digits k m) ≡ true = rw (last_tens k m) at (last_all tens ten_back k m) in
    let value : value_after q (last_digits k m) ≡ m = rw (last_tens k m) at (last_after tens ten_back k m) in
    let some = eqb-false k 0 e in
    rw (e, pointed_word s (decimal q) (decimal_all q) (decimal_some q) (last_digits k m) digits (omega arith) (omega arith), decimal_after q, value, long))
    (cases (eqb k 0))

places_no_x : (k m : ℕ) → get_or (places_text k m) 0 0 ≡ 120 → ⊥
places_no_x k m =
    ⊎_elim
    (λ (e : eqb k 0 ≡ true). rw e (λ x. omega arith))
    (λ (e : eqb k 0 ≡ false). rw e (λ x. omega arith))
    (cases (eqb k 0))

decimal_back : (s : Bool) (m k : ℕ) → m < 1000000000000000 → k ≤ 9 → real (decimal_text s m k) ≡ Some (nearest_bits s m k)
unfolding decimal_text real
decimal_back true m k h l = unsigned_back true m k h l
decimal_back false m k h l =
    let ds = decimal (m / 10 ^ k) in
    let d = decimal_all (m / 10 ^ k) in
    let n = decimal_some (m / 10 ^ k) in
    sym (other_second (ds ++ places_text k m) (no_minus ds (places_text k m) d n) (no_x ds (places_text k m) d n (places_no_x k m)))
    ∙ unsigned_back false m k h l

hex_text_back : (n : ℕ) → n < 18446744073709551616 → real (hex_text n) ≡ Some n
unfolding hex_text
hex_text_back n h =
    let long : length (last_hex 16 n) ≡ 16 = ap length (sym (last_hex_lem 16 n)) ∙ last_long 16 16 n in
    let digits : all_hex (last_hex 16 n) ≡ true = rw (last_hex_lem 16 n) at (last_all sixteens hex_back 16 n) in
    let none : n / 18446744073709551616 ≡ 0 = div-eq_of_lt h in
    let value : hex_after 0 (last_hex 16 n) ≡ n = rw (last_hex_lem 16 n, none) at (last_after sixteens hex_back 16 n) in
    sym (hex_word (48 ∷ 120 ∷ last_hex 16 n) refl refl) ∙ rw (long, digits, value)

-- for every f64
pub real_back : (bits : ℕ) → bits < 18446744073709551616 → real (real_text bits) ≡ Some bits
real_back bits h =
    let k = places_from bits 10 0 in
    ⊎_elim
    (λ (e : ltb k 10 ≡ true).
    let l = ltb-true k 10 e in
    let b = found bits k refl l in
    rw (← decimal_real bits k refl l, decimal_back (is_negative bits) (scaled bits k) k b.short (omega arith)) (ap Some b.same))
    (λ (e : ltb k 10 ≡ false). rw (← hex_real bits k refl (ltb-false k 10 e)) (hex_text_back bits h))
    (cases (ltb k 10))
