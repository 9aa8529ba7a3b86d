-- Laws of numbers, uses and names in words.
use Rattle.std.specs.Prelude.{None, Option, Some}
use Prim.Native.Nat.{◌*◌, ◌+◌, ◌-◌, ◌<◌, ◌^◌, ◌≤◌, suc, ℕ}
use mathlib.Core.Bool.{◌&&◌, and-false, false, true}
use mathlib.Core.List.{List, [], ◌∷◌, ◌++◌}
use mathlib.Core.Logic.{⊎_elim}
use mathlib.Core.Path.{◌∙◌, ◌≡◌, ap, refl, sym}
use native.Mathlib.Nat.{mul_assoc, mul-le-mul_left, mul-le-mul_right, pow-le-pow_right, pow-suc, pow-succ'}
use native.Mathlib.Numerals.{add-one}
use native.Mathlib.Omega.{arith}
use lib.Dec.{leb}
use lib.ListN.{drop, drop_of_length-le, get_or, length, length-append}
use lib.Seq.{drop-cons, get_or-append_seam, take-append_seam}
use borrow.Author.Tests.{le-leb, leb-true, lt-leb, ne_eqb}
use Rattle.lists.proofs.Laws.{cases, left_true, right_true}
use Rattle.lists.specs.Lists.{pick}
use Rattle.text.specs.Tokens.{all_digits, is_digit, name, name_after, number, signed, signed_number, value_after}

pub digit_is : (b : ℕ) → 48 ≤ b → b ≤ 57 → is_digit b ≡ true
digit_is b h l = rw (le-leb 48 b h, le-leb b 57 l)

pub digit_low : (b : ℕ) → b < 48 → is_digit b ≡ false
digit_low b h = rw (lt-leb 48 b h)

pub digit_high : (b : ℕ) → 57 < b → is_digit b ≡ false
digit_high b h = rw (lt-leb b 57 h, and-false)

-- one to nine digits
pub number_empty : (w : List ℕ) → length w ≡ 0 → number w ≡ None
unfolding number
number_empty w h = rw h

pub number_long : (w : List ℕ) → 9 < length w → number w ≡ None
unfolding number
number_long w h = rw (le-leb 1 (length w) (omega arith), lt-leb (length w) 9 h)

pub number_digits : (w : List ℕ) → 1 ≤ length w → length w ≤ 9 → number w ≡ pick (all_digits w) (Some (value_after 0 w)) None
unfolding number
number_digits w h l = rw (le-leb 1 (length w) h, le-leb (length w) 9 l)

-- a loop over the digits of a word, after those of the number m: what is known after i turns
pub record Digits (m : ℕ) (w : List ℕ) (n i : ℕ) : Type 0 where
  pub low : i ≤ length w
  pub value : value_after m w ≡ value_after n (drop i w)
  pub all : all_digits w ≡ all_digits (drop i w)
  pub small : n + 1 ≤ (m + 1) * 10 ^ i

pub digits_start : (m : ℕ) (w : List ℕ) → Digits m w m 0
digits_start m w = record { low = omega arith; value = refl; all = refl; small = omega arith }

module _ {m : ℕ} {w : List ℕ} {n i : ℕ} (s : Digits m w n i) where
  pub digits_next : i < length w → 48 ≤ get_or w i 0 → get_or w i 0 ≤ 57 → Digits m w (n * 10 + (get_or w i 0 - 48)) (i + 1)
  unfolding value_after all_digits
  digits_next h a b =
      let p : (m + 1) * 10 ^ (i + 1) ≡ (m + 1) * 10 ^ i * 10 = rw (add-one i, pow-suc 10 i) (sym (mul_assoc (m + 1) (10 ^ i) 10)) in
      record {
        low = omega arith;
        value = s.value ∙ rw (add-one, drop-cons w i 0 h);
        all = s.all ∙ rw (add-one, drop-cons w i 0 h, digit_is (get_or w i 0) a b);
        small = omega (arith, s.small);
      }

  -- a byte that is no digit
  pub digits_stop : i < length w → is_digit (get_or w i 0) ≡ false → all_digits w ≡ false
  unfolding all_digits
  digits_stop h a = s.all ∙ rw (drop-cons w i 0 h, a)

  pub digits_all : length w ≤ i → (all_digits w ≡ true) × (value_after m w ≡ n)
  unfolding value_after all_digits
  digits_all h = let e = drop_of_length-le w h in (s.all ∙ ap all_digits e, s.value ∙ ap (value_after n) e)

  -- there is room for the digits that follow
  pub digits_room : {k : ℕ} → (m + 1) * 10 ^ length w ≤ k → i < length w → (n + 1) * 10 ≤ k
  digits_room {k} r h =
      let p : (m + 1) * 10 ^ (i + 1) ≡ (m + 1) * 10 ^ i * 10 = rw (add-one i, pow-suc 10 i) (sym (mul_assoc (m + 1) (10 ^ i) 10)) in
      omega (arith, s.small, mul-le-mul_left (m + 1) (pow-le-pow_right {n = 10} (omega arith) {i = i + 1} {j = length w} (omega arith)))

-- the digits w after those of n: how large a number they can make
pub value_below : (n : ℕ) (w : List ℕ) → all_digits w ≡ true → value_after n w + 1 ≤ (n + 1) * 10 ^ length w
unfolding all_digits value_after
value_below n [] h = omega arith
value_below n (b ∷ w) h =
    let d = left_true (is_digit b) (all_digits w) h in
    let low = leb-true 48 b (left_true (leb 48 b) (leb b 57) d) in
    let high = leb-true b 57 (right_true (leb 48 b) (leb b 57) d) in
    let m : n * 10 + (b - 48) + 1 ≤ (n + 1) * 10 = omega arith in
    let p : (n + 1) * 10 ^ suc (length w) ≡ (n + 1) * 10 * 10 ^ length w = rw pow-succ' (sym (mul_assoc (n + 1) 10 (10 ^ length w))) in
    omega (arith, value_below (n * 10 + (b - 48)) w (right_true (is_digit b) (all_digits w) h), mul-le-mul_right (10 ^ length w) m)

-- a number has at most nine digits
pub number_below : (w : List ℕ) (m : ℕ) → number w ≡ Some m → m < 1000000000
unfolding number
number_below w m =
    let test = leb 1 (length w) && leb (length w) 9 && all_digits w in
    ⊎_elim
    (λ (h : test ≡ true).
    let few = leb-true (length w) 9 (right_true (leb 1 (length w)) (leb (length w) 9) (left_true (leb 1 (length w) && leb (length w) 9) (all_digits w) h)) in
    let below = value_below 0 w (right_true (leb 1 (length w) && leb (length w) 9) (all_digits w) h) in
    rw h (λ (e : (Some (value_after 0 w)) ≡ Some m). let v : value_after 0 w ≡ m = cc in omega (arith, pow-le-pow_right {n = 10} (omega arith) few)))
    (λ (h : test ≡ false). rw h (λ (e : None ≡ Some m). absurd (let z : ◌≡◌ {A = ℕ} 0 1 = cc in omega arith)))
    (cases test)

-- ---- names

pub name_long : (w : List ℕ) → 7 < length w → name w ≡ 0
unfolding name
name_long w h = rw (lt-leb (length w) 7 h)

-- a loop over the bytes of a name: what is known after i turns
pub record Named (w : List ℕ) (n i : ℕ) : Type 0 where
  pub low : i ≤ length w
  pub value : name_after 1 w ≡ name_after n (drop i w)
  pub small : n + 1 ≤ 2 * 256 ^ i

pub named_start : (w : List ℕ) → Named w 1 0
named_start w = record { low = omega arith; value = refl; small = omega arith }

module _ {w : List ℕ} {n i : ℕ} (s : Named w n i) where
  pub named_small : i ≤ 6 → n < 562949953421312
  named_small h = omega (arith, s.small, pow-le-pow_right {n = 256} (omega arith) h)

  pub named_next : i < length w → get_or w i 0 < 256 → Named w (n * 256 + get_or w i 0) (i + 1)
  unfolding name_after
  named_next h b = record {
    low = omega arith;
    value = s.value ∙ rw (add-one, drop-cons w i 0 h);
    small = omega (arith, s.small, ap (λ (k : ℕ). 256 ^ k) (add-one i), pow-suc 256 i);
  }

  pub named_all : length w ≤ 7 → length w ≤ i → name w ≡ n
  unfolding name name_after
  named_all l h = rw (le-leb (length w) 7 l) (s.value ∙ rw (drop_of_length-le w h))

-- ---- uses and listings

pub signed_empty : (w : List ℕ) → length w ≡ 0 → signed w ≡ None
unfolding signed number
signed_empty [] h = refl
signed_empty (b ∷ w) h = absurd (omega arith)

-- r is what the digits before the sign say
pub signed_is : (w : List ℕ) (sign : ℕ) (ds : List ℕ) → w ≡ ds ++ (sign ∷ []) → {r k : Option ℕ} → r ≡ number ds → r ≡ k → signed w ≡ signed_number k sign
unfolding signed
signed_is w sign ds h is value =
    let e : length (ds ++ (sign ∷ [])) - 1 ≡ length ds = omega (arith, length-append ds (sign ∷ [])) in
    rw (h, e, take-append_seam ds (sign ∷ []), get_or-append_seam ds sign [] 0, ← is, value)

pub signed_other : (m sign : ℕ) → (sign ≡ 43 → ⊥) → (sign ≡ 45 → ⊥) → signed_number (Some m) sign ≡ None
signed_other m sign n h = rw (ne_eqb sign 43 n, ne_eqb sign 45 h)
