-- Digits read one after the other, in the base 10 or 16.
use Rattle.std.specs.Prelude.{None, Option, Some}
use Rattle.std.proofs.Common.{◌≡◌, ℕ, suc, ◌+◌, ◌-◌, ◌*◌, ◌^◌, ◌<◌, ◌≤◌, Bool, true, false, ◌&&◌, ltb, leb, List, [], ◌∷◌, ◌++◌, length, get_or, drop, sym, refl, ◌∙◌, ⊎_elim, le_trans, mul-le-mul_right, mul-le-mul_left, pow-suc, add-one, arith, drop_of_length-le, drop-cons, ltb-true, le-leb, leb-true}
use mathlib.Core.Bool.{and_assoc, and-false}
use native.Mathlib.Nat.{one-le-pow, pow-zero}
use borrow.Author.Tests.{lt-leb}
use Rattle.decimals.specs.Decimals.{all_hex, hex_after, hex_digit}
use Rattle.lists.proofs.Laws.{cases, left_true, right_true}
use Rattle.lists.specs.Lists.{pick}
use Rattle.text.specs.Tokens.{all_digits, is_digit, value_after}

-- a byte in a range, or not
module _ (low b high : ℕ) where
  pub inside : low ≤ b → b ≤ high → (leb low b && leb b high) ≡ true
  inside p q = rw (le-leb low b p, le-leb b high q)

  pub under : b < low → (leb low b && leb b high) ≡ false
  under p = rw (lt-leb low b p)

  pub over : high < b → (leb low b && leb b high) ≡ false
  over p = rw (lt-leb b high p, and-false (leb low b))

-- a way to read digits: which bytes are digits, their values, and the number that they make after another
pub record Numeral : Type 0 where
  pub base : ℕ
  pub digit : ℕ → ℕ
  pub ok : ℕ → Bool
  pub all : List ℕ → Bool
  pub after : ℕ → List ℕ → ℕ
  pub all_nil : all [] ≡ true
  pub all_cons : (b : ℕ) (s : List ℕ) → all (b ∷ s) ≡ (ok b && all s)
  pub after_nil : (n : ℕ) → after n [] ≡ n
  pub after_cons : (n b : ℕ) (s : List ℕ) → after n (b ∷ s) ≡ after (n * base + digit b) s
  pub some : 0 < base
  pub small : (b : ℕ) → ok b ≡ true → digit b < base

pub ten_all_nil : all_digits [] ≡ true
unfolding all_digits
ten_all_nil = refl

pub ten_all_cons : (b : ℕ) (s : List ℕ) → all_digits (b ∷ s) ≡ (is_digit b && all_digits s)
unfolding all_digits
ten_all_cons b s = refl

pub ten_nil : (n : ℕ) → value_after n [] ≡ n
unfolding value_after
ten_nil n = refl

pub ten_cons : (n b : ℕ) (s : List ℕ) → value_after n (b ∷ s) ≡ value_after (n * 10 + (b - 48)) s
unfolding value_after
ten_cons n b s = refl

pub ten_small : (b : ℕ) → is_digit b ≡ true → b - 48 < 10
ten_small b h = omega (arith, leb-true b 57 (right_true (leb 48 b) (leb b 57) h))

pub hex_all_nil : all_hex [] ≡ true
unfolding all_hex
hex_all_nil = refl

pub hex_all_cons : (b : ℕ) (s : List ℕ) → all_hex (b ∷ s) ≡ (ltb (hex_digit b) 16 && all_hex s)
unfolding all_hex
hex_all_cons b s = refl

pub hex_nil : (n : ℕ) → hex_after n [] ≡ n
unfolding hex_after
hex_nil n = refl

pub hex_cons : (n b : ℕ) (s : List ℕ) → hex_after n (b ∷ s) ≡ hex_after (n * 16 + hex_digit b) s
unfolding hex_after
hex_cons n b s = refl

abbrev pub tens : Numeral
tens = record {
  base = 10;
  digit = λ b. b - 48;
  ok = is_digit;
  all = all_digits;
  after = value_after;
  all_nil = ten_all_nil;
  all_cons = ten_all_cons;
  after_nil = ten_nil;
  after_cons = ten_cons;
  some = omega arith;
  small = ten_small;
}

abbrev pub sixteens : Numeral
sixteens = record {
  base = 16;
  digit = hex_digit;
  ok = λ b. ltb (hex_digit b) 16;
  all = all_hex;
  after = hex_after;
  all_nil = hex_all_nil;
  all_cons = hex_all_cons;
  after_nil = hex_nil;
  after_cons = hex_cons;
  some = omega arith;
  small = λ b h. ltb-true (hex_digit b) 16 h;
}

module _ (N : Numeral) where
  -- the number that the bytes make after n, if they are digits
  abbrev pub token : ℕ → List ℕ → Option ℕ
  token n s = pick (N.all s) (Some (N.after n s)) None

  pub all_append : (s t : List ℕ) → N.all (s ++ t) ≡ (N.all s && N.all t)
  all_append [] t = rw N.all_nil
  all_append (b ∷ s) t = rw (N.all_cons b (s ++ t), N.all_cons b s, all_append s t, and_assoc)

  pub after_append : (n : ℕ) (s t : List ℕ) → N.after n (s ++ t) ≡ N.after (N.after n s) t
  after_append n [] t = rw (N.after_nil n)
  after_append n (b ∷ s) t = rw (N.after_cons n b (s ++ t), N.after_cons n b s, after_append (n * N.base + N.digit b) s t)

  -- one digit more leaves one place less
  step_room : (m d P : ℕ) → d < N.base → (m * N.base + d + 1) * P ≤ (m + 1) * (P * N.base)
  step_room m d P h = omega (arith, mul-le-mul_right P (room m d N.base h))
    where
      room : (m d B : ℕ) → d < B → m * B + d + 1 ≤ m * B + B
      room m d B h = omega arith

  -- k digits after n are below n + 1 with k zeros
  pub after_bound : (s : List ℕ) (n : ℕ) → N.all s ≡ true → N.after n s + 1 ≤ (n + 1) * N.base ^ length s
  after_bound [] n h = rw (N.after_nil n, pow-zero N.base) (omega arith)
  after_bound (b ∷ s) n h =
      let k = N.all_cons b s in
      let g : (N.ok b && N.all s) ≡ true = sym k ∙ h in
      rw (N.after_cons n b s, pow-suc N.base (length s))
      (le_trans (after_bound s (n * N.base + N.digit b) (right_true (N.ok b) (N.all s) g))
      (step_room n (N.digit b) (N.base ^ length s) (N.small b (left_true (N.ok b) (N.all s) g))))

  pub token_bound : (n : ℕ) (s : List ℕ) (m : ℕ) → Some m ≡ token n s → m + 1 ≤ (n + 1) * N.base ^ length s
  token_bound n s m h =
      ⊎_elim
      (λ (e : N.all s ≡ true).
      let g : Some m ≡ (Some (N.after n s)) = rw e at h in
      let f : m ≡ N.after n s = cc in
      rw f (after_bound s n e))
      (λ (e : N.all s ≡ false).
      let g : Some m ≡ None = rw e at h in
      let f : ◌≡◌ {A = ℕ} 0 1 = cc in absurd (omega arith))
      (cases (N.all s))

  -- a loop that reads the digits of w: at place i the number is m, and what is read in the end is t, below `most`
  pub record Parsing (t : Option ℕ) (most : ℕ) (w : List ℕ) (m i : ℕ) : Type 0 where
    pub low : i ≤ length w
    pub same : t ≡ token m (drop i w)
    pub room : (m + 1) * N.base ^ length (drop i w) ≤ most

  module _ (t : Option ℕ) (most : ℕ) (w : List ℕ) (m i : ℕ) (p : Parsing t most w m i) where
    pub parsing_all : length w ≤ i → Some m ≡ t
    parsing_all h = sym (p.same ∙ rw (drop_of_length-le w h, N.all_nil, N.after_nil m))

    module _ (h : i < length w) where
      front : drop i w ≡ get_or w i 0 ∷ drop (suc i) w
      front = drop-cons w i 0 h

      pub parsing_stop : N.ok (get_or w i 0) ≡ false → None ≡ t
      parsing_stop e = sym (p.same ∙ rw (front, N.all_cons (get_or w i 0) (drop (suc i) w), e))

      room_here : (m + 1) * (N.base ^ length (drop (suc i) w) * N.base) ≤ most
      room_here = rw (← pow-suc N.base (length (drop (suc i) w))) (rw front at p.room)

      pub parsing_room : (m + 1) * N.base ≤ most
      parsing_room = omega (arith, room_here, mul-le-mul_left ((m + 1) * N.base) (one-le-pow (length (drop (suc i) w)) N.base N.some))

      pub parsing_next : N.ok (get_or w i 0) ≡ true → Parsing t most w (m * N.base + N.digit (get_or w i 0)) (i + 1)
      parsing_next e = record {
        low = omega arith;
        same = p.same ∙ rw (front, N.all_cons (get_or w i 0) (drop (suc i) w), e, add-one i, N.after_cons m (get_or w i 0) (drop (suc i) w));
        room = rw (add-one i) (le_trans (step_room m (N.digit (get_or w i 0)) (N.base ^ length (drop (suc i) w)) (N.small (get_or w i 0) e)) room_here);
      }
