-- Numbers, labels and uses: each is a word, and reads back.
use Rattle.std.specs.Prelude.{Option, Some}
use Rattle.std.specs.Str.{bytes_eq}
use Rattle.std.proofs.lemmas.Slice.Eq.{bytes_eq-Decides}
use Prim.Native.Nat.{◌%◌, ◌*◌, ◌+◌, ◌-◌, ◌/◌, ◌<◌, ◌^◌, ◌≤◌, suc, zero, ℕ}
use mathlib.Core.Bool.{Bool, ◌&&◌, false, true}
use mathlib.Core.List.{List, [], ◌++◌, ◌∷◌}
use mathlib.Core.Logic.{◌⊎◌, inl, inr, ⊎_elim}
use mathlib.Core.Path.{◌∙◌, ◌≡◌, ap, refl, sym}
use native.Mathlib.Nat.{pow-le-pow_right}
use native.Mathlib.Omega.{arith}
use lib.Dec.{leb, ltb}
use lib.ListN.{drop, get_or, length, length-append, take}
use lib.Seq.{drop_at, get_or_at, take_at}
use borrow.Author.Tests.{le-leb, lt-ltb, leb-false, leb-true, ltb-false, ltb-true}
use Rattle.decimals.proofs.Digits.{decimal_after, decimal_all}
use Rattle.forms.proofs.Tokens.{label_both, label_short}
use Rattle.forms.specs.Forms.{below, label, token}
use Rattle.forms.specs.declared.WordKind.TheVariants.{Wires}
use Rattle.lines.specs.Lines.{signed as signedText}
use Rattle.lists.proofs.Count.{All, all_append}
use Rattle.lists.proofs.Laws.{cases, left_true, right_true}
use Rattle.output.proofs.Laws.{decimal_more, decimal_one, decimal_short, length_one}
use Rattle.output.specs.Text.{ascii, decimal, digit}
use Rattle.text.proofs.Numbers.{value_below}
use Rattle.text.specs.Tokens.{all_digits, is_digit, number, signed}
use Rattle.text_round_trip.proofs.Sentences.{Ink, Word}

-- ---- words

inked : List ℕ → Bool
inked [] = true
inked (b ∷ w) = leb 33 b && inked w

inked_ink : (w : List ℕ) → inked w ≡ true → All Ink w
unfolding inked
inked_ink [] h = tt
inked_ink (b ∷ w) h = (leb-true 33 b (left_true (leb 33 b) (inked w) h), inked_ink w (right_true (leb 33 b) (inked w) h))

-- a word given by its bytes
unfoldable pub is_word : List ℕ → Bool
unfolding inked
is_word w = leb 1 (length w) && inked w

pub word_is : (w : List ℕ) → is_word w ≡ true → Word w
unfolding is_word inked
word_is w h = (leb-true 1 (length w) (left_true (leb 1 (length w)) (inked w) h), inked_ink w (right_true (leb 1 (length w)) (inked w) h))

digits_ink : (w : List ℕ) → all_digits w ≡ true → All Ink w
unfolding all_digits
digits_ink [] h = tt
digits_ink (b ∷ w) h =
    let low = leb-true 48 b (left_true (leb 48 b) (leb b 57) (left_true (is_digit b) (all_digits w) h)) in
    (omega arith, digits_ink w (right_true (is_digit b) (all_digits w) h))

-- ---- numbers

-- a number has the digits that it needs
decimal_long : (k n : ℕ) → 10 ^ k ≤ n → k < length (decimal n)
decimal_long k n h =
    ⊎_elim
    (λ (e : leb (length (decimal n)) k ≡ true).
    let l = leb-true (length (decimal n)) k e in
    absurd (omega (arith, rw (decimal_after n) at (value_below 0 (decimal n) (decimal_all n)), pow-le-pow_right {n = 10} (omega arith) l)))
    (λ (e : leb (length (decimal n)) k ≡ false). leb-false (length (decimal n)) k e)
    (cases (leb (length (decimal n)) k))

decimal_some : (n : ℕ) → 0 < length (decimal n)
decimal_some zero = omega (arith, length_one 0 (omega arith))
decimal_some (suc n) = decimal_long 0 (suc n) (omega arith)

pub decimal_word : (n : ℕ) → Word (decimal n)
decimal_word n = (decimal_some n, digits_ink (decimal n) (decimal_all n))

pub number_back : (n : ℕ) → n < 1000000000 → number (decimal n) ≡ Some n
unfolding number
number_back n h = rw (le-leb 1 (length (decimal n)) (decimal_some n), le-leb (length (decimal n)) 9 (decimal_short 8 n (omega arith)), decimal_all n, decimal_after n)

-- a number below n is itself
pub below_is : {n m : ℕ} {t : Option ℕ} → t ≡ Some m → m < n → below n t ≡ Some m
below_is {n} {m} value h = rw (value, lt-ltb m n h)

-- ---- labels

label_ten : (n : ℕ) → 1000000000 ≤ n → n < 4294967296 → label (decimal n) ≡ Some n
label_ten n h l =
    let q = decimal (n / 10) in
    let r = digit (n % 10) in
    let one : decimal (n % 10) ≡ r = decimal_one (n % 10) (omega arith) in
    let nine : length q ≡ 9 = omega (arith, decimal_long 8 (n / 10) (omega arith), decimal_short 8 (n / 10) (omega arith)) in
    let e : decimal n ≡ q ++ r = decimal_more n (omega arith) in
    let first : Some (n / 10) ≡ number (take 9 (decimal n)) = sym (rw (e, take_at q r 9 nine) (number_back (n / 10) (omega arith))) in
    let last : Some (n % 10) ≡ number (take 1 (drop 9 (decimal n))) = sym (rw (e, drop_at q r 9 nine, ← one) (number_back (n % 10) (omega arith))) in
    let whole : n / 10 * 10 + n % 10 ≡ n = omega arith in
    label_both (decimal n) (omega (arith, ap length e, length-append q r)) first refl last refl
    ∙ rw whole (below_is {n = 4294967296} refl l)

pub label_back : (n : ℕ) → n < 4294967296 → label (decimal n) ≡ Some n
label_back n h =
    ⊎_elim
    (λ (e : ltb n 1000000000 ≡ true).
    let l = ltb-true n 1000000000 e in
    label_short (decimal n) (decimal_short 8 n (omega arith)) ∙ number_back n l)
    (λ (e : ltb n 1000000000 ≡ false). label_ten n (ltb-false n 1000000000 e) h)
    (cases (ltb n 1000000000))

-- ---- uses and listings

module _ (ds : List ℕ) (c : ℕ) where
  front_of : take (length (ds ++ (c ∷ [])) - 1) (ds ++ (c ∷ [])) ≡ ds
  front_of = take_at ds (c ∷ []) (length (ds ++ (c ∷ [])) - 1) (omega (arith, length-append ds (c ∷ [])))

  last_of : get_or (ds ++ (c ∷ [])) (length (ds ++ (c ∷ [])) - 1) 0 ≡ c
  last_of = get_or_at ds c [] 0 (length (ds ++ (c ∷ [])) - 1) (omega (arith, length-append ds (c ∷ [])))

pub signed_back : (u : ℕ) → u < 65536 → signed (signedText u) ≡ Some u
unfolding signed signedText
signed_back u h =
    let ds = decimal (u % 32768) in
    let n = number_back (u % 32768) (omega arith) in
    ⊎_elim
    (λ (e : leb 32768 u ≡ true).
    let l = leb-true 32768 u e in
    rw (e, front_of ds 45, last_of ds 45, n) (ap Some (omega arith)))
    (λ (e : leb 32768 u ≡ false).
    let l = leb-false 32768 u e in
    rw (e, front_of ds 43, last_of ds 43, n) (ap Some (omega arith)))
    (cases (leb 32768 u))

-- a use is not the word `wire`
sign_other : (ds : List ℕ) (c : ℕ) → (c ≡ 43) ⊎ (c ≡ 45) → bytes_eq (ds ++ (c ∷ [])) (ascii "wire") ≡ false
sign_other ds c s =
    ⊎_elim
    (λ (e : bytes_eq (ds ++ (c ∷ [])) (ascii "wire") ≡ true).
    let q : ds ++ (c ∷ []) ≡ ascii "wire" = (bytes_eq-Decides (ds ++ (c ∷ [])) (ascii "wire")).0 e in
    let n : length ds ≡ 3 = omega (arith, ap length q, length-append ds (c ∷ [])) in
    let v : c ≡ 101 = sym (get_or_at ds c [] 0 3 (omega arith)) ∙ ap (λ (t : List ℕ). get_or t 3 0) q in
    absurd (⊎_elim (λ p. omega arith) (λ p. omega arith) s))
    (λ (e : bytes_eq (ds ++ (c ∷ [])) (ascii "wire") ≡ false). e)
    (cases (bytes_eq (ds ++ (c ∷ [])) (ascii "wire")))

signed_other : (u : ℕ) → bytes_eq (signedText u) (ascii "wire") ≡ false
unfolding signedText
signed_other u =
    let ds = decimal (u % 32768) in
    ⊎_elim
    (λ (e : leb 32768 u ≡ true). rw e (sign_other ds 45 (inr refl)))
    (λ (e : leb 32768 u ≡ false). rw e (sign_other ds 43 (inl refl)))
    (cases (leb 32768 u))

token_use : (w : List ℕ) → bytes_eq w (ascii "wire") ≡ false → token Wires w ≡ signed w
unfolding token
token_use w h = rw h

pub use_back_lem : (u : ℕ) → u < 65536 → token Wires (signedText u) ≡ Some u
use_back_lem u h = token_use (signedText u) (signed_other u) ∙ signed_back u h

pub signed_word : (u : ℕ) → Word (signedText u)
unfolding signedText
signed_word u =
    let ds = decimal (u % 32768) in
    let d = decimal_word (u % 32768) in
    let sign : (c : ℕ) → Ink c → Word (ds ++ (c ∷ [])) = λ c h. (omega (arith, length-append ds (c ∷ []), d.0), all_append Ink ds (c ∷ []) d.1 (h, tt)) in
    ⊎_elim
    (λ (e : leb 32768 u ≡ true). rw e (sign 45 (omega arith)))
    (λ (e : leb 32768 u ≡ false). rw e (sign 43 (omega arith)))
    (cases (leb 32768 u))
