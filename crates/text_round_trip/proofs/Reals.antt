-- The ends of spans: each is a word of at most 18 bytes.
use Prim.Native.Nat.{◌%◌, ◌+◌, ◌/◌, ◌<◌, ◌^◌, ◌≤◌, suc, zero, ℕ}
use mathlib.Core.Bool.{Bool, false, true}
use mathlib.Core.List.{List, [], ◌++◌, ◌∷◌}
use mathlib.Core.Logic.{⊎_elim}
use mathlib.Core.Path.{◌∙◌, ◌≡◌, ap, refl, sym}
use native.Mathlib.Omega.{arith}
use lib.Dec.{eqb, ltb}
use lib.ListN.{length, length-append}
use borrow.Author.Tests.{ltb-false, ltb-true}
use Rattle.decimals.proofs.Last.{last_hex_lem, last_long}
use Rattle.decimals.proofs.Places.{found}
use Rattle.decimals.proofs.Texts.{decimal_real, hex_real, put_fraction}
use Rattle.decimals.specs.Decimals.{decimal_text, hex_text, is_negative, last_digits, last_hex, places_from, real_text, scaled}
use Rattle.decimals.specs.Parts.{places_text, sign_text}
use Rattle.lists.proofs.Count.{All, all_append}
use Rattle.lists.proofs.Laws.{cases}
use Rattle.lists.specs.Lists.{pick}
use Rattle.output.specs.Text.{ascii, decimal}
use Rattle.text_round_trip.proofs.Numbers.{decimal_word}
use Rattle.text_round_trip.proofs.Sentences.{Ink, Word}

pick_ink : (b : Bool) (xs ys : List ℕ) → All Ink xs → All Ink ys → All Ink (pick b xs ys)
pick_ink true xs ys h k = h
pick_ink false xs ys h k = k

last_ink : (d n : ℕ) → All Ink (last_digits d n)
unfolding last_digits
last_ink zero n = tt
last_ink (suc d) n = all_append Ink (last_digits d (n / 10)) ((48 + n % 10) ∷ []) (last_ink d (n / 10)) (omega arith, tt)

hex_ink : (d n : ℕ) → All Ink (last_hex d n)
unfolding last_hex
hex_ink zero n = tt
hex_ink (suc d) n = all_append Ink (last_hex d (n / 16)) (pick (ltb (n % 16) 10) (48 + n % 16) (87 + n % 16) ∷ []) (hex_ink d (n / 16)) (one (ltb (n % 16) 10), tt)
  where
    one : (b : Bool) → Ink (pick b (48 + n % 16) (87 + n % 16))
    one true = omega arith
    one false = omega arith

-- a word of at most 18 bytes
abbrev Short : List ℕ → Type 0
Short w = Word w × (length w ≤ 18)

decimal_is : (s : Bool) (m k : ℕ) → m < 1000000000000000 → k ≤ 9 → Short (decimal_text s m k)
unfolding decimal_text
decimal_is s m k h l =
    let whole = decimal (m / 10 ^ k) in
    let d = decimal_word (m / 10 ^ k) in
    let sign : All Ink (sign_text s) = pick_ink s (ascii "-") [] (omega arith, tt) tt in
    let places : All Ink (places_text k m) = pick_ink (eqb k 0) [] (ascii "." ++ last_digits k m) tt (omega arith, last_ink k m) in
    let fits = put_fraction [] 0 s m k (10 ^ k) refl _ _ _ _ _ _ (refl, refl) (refl, refl) (refl, refl) h l in
    ((omega (arith, length-append (sign_text s) whole, length-append (sign_text s ++ whole) (places_text k m), d.0), all_append Ink (sign_text s ++ whole) (places_text k m) (all_append Ink (sign_text s) whole sign d.1) places), omega (arith, fits.1, fits.2))

hex_is : (n : ℕ) → Short (hex_text n)
unfolding hex_text
hex_is n =
    let long : length (last_hex 16 n) ≡ 16 = ap length (sym (last_hex_lem 16 n)) ∙ last_long 16 16 n in
    ((omega arith, (omega arith, (omega arith, hex_ink 16 n))), omega arith)

pub real_is : (bits : ℕ) → Word (real_text bits) × (length (real_text bits) ≤ 18)
real_is bits =
    let k = places_from bits 10 0 in
    ⊎_elim
    (λ (e : ltb k 10 ≡ true).
    let l = ltb-true k 10 e in
    rw (← decimal_real bits k refl l) (decimal_is (is_negative bits) (scaled bits k) k (found bits k refl l).short (omega arith)))
    (λ (e : ltb k 10 ≡ false). rw (← hex_real bits k refl (ltb-false k 10 e)) (hex_is bits))
    (cases (ltb k 10))
