-- Decimal numbers: how they are made digit by digit, and how long they are.
use Prim.Native.Nat.{◌%◌, ◌+◌, ◌/◌, ◌<◌, ◌^◌, ◌≤◌, suc, zero, ℕ}
use mathlib.Core.Bool.{false, true}
use mathlib.Core.List.{List, ◌++◌}
use mathlib.Core.Logic.{⊎_elim}
use mathlib.Core.Path.{◌∙◌, ◌≡◌, ap, refl}
use native.Mathlib.Nat.{pow-suc}
use native.Mathlib.Omega.{arith}
use lib.Dec.{ltb}
use lib.ListN.{length, length-append, replicate, set}
use lib.Seq.{length-sets, sets}
use borrow.Author.Tests.{le-ltb, lt-ltb, ltb-false, ltb-true}
use Rattle.errors.specs.Numbers.{body, number, record_number}
use Rattle.errors.specs.declared.Refusal.{Refusal}
use Rattle.errors.specs.declared.Refusal.TheVariants.{Unnamed}
use Rattle.lists.proofs.Laws.{cases}
use Rattle.lists.proofs.Sets.{Put, put_then}
use Rattle.output.specs.Text.{ascii, decimal, digit, digits, field, refusal_line}

-- more digits than enough change nothing
enough : (d e n : ℕ) → n < d → n < e → digits d n ≡ digits e n
unfolding digits
enough zero e n p q = absurd (omega arith)
enough (suc d) zero n p q = absurd (omega arith)
enough (suc d) (suc e) n p q =
    ⊎_elim
    (λ (h : ltb n 10 ≡ true). rw h)
    (λ (h : ltb n 10 ≡ false).
    let b = ltb-false n 10 h in
    rw (h, enough d e (n / 10) (omega arith) (omega arith)))
    (cases (ltb n 10))

pub decimal_one : (n : ℕ) → n < 10 → decimal n ≡ digit n
unfolding decimal digits
decimal_one n h = rw (lt-ltb n 10 h)

pub decimal_more : (n : ℕ) → 10 ≤ n → decimal n ≡ decimal (n / 10) ++ digit (n % 10)
unfolding decimal digits
decimal_more n h = rw (le-ltb n 10 h, enough n (suc (n / 10)) (n / 10) (omega arith) (omega arith))

-- the last digit is all of it, or it is stored after the others
pub put_one : (l : List ℕ) (at n : ℕ) → n < 10 → Put l at (decimal n) (set l at (48 + n)) (at + 1)
put_one l at n h = rw (decimal_one n h) (refl, refl)

pub put_more : (l : List ℕ) (at n : ℕ) (out : List ℕ) (last : ℕ) → 10 ≤ n → Put l at (decimal (n / 10)) out last
    → Put l at (decimal n) (set out last (48 + n % 10)) (last + 1)
put_more l at n out last h p = rw (decimal_more n h) (put_then l at (decimal (n / 10)) (digit (n % 10)) out _ last _ p (refl, refl))

pub length_one : (n : ℕ) → n < 10 → length (decimal n) ≡ 1
length_one n h = ap length (decimal_one n h)

pub length_more : (n : ℕ) → 10 ≤ n → length (decimal n) ≡ length (decimal (n / 10)) + 1
length_more n h = ap length (decimal_more n h) ∙ length-append (decimal (n / 10)) (digit (n % 10))

-- a number below 10 to the k + 1 has at most k + 1 digits
pub decimal_short : (k n : ℕ) → n < 10 ^ suc k → length (decimal n) ≤ suc k
decimal_short zero n h = omega (arith, length_one n (omega arith))
decimal_short (suc k) n h =
    ⊎_elim
    (λ (b : ltb n 10 ≡ true). omega (arith, length_one n (ltb-true n 10 b)))
    (λ (b : ltb n 10 ≡ false). omega (arith, length_more n (ltb-false n 10 b), decimal_short k (n / 10) (omega (arith, ltb-false n 10 b, pow-suc 10 (suc k)))))
    (cases (ltb n 10))

-- a number of 64 bits has at most 20 digits
pub decimal_20 : (n : ℕ) → n < 18446744073709551616 → length (decimal n) ≤ 20
decimal_20 n h = decimal_short 19 n (omega arith)

-- the line of a refusal from its three numbers
pub line_is : (f : Refusal) (n b k : ℕ) → n ≡ number f → b ≡ body f → k ≡ record_number f
    → field "refused " n ++ field " body " b ++ field " record " k ++ ascii "\n" ≡ refusal_line f
unfolding refusal_line
line_is f n b k p q r = rw (p, q, r)

-- examples
zero_is : decimal 0 ≡ ascii "0"
unfolding decimal digits
zero_is = refl

ten_is : decimal 10 ≡ ascii "10"
unfolding decimal digits
ten_is = refl

larger_is : decimal 41048 ≡ ascii "41048"
unfolding decimal digits
larger_is = refl

line_of : refusal_line (Unnamed 2 41048) ≡ ascii "refused 3 body 2 record 41048\n"
unfolding refusal_line field decimal digits
line_of = refl

-- a line of r bytes lies within the array of 96 that it was written into
pub line_inside : (f : Refusal) (r : ℕ) (out : List ℕ) → out ≡ sets (replicate 96 0) 0 (refusal_line f) → r ≤ 96 → r ≤ length out
line_inside f r out e h = omega (arith, ap length e, length-sets (replicate 96 0) 0 (refusal_line f))
