-- One use more of an edge: its state, and what it makes of the condition.
use Prim.Native.Nat.{◌%◌, ◌*◌, ◌+◌, ◌<◌, ◌≤◌, min, suc, zero, ℕ}
use mathlib.Core.Bool.{Bool, ◌||◌, false, true}
use mathlib.Core.Logic.{⊎_elim}
use mathlib.Core.Path.{◌≡◌, refl}
use native.Mathlib.Omega.{arith}
use lib.Dec.{eqb, leb}
use borrow.Author.Tests.{eqb-false, eqb-true, le-leb, lt-leb}
use Rattle.condition.specs.Tallies.{StateFor, edge_worst, next_state, use_condition}
use Rattle.lists.proofs.Laws.{cases}
use Rattle.lists.specs.Lists.{pick}

-- one use more, that way: the uses are then g along and c reversed
module _ (f b g c way s : ℕ) (h : StateFor f b s) (one : g + c ≡ f + b + 1) (low : way < 4) (odd : way % 2 ≡ 1) (first : f + b ≡ 0 → way ≡ 1 + 2 * c) where
  state_more : StateFor g c (next_state way s)
  state_more =
      ⊎_elim
      (λ (r : eqb (s % 2) 0 ≡ true).
      let e = eqb-true (s % 2) 0 r in
      rw r (record {
        few = low;
        odd = omega (arith, h.odd);
        none = λ p. absurd (omega arith);
        once = λ p. first (omega arith);
        more = λ p. omega arith;
      }))
      (λ (r : eqb (s % 2) 0 ≡ false).
      let n = eqb-false (s % 2) 0 r in
      rw r (record {
        few = omega arith;
        odd = omega (arith, h.odd);
        none = λ p. absurd (omega arith);
        once = λ p. absurd (n (omega (arith, h.odd)));
        more = λ p. omega arith;
      }))
      (cases (eqb (s % 2) 0))

module _ (f b s : ℕ) (h : StateFor f b s) where
  pub state_along : StateFor (f + 1) b (next_state 1 s)
  state_along = state_more f b (f + 1) b 1 s h (omega arith) (omega arith) (omega arith) (λ p. omega arith)

  pub state_back : StateFor f (b + 1) (next_state 3 s)
  state_back = state_more f b f (b + 1) 3 s h (omega arith) (omega arith) (omega arith) (λ p. omega arith)

-- no use, one, two, or more
by_uses : (P : ℕ → ℕ → Type 0) → P 0 0 → P 1 0 → P 0 1 → ((f b : ℕ) → f + b ≡ 2 → P f b) → ((f b : ℕ) → 3 ≤ f + b → P f b) → (f b : ℕ) → P f b
by_uses P z x y two more zero zero = z
by_uses P z x y two more zero (suc zero) = y
by_uses P z x y two more zero (suc (suc zero)) = two 0 2 refl
by_uses P z x y two more zero (suc (suc (suc b))) = more 0 (suc (suc (suc b))) (omega arith)
by_uses P z x y two more (suc zero) zero = x
by_uses P z x y two more (suc zero) (suc zero) = two 1 1 refl
by_uses P z x y two more (suc zero) (suc (suc b)) = more 1 (suc (suc b)) (omega arith)
by_uses P z x y two more (suc (suc f)) zero = go f
  where
    go : (f : ℕ) → P (suc (suc f)) zero
    go zero = two 2 0 refl
    go (suc f) = more (suc (suc (suc f))) 0 (omega arith)
by_uses P z x y two more (suc (suc f)) (suc b) = more (suc (suc f)) (suc b) (omega arith)

-- what the uses of an edge make of the condition
pub worst_three : (f b : ℕ) → 3 ≤ f + b → edge_worst f b ≡ 0
worst_three f b h = rw (le-leb 3 (f + b) h)

module _ (f b : ℕ) (few : f + b < 3) where
  pub twice_along : 2 ≤ f → edge_worst f b ≡ 1
  twice_along h = rw (lt-leb 3 (f + b) few, le-leb 2 f h)

  pub twice_back : 2 ≤ b → edge_worst f b ≡ 1
  twice_back h = rw (lt-leb 3 (f + b) few, lt-leb 2 f (omega arith), le-leb 2 b h)

  pub worst_few : 1 ≤ edge_worst f b
  worst_few = rw (lt-leb 3 (f + b) few) (either (leb 2 f || leb 2 b))
    where
      either : (a : Bool) → 1 ≤ pick a 1 3
      either true = omega arith
      either false = omega arith

pub worst_none : (f b : ℕ) → f < 2 → b < 2 → edge_worst f b ≡ 3
worst_none f b hf hb = rw (lt-leb 3 (f + b) (omega arith), lt-leb 2 f hf, lt-leb 2 b hb)

-- after two uses or more
module _ (way f b : ℕ) where
  third : (g c s : ℕ) → StateFor f b s → f + b ≡ 2 → 3 ≤ g + c → edge_worst g c ≡ min (edge_worst f b) (use_condition way s)
  third g c s h two three =
      let e : s ≡ 2 = omega (arith, h.odd, h.few, h.more (omega arith)) in
      rw (e, worst_three g c three) (omega arith)

  later : (g c s : ℕ) → 3 ≤ f + b → 3 ≤ g + c → edge_worst g c ≡ min (edge_worst f b) (use_condition way s)
  later g c s h k = rw (worst_three f b h, worst_three g c k) (omega arith)

pub worst_along : (f b s : ℕ) → StateFor f b s → edge_worst (f + 1) b ≡ min (edge_worst f b) (use_condition 1 s)
worst_along =
    by_uses (λ (f b : ℕ). (s : ℕ) → StateFor f b s → edge_worst (f + 1) b ≡ min (edge_worst f b) (use_condition 1 s))
    (λ s h. rw (h.none refl))
    (λ s h. rw (h.once refl))
    (λ s h. rw (h.once refl))
    (λ f b e s h. third 1 f b (f + 1) b s h e (omega arith))
    (λ f b e s h. later 1 f b (f + 1) b s e (omega arith))

pub worst_back : (f b s : ℕ) → StateFor f b s → edge_worst f (b + 1) ≡ min (edge_worst f b) (use_condition 3 s)
worst_back =
    by_uses (λ (f b : ℕ). (s : ℕ) → StateFor f b s → edge_worst f (b + 1) ≡ min (edge_worst f b) (use_condition 3 s))
    (λ s h. rw (h.none refl))
    (λ s h. rw (h.once refl))
    (λ s h. rw (h.once refl))
    (λ f b e s h. third 3 f b f (b + 1) s h e (omega arith))
    (λ f b e s h. later 3 f b f (b + 1) s e (omega arith))
