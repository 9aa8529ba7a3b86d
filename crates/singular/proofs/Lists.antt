-- Laws of lists.
use Prim.Native.Nat.{◌+◌, ◌<◌, ◌≤◌, suc, ℕ}
use mathlib.Core.Bool.{Bool}
use mathlib.Core.List.{List, [], ◌++◌, ◌∷◌, append-nil}
use mathlib.Core.Path.{◌∙◌, ◌≡◌, ap, refl}
use native.Mathlib.Numerals.{add-one}
use native.Mathlib.Omega.{arith}
use lib.ListN.{length}
use lib.Seq.{length-sets, sets}
use Rattle.lists.proofs.Parts.{only_append, only_same}
use Rattle.lists.proofs.Count.{All, all_each}
use Rattle.lists.proofs.Flat.{get_d_tabulate}
use Rattle.lists.proofs.Laws.{length_tabulate, tabulate_suc}
use Rattle.lists.proofs.Sets.{Put, put_then}
use Rattle.lists.specs.Lists.{numbers, only, pick, tabulate}

-- the numbers that pass, of one more
only_next : (q : ℕ → Bool) (p : ℕ) → only q (numbers (suc p)) ≡ only q (numbers p) ++ pick (q p) (p ∷ []) []
unfolding only
only_next q p =
    rw (tabulate_suc p (λ (k : ℕ). k), only_append q (numbers p) (p ∷ []), append-nil (pick (q p) (p ∷ []) []))

-- what holds of each number below n
pub all_numbers : (P : ℕ → Type 0) (n : ℕ) → ((p : ℕ) → p < n → P p) → All P (numbers n)
all_numbers P n h =
    all_each P 0 (numbers n)
    (λ k l. let m : k < n = omega (arith, length_tabulate n (λ (j : ℕ). j)) in rw (get_d_tabulate n (λ (j : ℕ). j) k 0 m) (h k m))

-- tests that agree on the numbers below n
pub only_alike : (q r : ℕ → Bool) (n : ℕ) → ((p : ℕ) → p < n → q p ≡ r p) → only q (numbers n) ≡ only r (numbers n)
only_alike q r n h = only_same q r (numbers n) (all_numbers (λ (p : ℕ). q p ≡ r p) n h)

-- a loop that writes the numbers that pass: of those below p, n are written
pub record Listed (q : ℕ → Bool) (points : ℕ) (out₀ out : List ℕ) (n p : ℕ) : Type 0 where
  pub low : p ≤ points
  pub few : n ≤ p
  pub put : Put out₀ 0 (only q (numbers p)) out n

pub listed_start : (q : ℕ → Bool) (points : ℕ) (out : List ℕ) → Listed q points out out 0 0
unfolding only tabulate
listed_start q points out = record { low = omega arith; few = omega arith; put = (refl, refl) }

module _ {q : ℕ → Bool} {points : ℕ} {out₀ out : List ℕ} {n p : ℕ} (s : Listed q points out₀ out n p) where
  pub listed_long : length out ≡ length out₀
  listed_long = ap length s.put.0 ∙ length-sets out₀ 0 (only q (numbers p))

  pub listed_next : {out' : List ℕ} {n' : ℕ} → p < points → Put out n (pick (q p) (p ∷ []) []) out' n' → n' ≤ n + 1 → Listed q points out₀ out' n' (p + 1)
  listed_next {out'} {n'} h e l = record {
    low = omega arith;
    few = omega (arith, s.few);
    put = rw (add-one, only_next q p) (put_then out₀ 0 (only q (numbers p)) (pick (q p) (p ∷ []) []) out out' n n' s.put e);
  }

  pub listed_all : points ≤ p → (out ≡ sets out₀ 0 (only q (numbers points))) × (n ≡ length (only q (numbers points)))
  listed_all h = let e : p ≡ points = omega (arith, s.low) in rw (← e) (s.put.0, omega (arith, s.put.1))
