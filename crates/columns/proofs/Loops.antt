-- The loop that writes where the wires of each face begin.
use Prim.Native.Nat.{◌*◌, ◌+◌, ◌<◌, ◌≤◌, suc, ℕ}
use mathlib.Core.List.{List}
use mathlib.Core.Path.{◌≡◌, ◌∙◌, sym}
use native.Mathlib.Numerals.{add-one}
use native.Mathlib.Omega.{arith}
use lib.ListN.{get_or, length, length-replicate, replicate, set, take}
use lib.Seq.{get_or-take, length-take-le}
use Rattle.lists.proofs.Laws.{Filling, filling_long, filling_next, filling_padded, filling_start}
use Rattle.lists.proofs.Split.{Walk, walk_next, walk_start}
use Rattle.lists.specs.Lists.{padded, sum, tabulate}

abbrev pub sum_to : List ℕ → ℕ → ℕ
sum_to counts f = sum (take f counts)

pub record Firsting (counts out : List ℕ) (k at : ℕ) : Type 0 where
  pub few : length counts ≤ 256
  pub walk : Walk counts k at
  pub low : at ≤ 65536 * k
  pub filling : Filling (sum_to counts) (replicate 257 0) out k

pub firsting_start : (counts out : List ℕ) → length counts ≤ 256 → out ≡ replicate 257 0 → Firsting counts out 0 0
firsting_start counts out h z = record {
  few = h;
  walk = walk_start counts;
  low = omega arith;
  filling = rw z (filling_start (sum_to counts) (replicate 257 0));
}

module _ {counts out : List ℕ} {k at : ℕ} (s : Firsting counts out k at) where
  pub firsting_long : length out ≡ 257
  firsting_long = filling_long (sum_to counts) (replicate 257 0) out k s.filling ∙ length-replicate {A = ℕ} 257 0

  written : k < 257 → Filling (sum_to counts) (replicate 257 0) (set out k at) (k + 1)
  written h =
      filling_next (sum_to counts) 0 (replicate 257 0) out k at s.filling (omega (arith, length-replicate {A = ℕ} 257 0)) s.walk.here

  pub firsting_next : {m : ℕ} → k < length counts → m ≡ get_or counts k 0 → m < 65536 → Firsting counts (set out k at) (k + 1) (at + m)
  firsting_next {m} h is small = record {
    few = s.few;
    walk = walk_next counts k at m s.walk h is;
    low = omega (arith, s.low);
    filling = written (omega (arith, s.few));
  }

  pub firsting_all : length counts ≤ k → set out (length counts) at ≡ padded 257 0 (tabulate (suc (length counts)) (sum_to counts))
  firsting_all h =
      let e : k ≡ length counts = omega (arith, s.walk.low) in
      filling_padded (sum_to counts) 0 257 (set out (length counts) at) (suc (length counts)) (rw (e, add-one) at (written (omega (arith, s.few))))
