-- Where the bodies of a file begin.
use Prim.Native.Nat.{◌*◌, ◌+◌, ◌<◌, ◌≤◌, suc, zero, ℕ}
use mathlib.Core.List.{List, [], ◌∷◌}
use mathlib.Core.Path.{◌≡◌, refl, sym}
use native.Mathlib.Nat.{mul-zero, zero-mul}
use native.Mathlib.Omega.{arith}
use lib.Dec.{eqb}
use lib.ListN.{get_or, length, take}
use lib.Seq.{take-take}
use Rattle.errors.specs.declared.Refusal.{Refusal}
use Rattle.errors.specs.declared.Refusal.TheVariants.{Layout}
use Rattle.lists.proofs.Laws.{sum_next, sum_take_drop}
use Rattle.lists.specs.Lists.{sum, unless}
use Rattle.pattern.proofs.Counts.{count_kept}
use Rattle.pattern.specs.Checks.{count_faults}
use Rattle.pattern.specs.Contents.{layout}
use Rattle.pattern_file.specs.File.{body_lengths, start_of}

pub get_d_lengths : (sizes ns : List ℕ) (b : ℕ) → get_or (body_lengths sizes ns) b 0 ≡ get_or sizes b 0 * get_or ns b 0
unfolding body_lengths
get_d_lengths [] ns b = sym (zero-mul (get_or ns b 0))
get_d_lengths (size ∷ sizes) [] b = sym (mul-zero (get_or (size ∷ sizes) b 0))
get_d_lengths (size ∷ sizes) (n ∷ ns) zero = refl
get_d_lengths (size ∷ sizes) (n ∷ ns) (suc b) = get_d_lengths sizes ns b

element_le : (ns : List ℕ) (b : ℕ) → get_or ns b 0 ≤ sum ns
element_le ns b = omega (arith, sum_next ns b, sum_take_drop (suc b) ns)

pub start_first : (ns : List ℕ) → start_of ns 0 ≡ 56
unfolding start_of sum
start_first ns = refl

-- the next body begins where this one ends
pub start_next : (ns : List ℕ) (b : ℕ) → start_of ns (suc b) ≡ start_of ns b + get_or layout.sizes b 0 * get_or ns b 0
unfolding start_of
start_next ns b =
    let parts = body_lengths layout.sizes ns in
    omega (arith, sum_next parts b, get_d_lengths layout.sizes ns b)

pub start_le : (ns : List ℕ) (a b : ℕ) → a ≤ b → start_of ns a ≤ start_of ns b
unfolding start_of
start_le ns a b h =
    let parts = body_lengths layout.sizes ns in
    let part : take a (take b parts) ≡ take a parts = take-take a b parts h in
    omega (arith, rw part at (sum_take_drop a (take b parts)))

-- ---- the limits

pub end_limit : start_of layout.limits 7 ≡ 41048
unfolding start_of body_lengths sum
end_limit = refl

limits_small : (b : ℕ) → get_or layout.limits b 0 ≤ 8976
unfolding sum
limits_small b = element_le layout.limits b

module _ (ns : List ℕ) (few : count_faults ns ≡ []) where
  pub count_small : (b : ℕ) → b < length ns → get_or ns b 0 < 4294967296
  count_small b h = omega (arith, count_kept ns b few h, limits_small b)

  -- a file within the limits is no longer than one that has every limit in full
  pub end_le : length ns ≡ 7 → start_of ns 7 ≤ start_of layout.limits 7
  end_le seven =
      let n : (b : ℕ) → b < 7 → get_or ns b 0 ≤ get_or layout.limits b 0 = λ b h. count_kept ns b few (omega arith) in
      let next : (b : ℕ) → start_of layout.limits (suc b) ≡ start_of layout.limits b + get_or layout.sizes b 0 * get_or layout.limits b 0 =
      start_next layout.limits in
      omega (
        arith,
        start_first ns,
        start_next ns 0,
        start_next ns 1,
        start_next ns 2,
        start_next ns 3,
        start_next ns 4,
        start_next ns 5,
        start_next ns 6,
        start_first layout.limits,
        next 0,
        next 1,
        next 2,
        next 3,
        next 4,
        next 5,
        next 6,
        n 0 (omega arith),
        n 1 (omega arith),
        n 2 (omega arith),
        n 3 (omega arith),
        n 4 (omega arith),
        n 5 (omega arith),
        n 6 (omega arith),
      )

  pub start_small : length ns ≡ 7 → (b : ℕ) → b < 7 → start_of ns b < 4294967296
  start_small seven b h = omega (arith, start_le ns b 7 (omega arith), end_le seven, end_limit)

-- ---- the offsets

-- an offset that is not where its body begins
abbrev pub offset_fault : List ℕ → ℕ → ℕ → List Refusal
offset_fault ns b offset = unless (eqb offset (start_of ns b)) (Layout b)
