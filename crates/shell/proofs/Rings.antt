-- Closed openings whose points are all different obey the face rule, and have two uses or more each.
use Prim.Native.Nat.{◌*◌, ◌+◌, ◌≤◌, suc, ℕ}
use mathlib.Core.Bool.{Bool}
use mathlib.Core.List.{List, [], ◌++◌, ◌∷◌}
use mathlib.Core.Path.{◌∙◌, ◌≡◌, refl, sym}
use native.Mathlib.Omega.{arith}
use lib.Dec.{eqb}
use lib.ListN.{length, length-append}
use borrow.Author.Tests.{eqb-true, lt-ltb}
use Rattle.edge.specs.Uses.{back_of, front_of}
use Rattle.errors.proofs.Laws.{none_both}
use Rattle.errors.specs.Faults.{each}
use Rattle.face.specs.Faces.{face_faults, outline_faults, shared_faults}
use Rattle.lists.proofs.Alike.{bit_one, count_disjoint, count_no_dup}
use Rattle.lists.proofs.Count.{All, count_append, count_flat, count_map, count_same}
use Rattle.lists.proofs.Laws.{eqb_sym}
use Rattle.lists.specs.Lists.{count, flat}
use Rattle.shell.proofs.Chain.{from}
use Rattle.shell.proofs.Walked.{Ring}
use Rattle.wire.specs.Wires.{closed, points, runs}

module _ (fronts backs : List ℕ) where
  pub points_count : (us : List ℕ) (p : ℕ) → count (eqb p) (points fronts backs us) ≡ count (from fronts backs p) us
  points_count us p =
      count_map (eqb p) (front_of fronts backs) us
      ∙ count_same (λ (u : ℕ). eqb p (front_of fronts backs u)) (from fronts backs p) us (sides us)
    where
      sides : (vs : List ℕ) → All (λ (u : ℕ). eqb p (front_of fronts backs u) ≡ from fronts backs p u) vs
      sides [] = tt
      sides (v ∷ vs) = (eqb_sym p (front_of fronts backs v), sides vs)

  -- no point is met twice, within an opening or by two
  abbrev Apart : List ℕ → List (List ℕ) → Type 0
  Apart earlier os = (p : ℕ) → count (eqb p) earlier + count (from fronts backs p) (flat os) ≤ 1

  rings_outlined : (w : ℕ) (os : List (List ℕ)) → All (Ring fronts backs) os → Apart [] os → each (outline_faults fronts backs) w os ≡ []
  unfolding each count
  rings_outlined w [] h d = refl
  rings_outlined w (us ∷ os) h d =
      let once = count_no_dup (points fronts backs us) (λ p. omega (arith, d p, count_flat (from fronts backs p) us os, points_count us p)) in
      rw (lt-ltb 0 (length us) h.0.0, h.0.1, once)
      (rings_outlined (suc w) os h.1 (λ p. omega (arith, d p, count_flat (from fronts backs p) us os)))

  rings_shared : (earlier : List ℕ) (w : ℕ) (os : List (List ℕ)) → Apart earlier os → shared_faults fronts backs earlier w os ≡ []
  unfolding shared_faults
  rings_shared earlier w [] d = refl
  rings_shared earlier w (us ∷ os) d =
      let ps = points fronts backs us in
      let off = count_disjoint ps earlier (λ p. omega (arith, d p, count_flat (from fronts backs p) us os, points_count us p)) in
      rw off
      (rings_shared (earlier ++ ps) (suc w) os (λ p. omega (arith, d p, count_flat (from fronts backs p) us os, points_count us p, count_append (eqb p) earlier ps)))

  pub rings_ruled : (w : ℕ) (os : List (List ℕ)) → All (Ring fronts backs) os → ((p : ℕ) → count (from fronts backs p) (flat os) ≤ 1) → face_faults fronts backs w os ≡ []
  unfolding count
  rings_ruled w os h d =
      let apart : Apart [] os = λ p. omega (arith, d p) in
      none_both (each (outline_faults fronts backs) w os) (shared_faults fronts backs [] w os) (rings_outlined w os h apart) (rings_shared [] w os apart)

  -- a use whose ends differ is not closed alone
  abbrev pub loop : ℕ → Bool
  loop u = eqb (front_of fronts backs u) (back_of fronts backs u)

  two_uses : (us : List ℕ) → Ring fronts backs us → count loop us ≡ 0 → 2 ≤ length us
  unfolding closed runs count
  two_uses [] h z = absurd (omega (arith, h.0))
  two_uses (u ∷ []) h z =
      absurd (omega (arith, z, bit_one (front_of fronts backs u) (back_of fronts backs u) (sym (eqb-true (back_of fronts backs u) (front_of fronts backs u) h.1))))
  two_uses (u ∷ v ∷ us) h z = omega arith

  pub rings_long : (os : List (List ℕ)) → All (Ring fronts backs) os → count loop (flat os) ≡ 0 → 2 * length os ≤ length (flat os)
  unfolding flat
  rings_long [] h z = omega arith
  rings_long (us ∷ os) h z =
      omega (
        arith,
        length-append us (flat os),
        two_uses us h.0 (omega (arith, z, count_append loop us (flat os))),
        rings_long os h.1 (omega (arith, z, count_append loop us (flat os))),
      )
