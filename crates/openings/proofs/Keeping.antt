-- The uses of a part kept one after the other.
use Rattle.std.specs.Prelude.{Some}
use Prim.Native.Nat.{ℕ, ◌+◌, ◌≤◌, ◌<◌}
use mathlib.Core.Bool.{Bool, true, false}
use mathlib.Core.List.{List, [], ◌∷◌, ◌++◌}
use mathlib.Core.Path.{◌∙◌, ◌≡◌, refl, sym}
use native.Mathlib.Numerals.{add-one}
use native.Mathlib.Omega.{arith}
use lib.ListN.{drop, drop_of_length-le, get_or, length, length-set, set}
use lib.Seq.{drop-cons}
use Rattle.lists.proofs.Parts.{only_append}
use Rattle.lists.specs.Lists.{only}
use Rattle.edge.specs.Uses.{back_of, edge_number, front_of}
use Rattle.shell.specs.Openings.{Kept, keep}
use Rattle.openings.specs.Slots.{Holding, slots}
use Rattle.openings.specs.Passes.{Keepable, is_odd}
use Rattle.openings.proofs.Slots.{holding_in, slot_some, slots_set}

keep_append : (front back : ℕ → ℕ) (us vs : List ℕ) (kept : Kept) → keep front back (us ++ vs) kept ≡ keep front back vs (keep front back us kept)
unfolding keep
keep_append front back [] vs kept = refl
keep_append front back (u ∷ us) vs kept = keep_append front back us vs (set kept (front u) (Some u))

-- several parts in sequence are one
pub keep_parts : (front back : ℕ → ℕ) (q : ℕ → Bool) (us vs : List ℕ) (kept : Kept)
    → keep front back (only q (us ++ vs)) kept ≡ keep front back (only q vs) (keep front back (only q us) kept)
keep_parts front back q us vs kept = rw (only_append q us vs) (keep_append front back (only q us) (only q vs) kept)

-- the uses before i are kept
pub record Keeping (fronts backs odd part kept₀ kept : List ℕ) (i : ℕ) : Type 0 where
  pub low : i ≤ length part
  pub same : keep (front_of fronts backs) (back_of fronts backs) (only (is_odd odd) part) (slots kept₀)
      ≡ keep (front_of fronts backs) (back_of fronts backs) (only (is_odd odd) (drop i part)) (slots kept)
  pub long : length kept ≡ length kept₀
  pub holding : Holding fronts backs kept

module _ (fronts backs odd part kept₀ : List ℕ) (g : Keepable fronts backs odd part kept₀) where
  pub keeping_start : Keeping fronts backs odd part kept₀ kept₀ 0
  keeping_start = record { low = omega arith; same = refl; long = refl; holding = g.holding }

  module _ (kept : List ℕ) (i : ℕ) (k : Keeping fronts backs odd part kept₀ kept i) where
    pub keeping_all : length part ≤ i → slots kept ≡ keep (front_of fronts backs) (back_of fronts backs) (only (is_odd odd) part) (slots kept₀)
    unfolding only keep
    keeping_all h = sym (rw (k.same, drop_of_length-le part h))

    module _ (u : ℕ) (l : i < length part) (e : u ≡ get_or part i 0) where
      pub keeping_edge : (edge_number u < length fronts) × (edge_number u < length backs)
      keeping_edge = rw e (let h = g.begins.edge i l in (h, omega (arith, h, g.begins.alike)))

      pub keeping_tally : edge_number u < length odd
      keeping_tally = omega (arith, keeping_edge.0, g.tallied)

      pub keeping_front : (p : ℕ) → p ≡ front_of fronts backs u → p < length kept
      keeping_front p f = rw (f, e, k.long, g.points) (g.begins.point i l)

      pub keeping_even : is_odd odd u ≡ false → Keeping fronts backs odd part kept₀ kept (i + 1)
      unfolding only
      keeping_even o = record {
        low = omega arith;
        same = k.same ∙ rw (add-one, drop-cons {A = ℕ} part i 0 l, ← e, o);
        long = k.long;
        holding = k.holding;
      }

      pub keeping_odd : is_odd odd u ≡ true → (p : ℕ) → p ≡ front_of fronts backs u → Keeping fronts backs odd part kept₀ (set kept p u) (i + 1)
      unfolding only keep
      keeping_odd o p f =
          let ne : u ≡ 65535 → ⊥ = λ z. omega (arith, z, keeping_edge.0, g.edges) in
          let b : back_of fronts backs u < length kept = rw (e, k.long, g.points) (g.ends.point i l) in record {
            low = omega arith;
            same = k.same ∙ rw (add-one, drop-cons {A = ℕ} part i 0 l, ← e, o, slots_set kept p u, slot_some u ne, f);
            long = length-set kept p u ∙ k.long;
            holding = holding_in fronts backs kept p u k.holding keeping_edge.0 b;
          }
