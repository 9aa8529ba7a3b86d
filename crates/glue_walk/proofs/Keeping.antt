-- The uses of the first face, kept one after the other.
use Prim.Native.Nat.{◌+◌, ◌<◌, ◌≤◌, ℕ}
use mathlib.Core.List.{List}
use mathlib.Core.Path.{◌∙◌, ◌≡◌, refl, sym}
use native.Mathlib.Numerals.{add-one}
use native.Mathlib.Omega.{arith}
use lib.ListN.{drop, drop_of_length-le, get_or, length, length-set, set}
use lib.Seq.{drop-cons}
use Rattle.edge.specs.Uses.{back_of, edge_number, front_of}
use Rattle.openings.proofs.Slots.{holding_in, slot_some, slots_set}
use Rattle.openings.specs.Slots.{Holding, slots}
use Rattle.shell.specs.Openings.{keep}
use Rattle.glue_walk.specs.Walks.{EndColumns, Fits, PartFits}

module _ (fronts backs : List ℕ) (e : EndColumns fronts backs) (points u : ℕ) (f : Fits fronts backs points u) where
  pub edge_named : (edge_number u < length fronts) × (edge_number u < length backs)
  edge_named = (f.edge, omega (arith, f.edge, e.alike))

  pub no_mark : u ≡ 65535 → ⊥
  no_mark z = omega (arith, z, f.edge, e.few)

-- the uses before i are kept
pub record Keeping (fronts backs part kept₀ kept : List ℕ) (i : ℕ) : Type 0 where
  pub low : i ≤ length part
  pub same : keep (front_of fronts backs) (back_of fronts backs) part (slots kept₀) ≡ keep (front_of fronts backs) (back_of fronts backs) (drop i part) (slots kept)
  pub long : length kept ≡ length kept₀
  pub holding : Holding fronts backs kept

module _ (fronts backs part kept₀ : List ℕ) (g : PartFits fronts backs (length kept₀) part) where
  pub keeping_start : Holding fronts backs kept₀ → Keeping fronts backs part kept₀ kept₀ 0
  keeping_start h = record { low = omega arith; same = refl; long = refl; holding = h }

  module _ (kept : List ℕ) (i : ℕ) (k : Keeping fronts backs part kept₀ kept i) where
    pub keeping_all : length part ≤ i → slots kept ≡ keep (front_of fronts backs) (back_of fronts backs) part (slots kept₀)
    unfolding keep
    keeping_all h = sym (rw (k.same, drop_of_length-le part h))

    module _ (u : ℕ) (l : i < length part) (e : u ≡ get_or part i 0) where
      fit : Fits fronts backs (length kept) u
      fit = rw (e, k.long) (g.each i l)

      pub keeping_edge : (edge_number u < length fronts) × (edge_number u < length backs)
      keeping_edge = edge_named fronts backs g.ends (length kept) u fit

      pub keeping_front : (p : ℕ) → p ≡ front_of fronts backs u → p < length kept
      keeping_front p f = rw f fit.front

      pub keeping_next : (p : ℕ) → p ≡ front_of fronts backs u → (kept' : List ℕ) → kept' ≡ set kept p u → Keeping fronts backs part kept₀ kept' (i + 1)
      unfolding keep
      keeping_next p f kept' is =
          rw is (record {
            low = omega arith;
            same = k.same ∙ rw (add-one, drop-cons {A = ℕ} part i 0 l, ← e, slots_set kept p u, slot_some u (no_mark fronts backs g.ends (length kept) u fit), f);
            long = length-set kept p u ∙ k.long;
            holding = holding_in fronts backs kept p u k.holding fit.edge fit.back;
          })
