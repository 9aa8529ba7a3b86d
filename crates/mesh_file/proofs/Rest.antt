-- What is stored beside the points, edges, uses and wires of a mesh.
use Prim.Native.Nat.{◌+◌, ℕ}
use mathlib.Core.List.{List}
use mathlib.Core.Path.{◌∙◌, ◌≡◌, refl}
use lib.ListN.{get_or, set}
use Rattle.lists.specs.Lists.{tabulate}
use Rattle.pattern.specs.Contents.{Pattern}
use Rattle.store.specs.Columns.{with_counts, with_faces, with_listings, with_shells}
use Rattle.store_read.proofs.Laws.{put_next}
use Rattle.mesh_file.specs.Judging.{with_listed, with_rest}

module _ (p : Pattern) where
  -- a loop that stores faces and listings: before it, and one turn
  pub listed_none : p ≡ with_listed p 0
  unfolding tabulate
  listed_none = refl

  pub listed_next : (k : ℕ) (p₁ p₂ p₃ : Pattern) → p₁ ≡ with_listed p k → p₂ ≡ with_faces p₁ (set p₁.faces k (record { wires = 1; surface = 0 }))
      → p₃ ≡ with_listings p₂ (set p₂.listings k k) → p₃ ≡ with_listed p (k + 1)
  listed_next k p₁ p₂ p₃ a b c =
      c ∙ rw (b, a) (λ i. with_listings (with_faces p (put_next p.faces (λ (j : ℕ). record { wires = 1; surface = 0 }) k i)) (put_next p.listings (λ (j : ℕ). j) k i))

  pub rest_stored : (ns : List ℕ) (p₁ p₂ p₃ : Pattern) → p₁ ≡ with_listed p (get_or ns 4 0) → p₂ ≡ with_shells p₁ (set p₁.shells 0 (get_or ns 4 0))
      → p₃ ≡ with_counts p₂ ns → p₃ ≡ with_rest p ns
  rest_stored ns p₁ p₂ p₃ a b c = c ∙ rw (b, a)
