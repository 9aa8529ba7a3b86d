-- The index of the edges of a mesh. Cited by inner contracts.
use Rattle.std.specs.Prelude.{◌%◌, ◌*◌, ◌+◌, ◌<◌, min, max, suc, zero, ℕ, Bool, false, List, ◌≡◌, eqb, get_or, length, ltb, Option, Some, None}
use Rattle.edge.specs.Edges.{back_number, front_number}
use Rattle.edge.specs.declared.Edge.{Edge}
use Rattle.lists.specs.Lists.{pick}
use Rattle.mesh.specs.Mesh.{joins, place}
use Rattle.pattern.specs.Contents.{zero_edge}

-- one more than the last number below n that passes the test; 0 where there is none
unfoldable pub latest : (ℕ → Bool) → ℕ → ℕ
latest test zero = 0
latest test (suc n) = pick (test n) (suc n) (latest test n)

abbrev pub bucket_of : ℕ → ℕ → ℕ
bucket_of p q = min p q % 2048 * 8 + max p q % 8

-- the bucket of edge k
abbrev pub bucket_at : List Edge → ℕ → ℕ
bucket_at es k = bucket_of (front_number (get_or es k zero_edge)) (back_number (get_or es k zero_edge))

-- the place of the first that passes the test, where one does
abbrev pub found {ℓ} : {A : Type ℓ} → (A → Bool) → List A → Option ℕ
found test xs = pick (ltb (place test xs) (length xs)) (Some (place test xs)) None

pub record Indexed (es : List Edge) (index : List ℕ) : Type 0 where
  pub heads : (h : ℕ) → h < 16384 → get_or index h 0 ≡ latest (λ (k : ℕ). eqb (bucket_at es k) h) (length es)
  pub earlier : (e : ℕ) → e < length es → get_or index (16384 + e) 0 ≡ latest (λ (k : ℕ). eqb (bucket_at es k) (bucket_at es e)) e
  -- no two edges join the same points
  pub apart : (i j : ℕ) → i < j → j < length es → joins (front_number (get_or es j zero_edge)) (back_number (get_or es j zero_edge)) (get_or es i zero_edge) ≡ false
