-- The kept uses in an array: a place for each point, 65,535 where none is kept.
use Rattle.std.specs.Prelude.{ℕ, ◌<◌, not, List, map, ◌≡◌, eqb, get_or, length, Option, None, Some}
use Rattle.lists.specs.Lists.{count, pick}
use Rattle.edge.specs.Uses.{back_of, edge_number}
use Rattle.shell.specs.Openings.{Kept}

abbrev pub slot : ℕ → Option ℕ
slot u = pick (eqb u 65535) None (Some u)

unfoldable pub slots : List ℕ → Kept
slots kept = map slot kept

-- how many are kept
unfoldable pub kept_in : List ℕ → ℕ
kept_in kept = count (λ (u : ℕ). not (eqb u 65535)) kept

-- every kept use names an edge, and ends at a point that has a place
pub record Holding (fronts backs kept : List ℕ) : Type 0 where
  pub alike : length backs ≡ length fronts
  pub edge : (p : ℕ) → p < length kept → (get_or kept p 0 ≡ 65535 → ⊥) → edge_number (get_or kept p 0) < length fronts
  pub point : (p : ℕ) → p < length kept → (get_or kept p 0 ≡ 65535 → ⊥) → back_of fronts backs (get_or kept p 0) < length kept
