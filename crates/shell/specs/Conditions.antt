-- The condition of a shell (shell_condition), over its uses: Irregular 0, Regular 1, Oriented 2, Closed 3 (FORMAT 3.3).
use Rattle.std.specs.Prelude.{ℕ, List, eqb, leb, ltb}
use Rattle.lists.specs.Lists.{count, pick}
use Rattle.edge.specs.Uses.{edge_number}

-- how many uses an edge has
unfoldable pub uses_of : List ℕ → ℕ → ℕ
uses_of us e = count (λ (u : ℕ). eqb (edge_number u) e) us

-- how many of the uses are alike to u
unfoldable pub alike_to : List ℕ → ℕ → ℕ
alike_to us u = count (eqb u) us

-- Irregular if some edge has three or more uses; else Regular if one has two uses alike; else Closed if every used edge has exactly two; else Oriented
unfoldable pub condition : List ℕ → ℕ
condition us =
    pick (ltb 0 (count (λ (u : ℕ). leb 3 (uses_of us (edge_number u))) us)) 0
    (pick (ltb 0 (count (λ (u : ℕ). leb 2 (alike_to us u)) us)) 1
    (pick (eqb 0 (count (λ (u : ℕ). ltb (uses_of us (edge_number u)) 2) us)) 3 2))
