-- What the theorems on what a cut keeps speak of, beside the edits (FORMAT 4.2).
use Rattle.std.specs.Prelude.{ℕ, List, [], ◌∷◌, map, ◌≡◌, eqb}
use Rattle.lists.specs.Lists.{flat, pick}
use Rattle.edge.specs.Uses.{edge_number}
use Rattle.pattern.specs.Contents.{Content}
use Rattle.shell.specs.Components.{components}
use Rattle.shell.specs.Conditions.{condition}
use Rattle.shell.specs.Connected.{connected}
use Rattle.shell.specs.Shells.{shell_uses}
use Rattle.shell.specs.Singular.{singular_points}
use Rattle.solid.specs.Solid.{shell_errors}
use Rattle.shell_edits.specs.Edits.{halves_of}

-- a use of edge e gives way to its two halves, the first of number a; any other use stays
abbrev pub halve : ℕ → ℕ → ℕ → List ℕ
halve e a u = pick (eqb (edge_number u) e) (halves_of a u) (u ∷ [])

-- so do all uses of a list
abbrev pub halved : ℕ → ℕ → List ℕ → List ℕ
halved e a us = flat (map (halve e a) us)

-- shell n of d has the condition, the connectedness and the singular points of shell n of c, so what is wrong with it for the solid (10, 11, 12, 13); and its components
pub record SameShell (c d : Content) (n : ℕ) : Type 0 where
  pub same_condition : condition (shell_uses d n) ≡ condition (shell_uses c n)
  pub same_connected : connected d n ≡ connected c n
  pub same_singular : singular_points d n ≡ singular_points c n
  pub same_errors : shell_errors d n ≡ shell_errors c n
  pub same_components : components d n ≡ components c n
