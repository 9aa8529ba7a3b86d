-- A shell that is the same in two patterns: all that is reported of it is the same (FORMAT 3).
use Rattle.std.specs.Prelude.{ℕ, map, ◌≡◌}
use Rattle.pattern.specs.Contents.{Content}
use Rattle.shell.specs.Components.{components}
use Rattle.shell.specs.Conditions.{condition}
use Rattle.shell.specs.Connected.{connected}
use Rattle.shell.specs.Openings.{back_in, front_in, shell_walk}
use Rattle.shell.specs.Shells.{listings_of, shell_faces, shell_uses}
use Rattle.shell.specs.Singular.{singular_points}

pub record ShellKept (c d : Content) (m : ℕ) : Type 0 where
  -- the same listings, which show the same wires, and so the same uses
  pub listings_kept : listings_of d m ≡ listings_of c m
  pub faces_kept : shell_faces d m ≡ shell_faces c m
  pub uses_kept : shell_uses d m ≡ shell_uses c m
  -- they begin and end where they did
  pub fronts_kept : map (front_in d) (shell_uses d m) ≡ map (front_in c) (shell_uses c m)
  pub backs_kept : map (back_in d) (shell_uses d m) ≡ map (back_in c) (shell_uses c m)
  -- so all that is reported of the shell is what it was
  pub condition_kept : condition (shell_uses d m) ≡ condition (shell_uses c m)
  pub connected_kept : connected d m ≡ connected c m
  pub openings_kept : (shell_walk d m).openings ≡ (shell_walk c m).openings
  pub lookups_kept : (shell_walk d m).lookups ≡ (shell_walk c m).lookups
  pub components_kept : components d m ≡ components c m
  pub singular_kept : singular_points d m ≡ singular_points c m
