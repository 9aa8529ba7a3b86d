-- What holds of the openings of shell n of a pattern (FORMAT 3.4).
use Rattle.std.specs.Prelude.{ℕ, ◌*◌, ◌+◌, ◌≤◌, Bool, true, [], map, ◌≡◌, get_or, length, None}
use Rattle.lists.specs.Lists.{flat, has, no_dup, pick}
use Rattle.edge.specs.Edges.{back_number, front_number}
use Rattle.face.specs.Faces.{face_faults}
use Rattle.pattern.specs.Contents.{Content}
use Rattle.shell.specs.Conditions.{alike_to, condition}
use Rattle.shell.specs.Openings.{free_uses, front_in, shell_walk}
use Rattle.shell.specs.Shells.{shell_uses}

-- of whatever condition the shell is
pub record WalkEnds (c : Content) (n : ℕ) : Type 0 where
  -- the walk has gone on until none is kept
  pub ended : (p : ℕ) → get_or (shell_walk c n).kept p None ≡ None
  -- the last count: one lookup for each use in the openings, and one for each opening that finds nothing
  pub asked : (shell_walk c n).lookups ≡ length (flat (shell_walk c n).openings) + length (shell_walk c n).openings

-- demand 3
pub record OpeningsHold (c : Content) (n : ℕ) : Type 0 where
  -- each opening is a closed wire that meets no point twice, and no two share a point: the face rule, over the openings
  pub ruled : face_faults (map front_number c.edges) (map back_number c.edges) 0 (shell_walk c n).openings ≡ []
  -- every free use of the shell stands in the openings once, and no other use does
  pub once : (u : ℕ) → alike_to (flat (shell_walk c n).openings) u ≡ pick (has u (free_uses (shell_uses c n))) 1 0
  -- one lookup for each free use, and one for each opening
  pub looked : (shell_walk c n).lookups ≡ length (free_uses (shell_uses c n)) + length (shell_walk c n).openings
  -- an opening has two uses at least
  pub bound : 2 * (shell_walk c n).lookups ≤ 3 * length (free_uses (shell_uses c n))

-- no point is the front of two free uses
abbrev pub fronts_differ : Content → ℕ → Bool
fronts_differ c n = no_dup (map (front_in c) (free_uses (shell_uses c n)))

-- what the calls promise of every shell of an accepted pattern; demand 3 where it is Oriented (2) or Closed (3)
pub record OpeningsPromised (c : Content) (n : ℕ) : Type 0 where
  pub walked : WalkEnds c n
  pub hold : 2 ≤ condition (shell_uses c n) → fronts_differ c n ≡ true → OpeningsHold c n
