-- The ends of a use, from its edge.
use Prim.Native.Nat.{ℕ}
use mathlib.Core.Bool.{Bool, false, true}
use mathlib.Core.Path.{◌≡◌, refl, sym}
use lib.Dec.{leb}
use lib.ListN.{get_or-map}
use Rattle.edge.specs.Edges.{back_number, front_number}
use Rattle.edge.specs.Uses.{edge_number, front_of}
use Rattle.lists.specs.Lists.{pick}
use Rattle.pattern.specs.Contents.{Content, zero_edge}
use Rattle.shell.specs.Openings.{back_in, front_in}
use Rattle.shell_edits.specs.Edits.{edge_of}
use Rattle.shell_edits.specs.NewEdges.{use_back, use_front}
use Rattle.vertex.specs.declared.VertexID.{VertexID}

field_picked : (b : Bool) (v w : VertexID) → (pick b v w).0 ≡ pick b v.0 w.0
field_picked true v w = refl
field_picked false v w = refl

module _ (c : Content) (u : ℕ) where
  pub front_is : front_in c u ≡ (use_front (edge_of c u) u).0
  unfolding front_of
  front_is =
      rw (get_or-map front_number c.edges (edge_number u) zero_edge, get_or-map back_number c.edges (edge_number u) zero_edge)
      (sym (field_picked (leb 32768 u) (edge_of c u).back (edge_of c u).front))

  pub back_is : back_in c u ≡ (use_back (edge_of c u) u).0
  unfolding front_of
  back_is =
      rw (get_or-map front_number c.edges (edge_number u) zero_edge, get_or-map back_number c.edges (edge_number u) zero_edge)
      (sym (field_picked (leb 32768 u) (edge_of c u).front (edge_of c u).back))
