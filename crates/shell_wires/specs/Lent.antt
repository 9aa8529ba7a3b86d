-- The lists of a pattern without fault, lent.
use Rattle.std.specs.Prelude.{[], map, ◌≡◌, length}
use Rattle.edge.specs.Edges.{back_number, front_number}
use Rattle.face.specs.Faces.{wire_count}
use Rattle.pattern.proofs.Counts.{Full}
use Rattle.pattern.specs.Checks.{pattern_faults}
use Rattle.pattern.specs.Contents.{Pattern, content}
use Rattle.pattern.specs.declared.Lists.{Lists}

-- the faces' numbers of wires, the shells and the listings
pub record Listed (p : Pattern) (lists : Lists) : Type 0 where
  pub ok : pattern_faults p ≡ []
  pub seven : length p.counts ≡ 7
  pub full : Full p
  pub faces_are : lists.faces.now ≡ map wire_count (content p).faces
  pub shells_are : lists.shells.now ≡ (content p).shells
  pub listings_are : lists.listings.now ≡ (content p).listings

-- the ends of the edges, the uses and the wires too
pub record Lent (p : Pattern) (lists : Lists) : Type 0 where
  pub listed : Listed p lists
  pub fronts_are : lists.ends.fronts.now ≡ map front_number (content p).edges
  pub backs_are : lists.ends.backs.now ≡ map back_number (content p).edges
  pub uses_are : lists.uses.now ≡ (content p).uses
  pub wires_are : lists.wires.now ≡ (content p).wires
