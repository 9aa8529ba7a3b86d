use borrow.Author.Rules.{rules}
use mathlib.Core.Path.{◌≡◌}
use Rattle.remove_vertex_corners.proofs.Places.{place_inside}
use Rattle.remove_vertex_corners.specs.Corners.{place_of}
use Rattle.remove_vertex_corners.proofs.end_place.Goals as goal

pub returns-clause-upper_bound : goal.returns-clause-upper_bound
returns-clause-upper_bound c =
    let is : c.unwrap_or.result ≡ place_of c.args.wire.now.ends.fronts.now c.args.wire.now.ends.backs.now c.args.v.0 c.args.wire.now.uses.now = search rules in
    rw is (place_inside _ _ _ _ c.requires)
