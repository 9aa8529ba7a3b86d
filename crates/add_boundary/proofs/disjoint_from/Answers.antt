-- The uses are stamped; then a point of the wire that has the stamp is shared.
use mathlib.Core.Path.{◌≡◌}
use lib.ListN.{length}
use Rattle.add_boundary.proofs.Laws.{apart_says}
use Rattle.lists.specs.Marks.{Below}
use Rattle.add_boundary.proofs.disjoint_from.Goals as goal

pub returns : goal.returns
returns c =
    let long : length c.next.new.self.marks ≡ 2048 = rw c.next.ensures.marks_after c.args.marks.now.long in
    let below : Below c.next.new.self.stamp c.next.new.self.marks = rw (c.next.ensures.marks_after, c.next.ensures.stamp_after) c.args.marks.now.below in
    apart_says c.args.wire.now c.args.own.now _ _ _ _ c.requires.wire_value long below c.stamp_points.ensures.marks_after (rw c.stamp_points.ensures.stamp_after at c.stamp_points-2.ensures.value)
