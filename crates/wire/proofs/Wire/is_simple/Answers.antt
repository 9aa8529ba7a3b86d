-- The stamp is above all marks, so a point is met again if it stands twice in the wire.
use mathlib.Core.Path.{◌≡◌, sym}
use lib.ListN.{length}
use Rattle.lists.specs.Marks.{Below}
use Rattle.wire.proofs.Laws.{once_says}
use Rattle.wire.proofs.Wire.is_simple.Goals as goal

pub returns-clause-value : goal.returns-clause-value
returns-clause-value c = let w = c.args.self.now in
    let long : length c.next.new.self.marks ≡ 2048 = rw c.next.ensures.marks_after c.args.marks.now.long in
    let below : Below c.next.new.self.stamp c.next.new.self.marks = rw (c.next.ensures.marks_after, c.next.ensures.stamp_after) c.args.marks.now.below in
    sym (once_says w.ends.fronts.now w.ends.backs.now w.uses.now _ _ _ w.named long below c.stamp_points.ensures.value)
