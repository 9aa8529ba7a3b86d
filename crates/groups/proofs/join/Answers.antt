-- Two with the same parent are in one tree; the others are joined by their roots.
use Rattle.groups.proofs.Climbing.{climbs_in}
use Rattle.groups.proofs.Joining.{joined_alike}
use borrow.Author.Rules.{rules}
use Rattle.groups.proofs.join.Goals as goal

pub offset_bounds-parents-i : goal.offset_bounds-parents-i
offset_bounds-parents-i c = let h = climbs_in _ _ c.requires.left in search rules

pub bounds-parents-i : goal.bounds-parents-i
bounds-parents-i c = climbs_in _ _ c.requires.left

pub offset_bounds-parents-j : goal.offset_bounds-parents-j
offset_bounds-parents-j c = let h = climbs_in _ _ c.requires.right in search rules

pub bounds-parents-j : goal.bounds-parents-j
bounds-parents-j c = climbs_in _ _ c.requires.right

pub returns-then-parents-i : goal.returns-then-parents-i
returns-then-parents-i c = let p = joined_alike _ _ _ _ c.requires c.if-parents-i.true in record { parents_after = p.0; sizes_after = p.1 }
