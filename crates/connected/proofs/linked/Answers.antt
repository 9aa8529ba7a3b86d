-- The trees stand for the links of the uses, then for those of the wires too.
use mathlib.Core.Path.{◌∙◌}
use native.Mathlib.Omega.{arith}
use Rattle.connected.proofs.Answer.{tree_answer, tree_faces, tree_start, tree_uses}
use Rattle.connected.proofs.linked.Goals as goal

pub start-requires : goal.start-requires
start-requires c = c.requires.few

pub join_uses-requires : goal.join_uses-requires
join_uses-requires c = rw c.start.ensures.count_after c.requires.ended

pub join_faces-requires : goal.join_faces-requires
join_faces-requires c = let pre = c.requires in rw (c.join_uses.ensures.2, c.start.ensures.count_after) (pre.counted, pre.starts)

pub one_root-requires : goal.one_root-requires
one_root-requires c = rw (c.join_faces.ensures.2, c.join_uses.ensures.2, c.start.ensures.count_after) c.requires.ended

pub returns : goal.returns
returns c = let pre = c.requires in
    let g = tree_start pre _ _ (c.start.ensures.parents_after, c.start.ensures.sizes_after) in
    let h = tree_uses pre g (c.join_uses.ensures.0, c.join_uses.ensures.1) in
    let t = tree_faces pre h (c.join_faces.ensures.0, c.join_faces.ensures.1) in
    c.one_root.ensures ∙ tree_answer pre t
