-- The counts for each kind of line.
use Rattle.pattern.proofs.Counts.{Limited, limited}
use Rattle.draft_parts.proofs.Counts.{after_edge, after_face, after_face_few, after_none, after_point, after_shell, after_shell_few, rest_whole}
use borrow.Author.Rules.{rules}
use Rattle.draft_parts.proofs.counts_after.Goals as goal

pub overflow_add-after : goal.overflow_add-after
overflow_add-after c = let limits : Limited c.args.counts = limited c.args.counts (search rules) c.requires in
    let l = (limits).points in search rules

pub returns-in-Point : goal.returns-in-Point
returns-in-Point c = let args = c.args in
    after_point args.kind args.v.now args.counts (search rules) c.in-Point.is

pub overflow_add-after-in-Edge : goal.overflow_add-after-in-Edge
overflow_add-after-in-Edge c = let limits : Limited c.args.counts = limited c.args.counts (search rules) c.requires in
    let l = (limits).edges in search rules

pub returns-in-Edge : goal.returns-in-Edge
returns-in-Edge c = let args = c.args in
    after_edge args.kind args.v.now args.counts (search rules) c.in-Edge.is

pub overflow_add-after-in-Face : goal.overflow_add-after-in-Face
overflow_add-after-in-Face c = let limits : Limited c.args.counts = limited c.args.counts (search rules) c.requires in
    let l = (limits).faces in search rules

pub returns-then-n-lt3 : goal.returns-then-n-lt3
returns-then-n-lt3 c = let args = c.args in
    after_face_few args.kind args.v.now args.counts (search rules) c.in-Face.is c.if-n-lt3.true

pub overflow_add-after-in-Face-2 : goal.overflow_add-after-in-Face-2
overflow_add-after-in-Face-2 c = let limits : Limited c.args.counts = limited c.args.counts (search rules) c.requires in
    let l = (limits).uses in search rules

pub overflow_add-after-in-Face-3 : goal.overflow_add-after-in-Face-3
overflow_add-after-in-Face-3 c = let limits : Limited c.args.counts = limited c.args.counts (search rules) c.requires in
    let l = (limits).wires in search rules

pub returns-else-n-lt3 : goal.returns-else-n-lt3
returns-else-n-lt3 c = let args = c.args in let w = rest_whole args.v.now 3 in
    after_face args.kind args.v.now args.counts (search rules) _ _ c.in-Face.is (rw w at c.count_wires-more.ensures.0) (rw w at c.count_wires-more.ensures.1)

pub overflow_add-after-in-Shell : goal.overflow_add-after-in-Shell
overflow_add-after-in-Shell c = let limits : Limited c.args.counts = limited c.args.counts (search rules) c.requires in
    let l = (limits).shells in search rules

pub returns-then-n-lt2 : goal.returns-then-n-lt2
returns-then-n-lt2 c = let args = c.args in
    after_shell_few args.kind args.v.now args.counts (search rules) c.in-Shell.is c.if-n-lt2.true

pub overflow_add-after-in-Shell-2 : goal.overflow_add-after-in-Shell-2
overflow_add-after-in-Shell-2 c = let limits : Limited c.args.counts = limited c.args.counts (search rules) c.requires in
    let l = (limits).listings in search rules

pub returns-else-n-lt2 : goal.returns-else-n-lt2
returns-else-n-lt2 c = let args = c.args in
    after_shell args.kind args.v.now args.counts (search rules) c.in-Shell.is c.if-n-lt2.false

pub returns-in_default : goal.returns-in_default
returns-in_default c = after_none _ _ _ (search rules) c.in_default.not-Point c.in_default.not-Edge c.in_default.not-Face c.in_default.not-Shell
