use Rattle.draft_parts.proofs.Added.{none_added}
use Rattle.draft_parts.specs.Parts.{needed_words, parts_of}
use Rattle.store.proofs.View.{held_seven}
use Rattle.store.specs.Store.{held}
use Rattle.draft_parts.proofs.add_values.Goals as goal

pub add_point-requires : goal.add_point-requires
unfolding needed_words parts_of
add_point-requires c = rw c.in-Point.is at c.requires

pub returns-in-Point : goal.returns-in-Point
unfolding parts_of
returns-in-Point c = rw c.in-Point.is (c.add_point.ensures c.args.spans.now)

pub add_edge-requires : goal.add_edge-requires
unfolding needed_words parts_of
add_edge-requires c = rw c.in-Edge.is at c.requires

pub returns-in-Edge : goal.returns-in-Edge
unfolding parts_of
returns-in-Edge c = rw c.in-Edge.is c.add_edge.ensures

pub add_face-requires : goal.add_face-requires
unfolding needed_words parts_of
add_face-requires c = rw c.in-Face.is at c.requires

pub returns-in-Face : goal.returns-in-Face
unfolding parts_of
returns-in-Face c = rw c.in-Face.is (c.add_face.ensures c.args.spans.now)

pub add_shell-requires : goal.add_shell-requires
unfolding needed_words parts_of
add_shell-requires c = rw c.in-Shell.is at c.requires

pub returns-in-Shell : goal.returns-in-Shell
unfolding parts_of
returns-in-Shell c = rw c.in-Shell.is (c.add_shell.ensures c.args.spans.now)

pub returns-in_default : goal.returns-in_default
returns-in_default c = none_added (held c.args.t.now c.args.spans.now) _ c.args.v.now (held_seven c.args.t.now c.args.spans.now c.tables_known.ensures) c.in_default.not-Point c.in_default.not-Edge c.in_default.not-Face c.in_default.not-Shell
