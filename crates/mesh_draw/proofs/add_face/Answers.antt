-- The length of the wire stands in the table up to the limit.
use Rattle.mesh_draw.proofs.Faces.{kept_face, kept_face_over, kept_face_wrong}
use Rattle.store.proofs.View.{held_full}
use Rattle.mesh_draw.proofs.add_face.Goals as goal

pub returns-then-n-ge1024 : goal.returns-then-n-ge1024
returns-then-n-ge1024 c = λ m us spans index k.
    kept_face_over k c.if-n-ge1024.true

pub returns-then-uses-begun : goal.returns-then-uses-begun
returns-then-uses-begun c = λ m us spans index k.
    kept_face_wrong k c.if-n-ge1024.false c.if-uses-begun.true

pub returns : goal.returns
returns c = λ m us spans index k.
    let args = c.args in
    kept_face k c.if-n-ge1024.false (held_full args.t.now spans c.tables_known.ensures).wires c.saturated.ensures (c.store_wires.ensures spans)
