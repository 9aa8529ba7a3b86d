use Rattle.mesh.specs.Reading.{close_face}
use Rattle.mesh_read.proofs.Lines.{kept_closed}
use Rattle.mesh_read.proofs.close_face.Goals as goal

pub returns : goal.returns
returns c = λ st f h some.
    let g = f.going h in
    let added = c.add_face-r.ensures _ _ c.add_side-g.new.spans _ (c.add_side-g.ensures st.mesh st.face.uses g.kept) in
    c.fresh.ensures st.line (close_face st) _ _ f.line (kept_closed g some _ _ _ added)
