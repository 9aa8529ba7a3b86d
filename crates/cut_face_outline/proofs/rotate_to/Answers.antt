-- The rest of the outline, then its beginning.
use Rattle.cut_face_outline.proofs.Laws.{rotated_stored}
use Rattle.cut_face_outline.proofs.rotate_to.Goals as goal

pub returns : goal.returns
returns c = rotated_stored _ _ _ c.requires.0 c.copy_to.ensures c.copy_to-2.ensures
