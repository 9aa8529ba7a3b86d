-- Four lists, one after the other.
use Rattle.cut_face_results.proofs.Results.{two_stored}
use Rattle.cut_face_results.proofs.put_two.Goals as goal

pub returns : goal.returns
returns c = two_stored _ _ _ _ c.requires.0 c.copy_to.ensures c.copy_to-2.ensures c.copy_to-3.ensures c.put_turned.ensures
