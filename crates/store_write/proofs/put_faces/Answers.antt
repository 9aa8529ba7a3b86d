use mathlib.Core.Path.{refl}
use native.Mathlib.Omega.{arith}
use Rattle.pattern.specs.Contents.{zero_face}
use Rattle.pattern_file.specs.File.{face_bytes}
use Rattle.lists.proofs.Flat.{get_d_tabulate}
use Rattle.lists.proofs.Laws.{length_tabulate}
use Rattle.lists.proofs.Sets.{laid_all, laid_next, laid_room, laid_start}
use Rattle.store.specs.Store.{face_in}
use Rattle.store_write.proofs.put_faces.Goals as goal

pub loop-k-init : goal.loop-k-init
loop-k-init c = laid_start face_bytes 4 _ _ _ _ (λ x. refl) (omega (arith, length_tabulate 256 (face_in c.args.t.now)))

pub put_face-requires : goal.put_face-requires
put_face-requires c = laid_room face_bytes 4 _ _ _ _ _ _ c.loop-k.invariant c.requires.0 c.loop-k-test.true

pub loop-k-preserved : goal.loop-k-preserved
loop-k-preserved c = laid_next face_bytes 4 _ _ _ _ _ _ c.loop-k.invariant _ zero_face c.loop-k-test.true
    (rw (get_d_tabulate 256 (face_in c.args.t.now) c.loop-k.k zero_face (omega arith)) (rw c.face_in.ensures at c.put_face.ensures))

pub returns : goal.returns
returns c = laid_all face_bytes 4 _ _ _ _ _ _ c.loop-k.invariant c.loop-k-test.false
