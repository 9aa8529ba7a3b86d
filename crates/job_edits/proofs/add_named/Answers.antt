-- The edit by the wire that was stored.
use mathlib.Core.List.{List, map}
use mathlib.Core.Path.{◌∙◌, ap}
use Prim.Native.Nat.{ℕ}
use lib.ListN.{length}
use lib.Seq.{sets}
use Rattle.file_face_edits.specs.FileFaceEdits.{file_add, file_add_out}
use Rattle.lists.specs.Lists.{flat}
use Rattle.job_edits.proofs.add_named.Goals as goal

pub returns-clause-value : goal.returns-clause-value
returns-clause-value c = let args = c.args in
    c.file_add.ensures.value ∙ ap (λ (w : List ℕ). file_add args.file.now args.face w (length args.uses.now) (length args.lens.now)) c.put_wire.ensures

pub returns-clause-uses_after : goal.returns-clause-uses_after
returns-clause-uses_after c = let args = c.args in
    c.file_add.ensures.uses_after ∙ ap (λ (w : List ℕ). sets args.uses.now 0 (flat (file_add_out args.file.now args.face w (length args.uses.now) (length args.lens.now)))) c.put_wire.ensures

pub returns-clause-lens_after : goal.returns-clause-lens_after
returns-clause-lens_after c = let args = c.args in
    c.file_add.ensures.lens_after ∙ ap (λ (w : List ℕ). sets args.lens.now 0 (map length (file_add_out args.file.now args.face w (length args.uses.now) (length args.lens.now)))) c.put_wire.ensures
