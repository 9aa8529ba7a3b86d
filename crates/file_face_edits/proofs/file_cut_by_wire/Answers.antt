use Rattle.std.proofs.Common.{rules}
use mathlib.Core.List.{map}
use mathlib.Core.Path.{◌∙◌, refl}
use lib.ListN.{length}
use Rattle.answers.proofs.Read.{flat_none, list_on, value_on}
use Rattle.face_edits.specs.FaceAnswers.{cut_face_answer, cut_face_out}
use Rattle.lists.specs.Lists.{flat}
use Rattle.pattern.specs.Contents.{Pattern}
use Rattle.file_face_edits.proofs.file_cut_by_wire.Goals as goal

pub returns-clause-value : goal.returns-clause-value
returns-clause-value c = value_on c.args.file.now c.on_file.ensures (λ (p : Pattern). cut_face_answer p c.args.f c.args.wire.now (length c.args.uses.now) (length c.args.lens.now)) (λ p e es h. rw h) (λ t z r o k. search (◌∙◌) parts 12)

pub returns-clause-uses_after : goal.returns-clause-uses_after
returns-clause-uses_after c = list_on flat flat_none c.args.file.now c.args.uses.now c.on_file.ensures (λ (p : Pattern). cut_face_out p c.args.f c.args.wire.now (length c.args.uses.now) (length c.args.lens.now)) (λ p e es h. rw h) (λ f. f.2) refl (λ same. search rules) (λ t z r o k. (search parts 12, search (◌∙◌) parts 12))

pub returns-clause-lens_after : goal.returns-clause-lens_after
returns-clause-lens_after c = list_on (map length) refl c.args.file.now c.args.lens.now c.on_file.ensures (λ (p : Pattern). cut_face_out p c.args.f c.args.wire.now (length c.args.uses.now) (length c.args.lens.now)) (λ p e es h. rw h) (λ f. f.3) refl (λ same. search rules) (λ t z r o k. (search parts 12, search (◌∙◌) parts 12))
