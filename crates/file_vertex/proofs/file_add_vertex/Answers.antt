use mathlib.Core.Path.{◌∙◌, sym}
use Rattle.answers.proofs.Edited.{edited_fine, file_edited}
use Rattle.answers.proofs.Read.{after_refused, when_refused}
use Rattle.pattern.specs.Contents.{Pattern, content}
use Rattle.store.specs.Store.{held}
use mathlib.Core.List.{[], ◌∷◌}
use lib.ListN.{length}
use Rattle.vertex.specs.declared.VertexID.{VertexID}
use Rattle.shell_edits.specs.Answers.{after_vertex}
use Rattle.shell_edits.specs.Edits.{vertex_faults}
use Rattle.file_vertex.proofs.file_add_vertex.Goals as goal

abbrev next_point : Pattern → VertexID
next_point p = record { 0 = length (content p).points }

pair : {A B : Type 0} → A → B → A × B
pair a b = (a, b)

-- a record from the pairs that a law gives
split : {A B R : Type 0} → (A → B → R) → A × B → R
split f p = f p.0 p.1

pub put_edited-requires : goal.put_edited-requires
put_edited-requires c = λ x h. c.add_vertex-added.ensures.spans_after_2 (edited_fine _ ((λ (p : Pattern). vertex_faults (content p) c.args.label) (held c.load.new.t c.load.new.spans)) (next_point (held c.load.new.t c.load.new.spans)) (sym c.add_vertex-added.ensures.value) h)

pub returns-in-Err-clause-value : goal.returns-in-Err-clause-value
returns-in-Err-clause-value c = when_refused c.args.file.now _ (sym c.load.ensures.value ∙ c.in-Err.is) _ c.unread.ensures

pub returns-in-Err-clause-out_after : goal.returns-in-Err-clause-out_after
returns-in-Err-clause-out_after c = after_refused c.args.file.now _ (sym c.load.ensures.value ∙ c.in-Err.is) _ _

pub returns-in-Ok : goal.returns-in-Ok
returns-in-Ok c =
    split (λ x y. record { value = x; out_after = y }) (file_edited (λ (v : VertexID). v.0 ∷ []) c.args.file.now (held c.load.new.t c.load.new.spans) c.load.ensures.spans_after (sym c.load.ensures.value ∙ c.in-Ok.is) (λ (p : Pattern). vertex_faults (content p) c.args.label) next_point (λ (p : Pattern). after_vertex p c.args.label) c.args.out.now c.add_vertex-added.ensures.value c.add_vertex-added.ensures.spans_after (pair c.put_edited.ensures.value c.put_edited.ensures.out_after))
