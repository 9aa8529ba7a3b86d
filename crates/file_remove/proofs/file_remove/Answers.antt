use mathlib.Core.Path.{◌∙◌, sym}
use Rattle.answers.proofs.Edited.{edited_fine, file_edited}
use Rattle.answers.proofs.Read.{after_refused, when_refused}
use Rattle.pattern.specs.Contents.{Pattern, content}
use Rattle.store.specs.Store.{held}
use Rattle.edge.specs.declared.EdgeID.{EdgeID}
use mathlib.Core.List.{[], ◌∷◌}
use Rattle.shell_edits.specs.Answers.{after_remove, next_edge}
use Rattle.shell_edits.specs.Edits.{remove_faults}
use Rattle.file_remove.proofs.file_remove.Goals as goal

pair : {A B : Type 0} → A → B → A × B
pair a b = (a, b)

-- a record from the pairs that a law gives
split : {A B R : Type 0} → (A → B → R) → A × B → R
split f p = f p.0 p.1

pub put_edited-requires : goal.put_edited-requires
put_edited-requires c = λ x h. c.remove_vertex_by_concat_edges-joined.ensures.spans_after_2 (edited_fine _ ((λ (p : Pattern). remove_faults (content p) c.args.n c.args.v) (held c.load.new.t c.load.new.spans)) ((λ (p : Pattern). next_edge p 0) (held c.load.new.t c.load.new.spans)) (sym c.remove_vertex_by_concat_edges-joined.ensures.value) h)

pub returns-in-Err-clause-value : goal.returns-in-Err-clause-value
returns-in-Err-clause-value c = when_refused c.args.file.now _ (sym c.load.ensures.value ∙ c.in-Err.is) _ c.unread.ensures

pub returns-in-Err-clause-out_after : goal.returns-in-Err-clause-out_after
returns-in-Err-clause-out_after c = after_refused c.args.file.now _ (sym c.load.ensures.value ∙ c.in-Err.is) _ _

pub returns-in-Ok : goal.returns-in-Ok
returns-in-Ok c =
    split (λ x y. record { value = x; out_after = y }) (file_edited (λ (a : EdgeID). a.0 ∷ []) c.args.file.now (held c.load.new.t c.load.new.spans) c.load.ensures.spans_after (sym c.load.ensures.value ∙ c.in-Ok.is) (λ (p : Pattern). remove_faults (content p) c.args.n c.args.v) (λ (p : Pattern). next_edge p 0) (λ (p : Pattern). after_remove p c.args.n c.args.v) c.args.out.now c.remove_vertex_by_concat_edges-joined.ensures.value c.remove_vertex_by_concat_edges-joined.ensures.spans_after (pair c.put_edited.ensures.value c.put_edited.ensures.out_after))
