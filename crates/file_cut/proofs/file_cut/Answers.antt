use mathlib.Core.Path.{◌∙◌, sym}
use Rattle.answers.proofs.Edited.{edited_fine, file_edited}
use Rattle.answers.proofs.Read.{after_refused, when_refused}
use Rattle.pattern.specs.Contents.{Pattern, content}
use Rattle.store.specs.Store.{held}
use Rattle.edge.specs.declared.EdgeID.{EdgeID}
use mathlib.Core.List.{[], ◌∷◌}
use Rattle.curve.specs.Curves.{parameter_of}
use Rattle.shell_edits.specs.Answers.{after_cut, next_edge}
use Rattle.shell_edits.specs.Edits.{cut_faults}
use Rattle.file_cut.proofs.file_cut.Goals as goal

abbrev halves : Pattern → EdgeID × EdgeID
halves p = (next_edge p 0, next_edge p 1)

pair : {A B : Type 0} → A → B → A × B
pair a b = (a, b)

-- a record from the pairs that a law gives
split : {A B R : Type 0} → (A → B → R) → A × B → R
split f p = f p.0 p.1

pub put_edited-requires : goal.put_edited-requires
put_edited-requires c = λ x h. c.cut_edge-cut.ensures.spans_after_2 (edited_fine _ ((λ (p : Pattern). cut_faults (content p) c.args.n c.args.e c.args.v (parameter_of c.args.bits)) (held c.load.new.t c.load.new.spans)) (halves (held c.load.new.t c.load.new.spans)) (sym (rw c.parameter_of.ensures at c.cut_edge-cut.ensures.value)) h)

pub returns-in-Err-clause-value : goal.returns-in-Err-clause-value
returns-in-Err-clause-value c = when_refused c.args.file.now _ (sym c.load.ensures.value ∙ c.in-Err.is) _ c.unread.ensures

pub returns-in-Err-clause-out_after : goal.returns-in-Err-clause-out_after
returns-in-Err-clause-out_after c = after_refused c.args.file.now _ (sym c.load.ensures.value ∙ c.in-Err.is) _ _

pub returns-in-Ok : goal.returns-in-Ok
returns-in-Ok c =
    split (λ x y. record { value = x; out_after = y }) (file_edited (λ (p : EdgeID × EdgeID). p.0.0 ∷ p.1.0 ∷ []) c.args.file.now (held c.load.new.t c.load.new.spans) c.load.ensures.spans_after (sym c.load.ensures.value ∙ c.in-Ok.is) (λ (p : Pattern). cut_faults (content p) c.args.n c.args.e c.args.v (parameter_of c.args.bits)) halves (λ (p : Pattern). after_cut p c.args.n c.args.e c.args.v (parameter_of c.args.bits)) c.args.out.now (rw c.parameter_of.ensures at c.cut_edge-cut.ensures.value) (rw c.parameter_of.ensures at c.cut_edge-cut.ensures.spans_after) (pair c.put_edited.ensures.value c.put_edited.ensures.out_after))
