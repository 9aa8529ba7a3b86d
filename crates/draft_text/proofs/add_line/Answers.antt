use mathlib.Core.Path.{◌∙◌, sym}
use Rattle.errors.proofs.Laws.{handed_on}
use Rattle.text.specs.Text.{words}
use Rattle.draft_text.proofs.Adding.{Counted, Ready, few_counts, line_comment, line_limit, line_right, line_room, line_wrong}
use Rattle.draft_text.proofs.Lines.{sliced}
use Rattle.draft_text.specs.Gathering.{Read}
use Prim.Native.Nat.{◌-◌}
use lib.ListN.{take, drop}
use Rattle.draft_text.proofs.add_line.Goals as goal
use Rattle.draft_text.proofs.add_line.Goals.{After-counts_after-after, After-counts_in-counts, In_default}

-- a record from the pairs that a law gives
split2 : {A B R : Type 0} → (A → B → R) → A × B → R
split2 f p = f p.0 p.1

ready : (c : After-counts_in-counts) → Ready c.args.t.now c.args.spans.now c.counts_in-counts.result
ready c =
    record { long = c.tables_known.ensures; few = c.requires.1; counts_are = c.counts_in-counts.ensures }

-- the values of the line are read
read : (c : In_default) → Read (words c.args.line.now) c.read_line-read.result.words c.read_line-read.new.values
read c =
    c.read_line-read.ensures.read c.in_ok-read.was c.in_default.not-Comment

counted : (c : After-counts_after-after) → Counted c.args.t.now c.args.spans.now c.counts_in-counts.result (words c.args.line.now) c.read_line-read.result.kind (take (c.read_line-read.result.words - 0) (drop 0 c.read_line-read.new.values)) c.counts_after-after.result
counted c =
    let ready : Ready c.args.t.now c.args.spans.now c.counts_in-counts.result = record { long = c.tables_known.ensures; few = c.requires.1; counts_are = c.counts_in-counts.ensures } in
    let read : Read (words c.args.line.now) c.read_line-read.result.words c.read_line-read.new.values = c.read_line-read.ensures.read c.in_ok-read.was c.in_default.not-Comment in
    record {
      ready = ready;
      right = sym c.in_ok-read.was ∙ c.read_line-read.ensures.kind_value.1;
      kind = c.read_line-read.ensures.kind_value.0;
      other = c.in_default.not-Comment;
      are = sliced c.read_line-read.result.words c.read_line-read.new.values _ read.are;
      counts_are = c.counts_after-after.ensures;
    }

pub returns-in_err-read : goal.returns-in_err-read
returns-in_err-read c =
    split2 (λ x y. record { value = x; t_after = y }) (line_wrong (ready (goal.at.returns-in_err-read c).After-counts_in-counts) (words _) _ _ _ (handed_on _ _ c.from_residual.ensures.1) (sym c.in_err-read.was ∙ c.read_line-read.ensures.kind_value.1))

pub returns-in-Comment : goal.returns-in-Comment
returns-in-Comment c =
    split2 (λ x y. record { value = x; t_after = y }) (line_comment (ready (goal.at.returns-in-Comment c).After-counts_in-counts) (words _) _ (sym c.in_ok-read.was ∙ c.read_line-read.ensures.kind_value.1) c.read_line-read.ensures.kind_value.0 c.in-Comment.is)

pub slice_bounds-counts_after-end : goal.slice_bounds-counts_after-end
slice_bounds-counts_after-end c =
    (read (goal.at.slice_bounds-counts_after-end c).In_default).few

pub counts_after-after-requires : goal.counts_after-after-requires
counts_after-after-requires c =
    few_counts (ready (goal.at.counts_after-after-requires c).After-counts_in-counts)

pub slice_bounds-add_values-end : goal.slice_bounds-add_values-end
slice_bounds-add_values-end c =
    (read (goal.at.slice_bounds-add_values-end c).In_default).few

pub add_values-requires : goal.add_values-requires
add_values-requires c =
    line_room (counted (goal.at.add_values-requires c).After-counts_after-after) (sym c.in_ok-check_counts.was ∙ c.check_counts.ensures) (read (goal.at.add_values-requires c).In_default).needed

pub returns-in_err-check_counts : goal.returns-in_err-check_counts
returns-in_err-check_counts c =
    split2 (λ x y. record { value = x; t_after = y }) (line_limit (counted (goal.at.returns-in_err-check_counts c).After-counts_after-after) _ _ _ (handed_on _ _ c.from_residual-in_err-check_counts.ensures.1) (sym c.in_err-check_counts.was ∙ c.check_counts.ensures))

pub returns : goal.returns
returns c =
    split2 (λ x y. record { value = x; t_after = y }) (line_right (counted (goal.at.returns c).After-counts_after-after) (sym c.in_ok-check_counts.was ∙ c.check_counts.ensures) c.add_values.new.t c.add_values.new.spans c.add_values.ensures)
