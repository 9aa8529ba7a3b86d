use Rattle.draft_text.specs.declared.DraftError.TheVariants.{NotEmpty, Nothing}
use Rattle.std.specs.Prelude.{Err}
use lib.ListN.{length}
use mathlib.Core.Path.{◌∙◌, ◌≡◌, refl, sym}
use Rattle.errors.proofs.Laws.{handed_on}
use Rattle.errors.specs.Faults.{each}
use Rattle.draft_text.proofs.Making.{Filed, filed_on, fits, judged, made_right, making_bad, making_differ, making_good, making_long, making_marked, making_wrong, no_faults, told}
use borrow.Author.Rules.{rules}
use Rattle.draft_text.proofs.make.Goals as goal
use Rattle.draft_text.proofs.make.Goals.{After-counts_in, Else-bare-says_empty}

-- no line is wrong
gathered : (c : After-counts_in) → Filed c.args.text.now c.gather.new.t c.gather.new.spans (told c.args.text.now)
gathered c =
    let right = c.in_ok-gather.was in
    record {
      is = made_right _ c.args.out.now c.if-text-gt262144.false (sym c.if-is_marked.false ∙ c.is_marked.ensures) _ c.gather.ensures.m_value right;
      long = c.tables_known.ensures;
      few = (c.gather.ensures.t_after right).0;
      same = (c.gather.ensures.t_after right).1;
    }

-- and it says that it is empty exactly if it is
filed : (c : Else-bare-says_empty) → Filed c.args.text.now c.gather.new.t c.gather.new.spans (judged c.args.text.now)
filed c =
    let gathered : Filed c.args.text.now c.gather.new.t c.gather.new.spans (told c.args.text.now) = let right = c.in_ok-gather.was in
    record {
      is = made_right _ c.args.out.now c.if-text-gt262144.false (sym c.if-is_marked.false ∙ c.is_marked.ensures) _ c.gather.ensures.m_value right;
      long = c.tables_known.ensures;
      few = (c.gather.ensures.t_after right).0;
      same = (c.gather.ensures.t_after right).1;
    } in
    filed_on gathered _ c.counts_in.ensures _ c.is_bare-bare.ensures _ c.says_empty.ensures c.if-bare-says_empty.false

pub returns-then-text-gt262144 : goal.returns-then-text-gt262144
returns-then-text-gt262144 c =
    making_long _ _ c.if-text-gt262144.true

pub returns-then-is_marked : goal.returns-then-is_marked
returns-then-is_marked c =
    making_marked _ _ c.if-text-gt262144.false (sym c.if-is_marked.true ∙ c.is_marked.ensures)

pub gather-requires : goal.gather-requires
unfolding each
gather-requires c =
    let l = c.if-text-gt262144.false in (search rules, refl)

pub returns-in_err-gather : goal.returns-in_err-gather
returns-in_err-gather c =
    making_wrong _ _ c.if-text-gt262144.false (sym c.if-is_marked.false ∙ c.is_marked.ensures) _ c.gather.ensures.m_value _ (handed_on _ _ c.from_residual.ensures.1) c.in_err-gather.was

pub returns-then-bare : goal.returns-then-bare
returns-then-bare c =
    making_differ (gathered (goal.at.returns-then-bare c).After-counts_in) _ c.counts_in.ensures _ c.is_bare-bare.ensures _ c.says_empty.ensures _ c.if-bare-says_empty.true (Err Nothing) (rw c.if-bare.true) refl

pub returns-then-bare-says_empty : goal.returns-then-bare-says_empty
returns-then-bare-says_empty c =
    making_differ (gathered (goal.at.returns-then-bare-says_empty c).After-counts_in) _ c.counts_in.ensures _ c.is_bare-bare.ensures _ c.says_empty.ensures _ c.if-bare-says_empty.true (Err NotEmpty) (rw c.if-bare.false) refl

pub check_records-requires : goal.check_records-requires
check_records-requires c =
    (filed (goal.at.check_records-requires c).Else-bare-says_empty).few

pub line_with-line-requires : goal.line_with-line-requires
line_with-line-requires c =
    let k = c.gather.auto.values in let l = c.if-text-gt262144.false in search rules

pub put_file-requires : goal.put_file-requires
put_file-requires c =
    no_faults (filed (goal.at.put_file-requires c).Else-bare-says_empty) (sym c.in_default.is ∙ c.check_records.ensures)

pub returns-in-Err : goal.returns-in-Err
returns-in-Err c =
    making_bad (filed (goal.at.returns-in-Err c).Else-bare-says_empty) _ _ _ _ _ (sym c.in-Err.is ∙ c.check_records.ensures) c.body.ensures c.record.ensures c.line_with-line.ensures

pub returns : goal.returns
returns c =
    let f = filed (goal.at.returns c).Else-bare-says_empty in
    let right = sym c.in_default.is ∙ c.check_records.ensures in
    let room : length c.args.out.now ≡ 41048 = search rules in
    let long = fits f right c.args.out.now room _ c.put_file.ensures.0 in
    making_good f right _ room _ _ (rw long at c.map_err.ensures.cases) c.put_file.ensures.1
