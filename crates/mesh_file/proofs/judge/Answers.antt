-- Refused for its counts or for a record, or written.
use Prim.Native.Nat.{ℕ}
use mathlib.Core.List.{List, []}
use mathlib.Core.Path.{◌∙◌, ◌≡◌, ap, sym}
use Rattle.errors.proofs.Laws.{accepted_none, handed_on, none_both}
use Rattle.pattern.proofs.Counts.{Full}
use Rattle.pattern.specs.Checks.{content_faults, count_faults}
use Rattle.pattern.specs.Contents.{Pattern, content}
use Rattle.store.proofs.View.{held_full}
use Rattle.store.specs.Store.{held}
use Rattle.mesh_file.specs.Judging.{with_rest}
use Rattle.mesh_file.proofs.Answers.{judged_bad, judged_good, judged_many}
use Rattle.mesh_file.proofs.judge.Goals as goal

pub returns-in_err-check_counts : goal.returns-in_err-check_counts
returns-in_err-check_counts c = λ m index k. (judged_many k _ c.counts_of-counts.ensures _ _ _ (handed_on _ _ c.from_residual.ensures.1) c.check_counts.ensures c.in_err-check_counts.was, k)

pub put_rest-requires : goal.put_rest-requires
put_rest-requires c = let counts : List ℕ = c.counts_of-counts.result in
    let few : count_faults (counts) ≡ [] = accepted_none _ (sym c.check_counts.ensures ∙ c.in_ok-check_counts.was) in
    few

pub check_records-requires : goal.check_records-requires
check_records-requires c = let counts : List ℕ = c.counts_of-counts.result in
    let lent : Pattern = held c.args.t.now c.args.spans.now in
    let filled : Pattern = held c.put_rest.new.t c.args.spans.now in
    let rest : filled ≡ with_rest (lent) (counts) = c.put_rest.ensures c.args.spans.now in
    let few : count_faults (counts) ≡ [] = accepted_none _ (sym c.check_counts.ensures ∙ c.in_ok-check_counts.was) in
    let stored : count_faults (filled).counts ≡ [] = ap (λ (p : Pattern). count_faults p.counts) (rest) ∙ few in
    stored

pub returns-in_err-check_records : goal.returns-in_err-check_records
returns-in_err-check_records c = let counts : List ℕ = c.counts_of-counts.result in
    let lent : Pattern = held c.args.t.now c.args.spans.now in
    let filled : Pattern = held c.put_rest.new.t c.args.spans.now in
    let full : Full (lent) = held_full c.args.t.now c.args.spans.now c.tables_known.ensures in
    let rest : filled ≡ with_rest (lent) (counts) = c.put_rest.ensures c.args.spans.now in
    let few : count_faults (counts) ≡ [] = accepted_none _ (sym c.check_counts.ensures ∙ c.in_ok-check_counts.was) in
    λ m index k. judged_bad k _ c.counts_of-counts.ensures _ (full) (few) _ (rest) _ _ (handed_on _ _ c.from_residual-in_err-check_records.ensures.1) c.check_records.ensures c.in_err-check_records.was

pub put_file-requires : goal.put_file-requires
put_file-requires c = let counts : List ℕ = c.counts_of-counts.result in
    let lent : Pattern = held c.args.t.now c.args.spans.now in
    let filled : Pattern = held c.put_rest.new.t c.args.spans.now in
    let rest : filled ≡ with_rest (lent) (counts) = c.put_rest.ensures c.args.spans.now in
    let few : count_faults (counts) ≡ [] = accepted_none _ (sym c.check_counts.ensures ∙ c.in_ok-check_counts.was) in
    let stored : count_faults (filled).counts ≡ [] = ap (λ (p : Pattern). count_faults p.counts) (rest) ∙ few in
    let right : content_faults (content (filled)) ≡ [] = accepted_none _ (sym c.check_records.ensures ∙ c.in_ok-check_records.was) in
    none_both (count_faults (filled).counts) (content_faults (content (filled))) (stored) (right)

pub returns : goal.returns
returns c = let counts : List ℕ = c.counts_of-counts.result in
    let lent : Pattern = held c.args.t.now c.args.spans.now in
    let filled : Pattern = held c.put_rest.new.t c.args.spans.now in
    let full : Full (lent) = held_full c.args.t.now c.args.spans.now c.tables_known.ensures in
    let rest : filled ≡ with_rest (lent) (counts) = c.put_rest.ensures c.args.spans.now in
    let few : count_faults (counts) ≡ [] = accepted_none _ (sym c.check_counts.ensures ∙ c.in_ok-check_counts.was) in
    let right : content_faults (content (filled)) ≡ [] = accepted_none _ (sym c.check_records.ensures ∙ c.in_ok-check_records.was) in
    let file = c.put_file.ensures in
    λ m index k. judged_good k _ c.counts_of-counts.ensures _ (full) (few) _ (rest) (right) _ _ _ c.answer_of.ensures file.0 file.1
