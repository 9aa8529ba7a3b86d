-- A line that is too long, has no name of a job, a wrong word or too few; or a job.
use native.Mathlib.Omega.{arith}
use lib.ListN.{length-take}
use Rattle.jobs.proofs.Lines.{Named, Valued, answered, job_fits, job_whole, missing_line, no_name_line, no_word_line, too_long, valued, valued_few, valued_room}
use borrow.Author.Rules.{rules}
use Rattle.jobs.proofs.apply.Goals as goal
use Rattle.jobs.proofs.apply.Goals.{After-first_of-first, After-match_job-m}

pair : {A B : Type 0} → A → B → A × B
pair a b = (a, b)

-- a record from the pairs that a law gives
split2 : {A B R : Type 0} → (A → B → R) → A × B → R
split2 f p = f p.0 p.1

begun : (c : After-first_of-first) → Named c.args.line.now c.trimmed.result.now c.first_of-first.result.task c.first_of-first.result.rest.now
begun c = record { few = c.if-line-gt65536.false; trim = c.trimmed.ensures; job = c.first_of-first.ensures.0; left = c.first_of-first.ensures.1 }

read : (c : After-match_job-m) → Valued c.args.line.now c.in-Some.task c.match_job-m.result.words c.match_job-m.result.all c.match_job-m.new.out
read c =
    let begun : Named c.args.line.now c.trimmed.result.now c.first_of-first.result.task c.first_of-first.result.rest.now = record { few = c.if-line-gt65536.false; trim = c.trimmed.ensures; job = c.first_of-first.ensures.0; left = c.first_of-first.ensures.1 } in
    valued begun _ c.in-Some.is _ _ _ c.match_job-m.ensures.out_after c.match_job-m.ensures.words_value c.match_job-m.ensures.all_value

pub returns-then-line-gt65536 : goal.returns-then-line-gt65536
returns-then-line-gt65536 c =
    split2 (λ x y. record { text_after = x; out_after = y }) (answered _ _ _ (too_long _ _ _ c.if-line-gt65536.true) _ _ _ (c.put_text.ensures.0, omega (arith, c.put_text.ensures.1)))

pub returns-in_default : goal.returns-in_default
returns-in_default c =
    split2 (λ x y. record { text_after = x; out_after = y }) (answered _ _ _ (no_name_line (begun (goal.at.returns-in_default c).After-first_of-first) _ _ c.in_default.is) _ _ _ c.put_unnamed.ensures)

pub returns-then-not-m : goal.returns-then-not-m
returns-then-not-m c =
    split2 (λ x y. record { text_after = x; out_after = y }) (answered _ _ _ (no_word_line (read (goal.at.returns-then-not-m c).After-match_job-m) _ _ c.if-not-m.true) _ _ _ c.put_no_job.ensures)

pub returns-then-n-needed : goal.returns-then-n-needed
returns-then-n-needed c =
    split2 (λ x y. record { text_after = x; out_after = y }) (answered _ _ _ (missing_line (read (goal.at.returns-then-n-needed c).After-match_job-m) c.if-not-m.false _ _ _ c.needed.ensures.0 c.if-n-needed.true) _ _ _ c.put_no_job-then-n-needed.ensures)

pub do_job-requires : goal.do_job-requires
do_job-requires c =
    let e = job_fits (read (goal.at.do_job-requires c).After-match_job-m) c.if-not-m.false _ c.needed.ensures.0 c.if-n-needed.false in
    (e.0, e.1, search rules)

pub returns : goal.returns
returns c =
    let args = c.args in
    let r = (read (goal.at.returns c).After-match_job-m) in
    split2 (λ x y. record { text_after = x; out_after = y }) (job_whole r c.if-not-m.false _ c.needed.ensures.0 c.if-n-needed.false args.file.now args.out.now _ _ _ _ _ (pair c.do_job.ensures.text_after c.do_job.ensures.out_after))

pub overflow_add-n : goal.overflow_add-n
overflow_add-n c =
    omega (arith, valued_few (read (goal.at.overflow_add-n c).After-match_job-m))

pub slice_bounds-values-end : goal.slice_bounds-values-end
slice_bounds-values-end c =
    let h = valued_room (read (goal.at.slice_bounds-values-end c).After-match_job-m) in omega (arith, h)

pub slice_bounds-do_job-end : goal.slice_bounds-do_job-end
slice_bounds-do_job-end c =
    let h = valued_room (read (goal.at.slice_bounds-do_job-end c).After-match_job-m) in omega (arith, h, length-take c.match_job-m.result.words c.match_job-m.new.out)
