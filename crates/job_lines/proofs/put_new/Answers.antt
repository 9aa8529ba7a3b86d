-- Two numbers or one, of edges or of a point.
use mathlib.Core.List.{◌++◌}
use native.Mathlib.Omega.{arith}
use Rattle.answer_lines.proofs.Bounds.{put_front}
use Rattle.job_lines.proofs.Answers.{edges_two, joined_one, point_one, removed_one}
use Rattle.lines.proofs.Bounds.{number_short}
use Rattle.lines.specs.Parts.{word_number}
use Rattle.lists.proofs.Sets.{put_then}
use Rattle.output.proofs.Laws.{decimal_20}
use Rattle.output.specs.Text.{ascii, decimal}
use Rattle.job_lines.proofs.put_new.Goals as goal

pub put_field-at-requires : goal.put_field-at-requires
put_field-at-requires c = omega (arith, decimal_20 c.args.first (omega arith))

pub put_number-requires : goal.put_number-requires
put_number-requires c = let args = c.args in
    omega (arith, decimal_20 args.first (omega arith), number_short (ascii " ") 20 _ (decimal_20 args.second (omega arith)))

pub returns-in-Cut : goal.returns-in-Cut
returns-in-Cut c = let args = c.args in
    rw c.in-Cut.is
    (put_front args.text.now _ _ (edges_two _ _)
    (put_then args.text.now 0 (ascii "done edges " ++ decimal _) (word_number (ascii " ") _) _ _ _ _ c.put_field-at.ensures c.put_number.ensures))

pub put_number-requires-in-Remove : goal.put_number-requires-in-Remove
put_number-requires-in-Remove c = omega (arith, number_short (ascii "done edge ") 20 _ (decimal_20 c.args.first (omega arith)))

pub returns-in-Remove : goal.returns-in-Remove
returns-in-Remove c = rw c.in-Remove.is (put_front _ _ _ (removed_one _ c.args.second) c.put_number-in-Remove.ensures)

pub put_number-requires-in-Concat : goal.put_number-requires-in-Concat
put_number-requires-in-Concat c = omega (arith, number_short (ascii "done edge ") 20 _ (decimal_20 c.args.first (omega arith)))

pub returns-in-Concat : goal.returns-in-Concat
returns-in-Concat c = rw c.in-Concat.is (put_front _ _ _ (joined_one _ c.args.second) c.put_number-in-Concat.ensures)

pub put_number-requires-in-Point : goal.put_number-requires-in-Point
put_number-requires-in-Point c = omega (arith, number_short (ascii "done point ") 20 _ (decimal_20 c.args.first (omega arith)))

pub returns-in-Point : goal.returns-in-Point
returns-in-Point c = rw c.in-Point.is (put_front _ _ _ (point_one _ c.args.second) c.put_number-in-Point.ensures)
