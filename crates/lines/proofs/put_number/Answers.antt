-- The word and the number, then the line feed.
use mathlib.Core.List.{◌++◌}
use native.Mathlib.Omega.{arith}
use lib.ListN.{length-append}
use Rattle.output.specs.Text.{ascii, decimal}
use Rattle.lines.proofs.Steps.{put_byte}
use Rattle.lines.proofs.put_number.Goals as goal

pub put_field-last-requires : goal.put_field-last-requires
put_field-last-requires c = let args = c.args in
    omega (arith, length-append (args.word.now ++ decimal args.n) (ascii "\n"))

pub bounds-out-last : goal.bounds-out-last
bounds-out-last c = let args = c.args in
    omega (arith, length-append (args.word.now ++ decimal args.n) (ascii "\n"), c.put_field-last.auto.out)

pub overflow_add-result : goal.overflow_add-result
overflow_add-result c = let args = c.args in
    omega (arith, length-append (args.word.now ++ decimal args.n) (ascii "\n"))

pub returns : goal.returns
returns c = put_byte _ _ (c.args.word.now ++ decimal _) _ _ 10 c.put_field-last.ensures
