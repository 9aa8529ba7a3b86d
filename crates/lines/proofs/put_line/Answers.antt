-- The word, the items, and the line feed.
use mathlib.Core.List.{◌++◌, map}
use mathlib.Core.Path.{◌∙◌}
use native.Mathlib.Omega.{arith}
use lib.ListN.{length-append, length-set}
use Rattle.lists.proofs.Sets.{put_then}
use Rattle.lists.specs.Lists.{flat}
use Rattle.output.specs.Text.{ascii}
use Rattle.lines.proofs.Steps.{put_byte}
use Rattle.lines.specs.Parts.{item}
use Rattle.lines.proofs.put_line.Goals as goal

pub put_text-items-requires : goal.put_text-items-requires
put_text-items-requires c = let args = c.args in
    omega (arith, length-append args.word.now (flat (map item args.us.now)), length-append (args.word.now ++ flat (map item args.us.now)) (ascii "\n"))

pub put_items-end-requires : goal.put_items-end-requires
put_items-end-requires c = let args = c.args in
    omega (arith, length-append args.word.now (flat (map item args.us.now)), length-append (args.word.now ++ flat (map item args.us.now)) (ascii "\n"), c.put_text-items.auto.out)

pub bounds-out-end : goal.bounds-out-end
bounds-out-end c = let args = c.args in
    omega (arith, length-append args.word.now (flat (map item args.us.now)), length-append (args.word.now ++ flat (map item args.us.now)) (ascii "\n"), c.put_text-items.auto.out, c.put_items-end.auto.out)

pub shape_of-out : goal.shape_of-out
shape_of-out c = simp length-set (c.put_items-end.auto.out ∙ c.put_text-items.auto.out)

pub returns : goal.returns
returns c = let args = c.args in
    let items = flat (map item args.us.now) in
    put_byte args.out.now _ (args.word.now ++ items) _ _ 10
    (put_then args.out.now _ args.word.now items _ _ _ _ c.put_text-items.ensures c.put_items-end.ensures)
