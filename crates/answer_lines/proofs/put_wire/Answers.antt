-- The word, then the uses.
use mathlib.Core.List.{map}
use Rattle.lists.proofs.Sets.{put_then}
use Rattle.lists.specs.Lists.{flat}
use Rattle.lines.specs.Parts.{item}
use Rattle.output.specs.Text.{ascii}
use Rattle.answer_lines.proofs.put_wire.Goals as goal

pub returns : goal.returns
returns c = let args = c.args in
    put_then args.out.now _ (ascii " wire") (flat (map item args.us.now)) _ _ _ _ c.put_text-items.ensures c.put_items.ensures
