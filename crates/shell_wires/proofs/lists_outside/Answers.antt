-- The listings before the part first, then those after it.
use native.Mathlib.Omega.{arith}
use lib.Seq.{length-take-le}
use mathlib.Core.Path.{◌∙◌, sym}
use Rattle.std.proofs.lemmas.List.{take_rest}
use Rattle.shell_wires.proofs.Laws.{names_first, names_rest, outside_first, outside_last}
use Rattle.shell_wires.proofs.lists_outside.Goals as goal

pub slice_bounds-lists_flagged-end : goal.slice_bounds-lists_flagged-end
slice_bounds-lists_flagged-end c = sym (length-take-le c.args.first c.args.listings.now (omega (arith, c.requires.first_le_end)))

pub lists_flagged-requires-clause-name_faces : goal.lists_flagged-requires-clause-name_faces
lists_flagged-requires-clause-name_faces c = names_first _ _ c.requires.name_faces

pub returns-then-lists_flagged : goal.returns-then-lists_flagged
returns-then-lists_flagged c = c.if-lists_flagged.true ∙ outside_first _ _ _ c.lists_flagged.ensures c.if-lists_flagged.true

pub lists_flagged-requires-else-lists_flagged-clause-name_faces : goal.lists_flagged-requires-else-lists_flagged-clause-name_faces
lists_flagged-requires-else-lists_flagged-clause-name_faces c = names_first _ _ (names_rest _ _ c.requires.name_faces)

pub returns-else-lists_flagged : goal.returns-else-lists_flagged
returns-else-lists_flagged c = outside_last _ _ _ c.lists_flagged.ensures c.if-lists_flagged.false (rw take_rest at c.lists_flagged-else-lists_flagged.ensures)
