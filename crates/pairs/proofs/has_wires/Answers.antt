-- The place of the face and the one after it are those of the definition.
use native.Mathlib.Numerals.{add-one}
use Rattle.pairs.proofs.has_wires.Goals as goal

pub returns : goal.returns
returns c = rw (add-one, c.from-f.ensures, c.of_listing-face.ensures)
