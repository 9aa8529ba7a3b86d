-- What joining two uses gives, and the pattern with one more edge.
use Rattle.std.specs.Prelude.{◌+◌, List, [], ◌∷◌, get_or, set, Err, Ok, Result}
use Rattle.edge.specs.declared.Edge.{Edge}
use Rattle.edit_answers.specs.declared.EditError.{EditError}
use Rattle.pattern.specs.Contents.{Pattern}

-- the first refusal, or the edge
abbrev pub joint : List EditError → Edge → Result Edge EditError
joint [] d = Ok d
joint (e ∷ es) d = Err e

-- the edge after the others
abbrev pub appended : Pattern → Edge → Pattern
appended p d = record {
  counts = set p.counts 1 (get_or p.counts 1 0 + 1);
  points = p.points;
  edges = set p.edges (get_or p.counts 1 0) d;
  uses = p.uses;
  wires = p.wires;
  faces = p.faces;
  shells = p.shells;
  listings = p.listings;
}
