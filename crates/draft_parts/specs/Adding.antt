-- A line's records after those of a stored pattern. Cited by inner contracts.
use Rattle.std.specs.Prelude.{◌+◌, ℕ, List, [], ◌∷◌, get_or}
use Rattle.std.proofs.lemmas.List.Edits.{sets}
use Rattle.pattern.specs.Contents.{Content, Pattern, counts_of}

-- seven counts and seven more
abbrev pub summed : List ℕ → List ℕ → List ℕ
summed ns ms =
    (get_or ns 0 0 + get_or ms 0 0)
    ∷ (get_or ns 1 0 + get_or ms 1 0)
    ∷ (get_or ns 2 0 + get_or ms 2 0)
    ∷ (get_or ns 3 0 + get_or ms 3 0)
    ∷ (get_or ns 4 0 + get_or ms 4 0)
    ∷ (get_or ns 5 0 + get_or ms 5 0)
    ∷ (get_or ns 6 0 + get_or ms 6 0)
    ∷ []

-- each body of q stored from the count of p on
abbrev pub added : Pattern → Content → Pattern
added p q = record {
  counts = summed p.counts (counts_of q);
  points = sets p.points (get_or p.counts 0 0) q.points;
  edges = sets p.edges (get_or p.counts 1 0) q.edges;
  uses = sets p.uses (get_or p.counts 2 0) q.uses;
  wires = sets p.wires (get_or p.counts 3 0) q.wires;
  faces = sets p.faces (get_or p.counts 4 0) q.faces;
  shells = sets p.shells (get_or p.counts 5 0) q.shells;
  listings = sets p.listings (get_or p.counts 6 0) q.listings;
}
