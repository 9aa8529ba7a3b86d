-- The columns of the store, and a pattern with one table changed. Cited by inner contracts.
use Rattle.std.specs.Prelude.{ℕ, List, get_or, take}
use Rattle.edge.specs.declared.Edge.{Edge}
use Rattle.face.specs.declared.Face.{Face}
use Rattle.pattern.specs.Contents.{Pattern}
use Rattle.store.specs.Store.{count_table, part}

abbrev pub front_table : List ℕ → List ℕ
front_table = part 8 1024

abbrev pub back_table : List ℕ → List ℕ
back_table = part 1032 1024

-- the faces' numbers of wires
abbrev pub face_table : List ℕ → List ℕ
face_table = part 7176 256

-- a table as long as the count of its body says
abbrev pub counted : ℕ → (List ℕ → List ℕ) → List ℕ → List ℕ
counted b table t = take (get_or (count_table t) b 0) (table t)

abbrev pub with_counts : Pattern → List ℕ → Pattern
with_counts p ns = record { counts = ns; points = p.points; edges = p.edges; uses = p.uses; wires = p.wires; faces = p.faces; shells = p.shells; listings = p.listings }

abbrev pub with_points : Pattern → List ℕ → Pattern
with_points p ls = record { counts = p.counts; points = ls; edges = p.edges; uses = p.uses; wires = p.wires; faces = p.faces; shells = p.shells; listings = p.listings }

abbrev pub with_edges : Pattern → List Edge → Pattern
with_edges p ds = record { counts = p.counts; points = p.points; edges = ds; uses = p.uses; wires = p.wires; faces = p.faces; shells = p.shells; listings = p.listings }

abbrev pub with_uses : Pattern → List ℕ → Pattern
with_uses p us = record { counts = p.counts; points = p.points; edges = p.edges; uses = us; wires = p.wires; faces = p.faces; shells = p.shells; listings = p.listings }

abbrev pub with_wires : Pattern → List ℕ → Pattern
with_wires p ws = record { counts = p.counts; points = p.points; edges = p.edges; uses = p.uses; wires = ws; faces = p.faces; shells = p.shells; listings = p.listings }

abbrev pub with_faces : Pattern → List Face → Pattern
with_faces p fs = record { counts = p.counts; points = p.points; edges = p.edges; uses = p.uses; wires = p.wires; faces = fs; shells = p.shells; listings = p.listings }

abbrev pub with_shells : Pattern → List ℕ → Pattern
with_shells p ss = record { counts = p.counts; points = p.points; edges = p.edges; uses = p.uses; wires = p.wires; faces = p.faces; shells = ss; listings = p.listings }

abbrev pub with_listings : Pattern → List ℕ → Pattern
with_listings p ls = record { counts = p.counts; points = p.points; edges = p.edges; uses = p.uses; wires = p.wires; faces = p.faces; shells = p.shells; listings = ls }
