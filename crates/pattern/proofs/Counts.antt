-- Counts within the limits: the bodies of the content have just those lengths.
use Prim.Native.Nat.{◌+◌, ◌<◌, ◌≤◌, ℕ}
use mathlib.Core.List.{List, [], ◌++◌, ◌∷◌, map}
use mathlib.Core.Path.{◌≡◌, refl}
use native.Mathlib.Omega.{arith}
use lib.Dec.{leb}
use lib.ListN.{get_or, length, length-map, take}
use lib.Seq.{length-take-le}
use borrow.Author.Tests.{leb-true}
use Rattle.errors.proofs.Laws.{and_then, each_record, first_append, unless_passes}
use Rattle.errors.specs.Faults.{each, first}
use Rattle.errors.specs.declared.Refusal.{Refusal}
use Rattle.errors.specs.declared.Refusal.TheVariants.{Limit}
use Rattle.face.specs.Faces.{wire_count}
use Rattle.lists.proofs.Laws.{map_take}
use Rattle.pattern.specs.Checks.{count_faults, edge_faults, limit_faults, name_faults, record_faults, sum_faults}
use Rattle.pattern.specs.Contents.{Pattern, content, layout}
use Rattle.pattern.specs.Columns.{list_faults}

pub record Limited (counts : List ℕ) : Type 0 where
  pub points : get_or counts 0 0 ≤ 2048
  pub edges : get_or counts 1 0 ≤ 1024
  pub uses : get_or counts 2 0 ≤ 4096
  pub wires : get_or counts 3 0 ≤ 1024
  pub faces : get_or counts 4 0 ≤ 256
  pub shells : get_or counts 5 0 ≤ 16
  pub listings : get_or counts 6 0 ≤ 512

pub count_kept : (counts : List ℕ) (b : ℕ) → count_faults counts ≡ [] → b < length counts → get_or counts b 0 ≤ get_or layout.limits b 0
count_kept counts b e h =
    let z : 0 + b ≡ b = omega arith in
    let n = get_or counts b 0 in
    let limit = get_or layout.limits b 0 in
    leb-true n limit (unless_passes (leb n limit) (Limit b) (rw z at (each_record limit_faults 0 0 counts e b h)))

pub limited : (counts : List ℕ) → length counts ≡ 7 → count_faults counts ≡ [] → Limited counts
limited counts l e = record {
  points = count_kept counts 0 e (omega arith);
  edges = count_kept counts 1 e (omega arith);
  uses = count_kept counts 2 e (omega arith);
  wires = count_kept counts 3 e (omega arith);
  faces = count_kept counts 4 e (omega arith);
  shells = count_kept counts 5 e (omega arith);
  listings = count_kept counts 6 e (omega arith);
}

-- the tables of a pattern in storage, in full
pub record Full (p : Pattern) : Type 0 where
  pub points : length p.points ≡ 2048
  pub edges : length p.edges ≡ 1024
  pub uses : length p.uses ≡ 4096
  pub wires : length p.wires ≡ 1024
  pub faces : length p.faces ≡ 256
  pub shells : length p.shells ≡ 16
  pub listings : length p.listings ≡ 512

-- the first of six checks, and the others
row_first : (a b c d e f : List Refusal) → first (a ++ b ++ c ++ d ++ e ++ f) ≡ and_then (first a) (first (b ++ c ++ d ++ e ++ f))
row_first [] b c d e f = refl
row_first (x ∷ a) b c d e f = refl

-- the checks of numbers, one after the other, as the code makes them
pub lists_first : (fronts uses wires counts shells listings : List ℕ)
    → first (list_faults (length fronts) uses wires counts shells listings) ≡
    and_then (and_then (and_then (and_then
    (first (each (name_faults 2 (length fronts)) 0 uses))
    (first (sum_faults 3 wires (length uses))))
    (first (sum_faults 4 counts (length wires))))
    (first (sum_faults 5 shells (length listings))))
    (first (each (name_faults 6 (length counts)) 0 listings))
lists_first fronts uses wires counts shells listings = simp first_append

module _ (p : Pattern) (s : Limited p.counts) (full : Full p) where
  pub points_counted : length (content p).points ≡ get_or p.counts 0 0
  points_counted = length-take-le (get_or p.counts 0 0) p.points (omega (arith, s.points, full.points))

  pub edges_counted : length (content p).edges ≡ get_or p.counts 1 0
  edges_counted = length-take-le (get_or p.counts 1 0) p.edges (omega (arith, s.edges, full.edges))

  pub uses_counted : length (content p).uses ≡ get_or p.counts 2 0
  uses_counted = length-take-le (get_or p.counts 2 0) p.uses (omega (arith, s.uses, full.uses))

  pub wires_counted : length (content p).wires ≡ get_or p.counts 3 0
  wires_counted = length-take-le (get_or p.counts 3 0) p.wires (omega (arith, s.wires, full.wires))

  pub faces_counted : length (content p).faces ≡ get_or p.counts 4 0
  faces_counted = length-take-le (get_or p.counts 4 0) p.faces (omega (arith, s.faces, full.faces))

  pub shells_counted : length (content p).shells ≡ get_or p.counts 5 0
  shells_counted = length-take-le (get_or p.counts 5 0) p.shells (omega (arith, s.shells, full.shells))

  pub listings_counted : length (content p).listings ≡ get_or p.counts 6 0
  listings_counted = length-take-le (get_or p.counts 6 0) p.listings (omega (arith, s.listings, full.listings))

  -- the checks of the records: the edges, then the others
  pub records_first : first (record_faults (content p)) ≡
      and_then (first (each (edge_faults (get_or p.counts 0 0)) 0 (content p).edges))
      (first (list_faults (get_or p.counts 1 0) (content p).uses (content p).wires (take (get_or p.counts 4 0) (map wire_count p.faces)) (content p).shells (content p).listings))
  records_first =
      let e : length (map wire_count (content p).faces) ≡ length (content p).faces = length-map (content p).faces wire_count in
      rw (points_counted, edges_counted, ← map_take wire_count (get_or p.counts 4 0) p.faces, e)
      (rw e at (row_first (each (edge_faults (get_or p.counts 0 0)) 0 (content p).edges) (each (name_faults 2 (get_or p.counts 1 0)) 0 (content p).uses) (sum_faults 3 (content p).wires (length (content p).uses)) (sum_faults 4 (map wire_count (content p).faces) (length (content p).wires)) (sum_faults 5 (content p).shells (length (content p).listings)) (each (name_faults 6 (length (content p).faces)) 0 (content p).listings)))
