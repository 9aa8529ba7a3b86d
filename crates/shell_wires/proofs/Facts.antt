-- What the reading checks say of a stored pattern, with what its storage's types say: for the edits of its shells.
use Prim.Native.Nat.{◌+◌, ◌<◌, ℕ}
use mathlib.Core.List.{List, [], ◌++◌, ◌∷◌, map}
use mathlib.Core.Path.{◌≡◌, ap}
use native.Mathlib.Omega.{arith}
use lib.ListN.{get_or, length, length-append, set, take}
use lib.Seq.{get_or-take, sets}
use Rattle.edge.specs.Edges.{back_number, front_number}
use Rattle.edge.specs.Uses.{edge_number, front_of}
use Rattle.edge.specs.declared.Edge.{Edge}
use Rattle.face.specs.Faces.{wire_count}
use Rattle.lists.proofs.Laws.{map_take}
use Rattle.lists.specs.Lists.{sum}
use Rattle.pattern.proofs.Counts.{Full, Limited, edges_counted, faces_counted, limited, listings_counted, points_counted, shells_counted}
use Rattle.pattern.proofs.Named.{named, point_named, tables_faces, tables_wires}
use Rattle.pattern.proofs.Passed.{content_passed, pattern_passed}
use Rattle.pattern.specs.Checks.{pattern_faults, record_faults}
use Rattle.pattern.specs.Contents.{Pattern, content, stored_in}
use Rattle.shell.specs.Openings.{front_in}
use Rattle.shell_edits.proofs.Storage.{seven_are, sets_after, sets_own}
use Rattle.shell_edits.specs.Edits.{edited}
use Rattle.wire.specs.Named.{Named}

-- the ends of a use of one of the first n edges
pub front_taken : (fronts backs : List ℕ) (n u : ℕ) → edge_number u < n → front_of (take n fronts) (take n backs) u ≡ front_of fronts backs u
unfolding front_of
front_taken fronts backs n u h =
    let f : get_or (take n fronts) (edge_number u) 0 ≡ get_or fronts (edge_number u) 0 = get_or-take n fronts (edge_number u) 0 h in
    let b : get_or (take n backs) (edge_number u) 0 ≡ get_or backs (edge_number u) 0 = get_or-take n backs (edge_number u) 0 h in
    rw (f, b)

-- seven counts with the second to the fourth changed
pub seven_set : (ns : List ℕ) (a b c : ℕ) → length ns ≡ 7
    → get_or ns 0 0 ∷ a ∷ b ∷ c ∷ get_or ns 4 0 ∷ get_or ns 5 0 ∷ get_or ns 6 0 ∷ [] ≡ set (set (set ns 1 a) 2 b) 3 c
seven_set ns a b c h = ap (λ (ms : List ℕ). set (set (set ms 1 a) 2 b) 3 c) (seven_are ns h)

-- a stored pattern without fault
pub record Fine (p : Pattern) : Type 0 where
  pub ok : pattern_faults p ≡ []
  pub seven : length p.counts ≡ 7
  pub full : Full p
  -- each count within its limit
  pub limits : Limited p.counts

pub fine : (p : Pattern) → pattern_faults p ≡ [] → length p.counts ≡ 7 → Full p → Fine p
fine p ok seven full = record {
  ok = ok;
  seven = seven;
  full = full;
  limits = limited p.counts seven (pattern_passed p ok).counts;
}

module _ (p : Pattern) (s : Fine p) where
  abbrev points : ℕ
  points = get_or p.counts 0 0

  abbrev edges : ℕ
  edges = get_or p.counts 1 0

  abbrev uses : ℕ
  uses = get_or p.counts 2 0

  abbrev wires : ℕ
  wires = get_or p.counts 3 0

  abbrev faces : ℕ
  faces = get_or p.counts 4 0

  abbrev shells : ℕ
  shells = get_or p.counts 5 0

  abbrev listings : ℕ
  listings = get_or p.counts 6 0

  -- the ends of all the edges in storage
  abbrev fronts : List ℕ
  fronts = map front_number p.edges

  abbrev backs : List ℕ
  backs = map back_number p.edges

  pub records_fine : record_faults (content p) ≡ []
  records_fine = (content_passed (content p) (pattern_passed p s.ok).content).records

  -- the sums
  pub wires_sum : sum (take wires p.wires) ≡ uses
  wires_sum = tables_wires p s.limits s.full records_fine

  pub faces_sum : sum (take faces (map wire_count p.faces)) ≡ wires
  faces_sum = tables_faces p s.limits s.full records_fine

  -- the uses name edges, which name points: with the first columns of ends, and with those in full
  pub uses_named : Named (take edges fronts) (take edges backs) (take uses p.uses)
  uses_named =
      rw (← map_take front_number edges p.edges, ← map_take back_number edges p.edges)
      (named (content p) records_fine (omega (arith, points_counted p s.limits s.full, s.limits.points)))

  -- the ends of a use in the definitions, and as the columns in full have them
  pub front_in_lem : (u : ℕ) → edge_number u < edges → front_in (content p) u ≡ front_of fronts backs u
  front_in_lem u h = rw (map_take front_number edges p.edges, map_take back_number edges p.edges) (front_taken fronts backs edges u h)

  pub front_point : (u : ℕ) → edge_number u < edges → front_of fronts backs u < points
  front_point u h =
      omega (arith, front_in_lem u h, point_named (content p) records_fine u (omega (arith, edges_counted p s.limits s.full)), points_counted p s.limits s.full)

  -- bodies that do not change
  pub points_kept : sets p.points 0 (content p).points ≡ p.points
  points_kept = sets_own p.points points (omega (arith, s.limits.points, s.full.points))

  pub uses_kept : sets p.uses 0 (content p).uses ≡ p.uses
  uses_kept = sets_own p.uses uses (omega (arith, s.limits.uses, s.full.uses))

  pub wires_kept : sets p.wires 0 (content p).wires ≡ p.wires
  wires_kept = sets_own p.wires wires (omega (arith, s.limits.wires, s.full.wires))

  pub faces_kept : sets p.faces 0 (content p).faces ≡ p.faces
  faces_kept = sets_own p.faces faces (omega (arith, s.limits.faces, s.full.faces))

  pub shells_kept : sets p.shells 0 (content p).shells ≡ p.shells
  shells_kept = sets_own p.shells shells (omega (arith, s.limits.shells, s.full.shells))

  pub listings_kept : sets p.listings 0 (content p).listings ≡ p.listings
  listings_kept = sets_own p.listings listings (omega (arith, s.limits.listings, s.full.listings))

  -- more edges after those there are
  pub edges_more : (es : List Edge) → sets p.edges 0 ((content p).edges ++ es) ≡ sets p.edges edges es
  edges_more es = sets_after p.edges edges (omega (arith, s.limits.edges, s.full.edges)) es

  -- the storage after an edit
  abbrev pub edited_in : List Edge → List ℕ → List ℕ → Pattern
  edited_in es us ws = record {
    counts = set (set (set p.counts 1 (edges + length es)) 2 (length us)) 3 (length ws);
    points = p.points;
    edges = sets p.edges edges es;
    uses = sets p.uses 0 us;
    wires = sets p.wires 0 ws;
    faces = p.faces;
    shells = p.shells;
    listings = p.listings;
  }

  pub stored_edited : (es : List Edge) (us ws : List ℕ) → stored_in p (edited (content p) es us ws) ≡ edited_in es us ws
  stored_edited es us ws =
      let more : length ((content p).edges ++ es) ≡ edges + length es =
      omega (arith, length-append (content p).edges es, edges_counted p s.limits s.full) in
      rw (
        points_kept,
        edges_more es,
        faces_kept,
        shells_kept,
        listings_kept,
        more,
        points_counted p s.limits s.full,
        faces_counted p s.limits s.full,
        shells_counted p s.limits s.full,
        listings_counted p s.limits s.full,
        seven_set p.counts (edges + length es) (length us) (length ws) s.seven,
      )
