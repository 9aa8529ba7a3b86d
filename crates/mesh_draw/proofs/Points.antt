-- One point more.
use Prim.Native.Nat.{◌%◌, ◌+◌, ◌<◌, ◌≤◌, min, ℕ}
use mathlib.Core.List.{List, [], ◌∷◌}
use mathlib.Core.Path.{◌≡◌}
use native.Mathlib.Omega.{arith}
use lib.ListN.{length, length-append, set}
use Rattle.mesh.specs.Mesh.{Mesh, with_point}
use Rattle.mesh_draw.proofs.Tables.{tabled_next, tabled_over}
use Rattle.mesh_draw.specs.Kept.{EdgesKept, Kept}
use Rattle.mesh_draw.specs.declared.Filled.{Filled}
use Rattle.pattern.specs.Contents.{Pattern}
use Rattle.store.specs.Columns.{with_points}

abbrev pointed : Filled → ℕ → Filled
pointed f c = record { points = c; edges = f.edges; uses = f.uses; begun = f.begun; faces = f.faces }

module _ {m : Mesh} {us : List ℕ} {f : Filled} {p : Pattern} {index : List ℕ} (n : ℕ) (k : Kept m us f p index) where
  more_points : length (with_point m n).points ≡ length m.points + 1
  more_points = length-append m.points (n % 4294967296 ∷ [])

  -- the rest does not change
  edges_pointed : (c : ℕ) (labels : List ℕ) → length (with_point m n).points ≤ 2048 → EdgesKept (with_point m n) us (pointed f c) (with_points p labels) index
  edges_pointed c labels h =
      let e = k.edges (omega (arith, more_points)) in
      record {
        count = e.count;
        sides = λ g.
            let s = e.sides g in
            record {
              edges = s.edges;
              indexed = s.indexed;
              used = s.used;
              uses = s.uses;
              faces = s.faces;
              wires = λ l. let w = s.wires l in record { begun = w.begun; table = w.table };
            };
      }

  pub kept_point : {p' : Pattern} {label : ℕ} → f.points < 2048 → length p.points ≡ 2048 → label ≡ n % 4294967296 → p' ≡ with_points p (set p.points f.points label)
      → Kept (with_point m n) us (pointed f (f.points + 1)) p' index
  kept_point h full l e =
      let c : f.points ≡ length m.points = omega (arith, k.points) in
      rw (e, l, c)
      (record {
        points = omega (arith, more_points);
        labels = tabled_next 2048 p.points m.points (n % 4294967296) full (omega arith) k.labels;
        edges = edges_pointed (length m.points + 1) (set p.points (length m.points) (n % 4294967296));
      })

  pub kept_point_over : {c : ℕ} → 2048 ≤ f.points → c ≡ min (f.points + 1) 999999999 → Kept (with_point m n) us (pointed f c) p index
  kept_point_over {c} h e = record {
    points = omega (arith, k.points, more_points);
    labels = tabled_over 2048 p.points m.points (n % 4294967296 ∷ []) (omega (arith, k.points)) k.labels;
    edges = edges_pointed c p.points;
  }

-- with more points than the limit only they are kept
pub points_alone : (m m' : Mesh) {us us' : List ℕ} {f : Filled} {p : Pattern} {index : List ℕ} → 2048 < length m.points → m'.points ≡ m.points → Kept m us f p index → Kept m' us' f p index
points_alone m m' h e k = record { points = rw e k.points; labels = rw e k.labels; edges = rw e (λ (l : length m.points ≤ 2048). absurd (omega arith)) }
