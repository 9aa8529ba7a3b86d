-- The tables of a mesh: their counts, and what they mean.
use Prim.Native.Nat.{◌<◌, ◌≤◌, min, suc, ℕ}
use mathlib.Core.Bool.{false, true}
use mathlib.Core.List.{List, [], ◌++◌, ◌∷◌, append-nil, map}
use mathlib.Core.Logic.{⊎_elim}
use mathlib.Core.Path.{◌∙◌, ◌≡◌, ap, refl, sym}
use native.Mathlib.Omega.{arith}
use lib.Dec.{leb}
use lib.ListN.{length, length-map, take}
use lib.Seq.{sets}
use borrow.Author.Tests.{leb-false, leb-true, lt-leb}
use Rattle.errors.proofs.Laws.{accepted_none}
use Rattle.errors.specs.Faults.{each, first}
use Rattle.face.specs.declared.Face.{Face}
use Rattle.lists.proofs.Laws.{cases, length_tabulate}
use Rattle.lists.proofs.Sets.{take_sets}
use Rattle.lists.specs.Lists.{flat, numbers, tabulate}
use Rattle.mesh.specs.Mesh.{Mesh, mesh_content}
use Rattle.mesh_draw.proofs.Tables.{tabled_whole}
use Rattle.mesh_draw.specs.Kept.{Kept, SidesKept}
use Rattle.mesh_draw.specs.declared.Filled.{Filled}
use Rattle.pattern.proofs.Counts.{Full, Limited, limited}
use Rattle.pattern.specs.Checks.{count_faults, limit_faults}
use Rattle.pattern.specs.Contents.{Pattern, content, counts_of, limit}
use Rattle.mesh_file.specs.Judging.{filled_counts, with_rest}

-- a count that is kept up to a cap past the limit
limit_next : (b n x cap : ℕ) (ns xs : List ℕ) → n ≡ min x cap → limit b < cap → (x ≤ limit b → first (each limit_faults (suc b) ns) ≡ first (each limit_faults (suc b) xs))
    → first (each limit_faults b (n ∷ ns)) ≡ first (each limit_faults b (x ∷ xs))
unfolding each
limit_next b n x cap ns xs e h rest =
    ⊎_elim
    (λ (l : leb x (limit b) ≡ true).
    let few = leb-true x (limit b) l in
    let z : n ≡ x = omega arith in
    rw (z, l) (rest few))
    (λ (l : leb x (limit b) ≡ false).
    let many = leb-false x (limit b) l in
    rw (l, lt-leb n (limit b) (omega arith)))
    (cases (leb x (limit b)))

-- as many faces, all alike
alike : (x : Face) (ws : List (List ℕ)) → tabulate (length (map (λ (us : List ℕ). x) ws)) (λ (k : ℕ). x) ≡ map (λ (us : List ℕ). x) ws
unfolding tabulate
alike x [] = refl
alike x (us ∷ ws) = ap (λ (r : List Face). x ∷ r) (alike x ws)

-- how many records of each body the mesh has
module _ (m : Mesh) where
  wires_many : length (map length m.wires) ≡ length m.wires
  wires_many = length-map m.wires length

  faces_many : length (mesh_content m).faces ≡ length m.wires
  faces_many = length-map m.wires (λ (us : List ℕ). record { wires = 1; surface = 0 })

  listings_many : length (mesh_content m).listings ≡ length m.wires
  listings_many = length_tabulate (length m.wires) (λ (k : ℕ). k)

module _ {m : Mesh} {f : Filled} {p : Pattern} {index : List ℕ} (k : Kept m [] f p index) where
  used : SidesKept m [] f p index → f.uses ≡ min (length (flat m.wires)) 4097
  used s = rw append-nil at s.used

  -- the counts of the tables have the same first fault as those of the mesh
  pub first_same : first (count_faults (filled_counts f)) ≡ first (count_faults (counts_of (mesh_content m)))
  first_same =
      limit_next 0 f.points (length m.points) 999999999 _ _ k.points (omega arith)
      (λ points. let e = k.edges points in
      limit_next 1 f.edges (length m.edges) 1025 _ _ e.count (omega arith)
      (λ edges. let s = e.sides edges in
      limit_next 2 f.uses (length (flat m.wires)) 4097 _ _ (used s) (omega arith)
      (λ uses.
      limit_next 3 f.faces (length (map length m.wires)) 1025 _ _ (rw (wires_many m) s.faces) (omega arith)
      (λ wires. let z : f.faces ≡ length m.wires = omega (arith, s.faces, wires_many m) in
      rw (z, faces_many m, listings_many m)))))

  -- within the limits
  module _ (few : count_faults (filled_counts f) ≡ []) where
    pub mesh_few : count_faults (counts_of (mesh_content m)) ≡ []
    mesh_few = accepted_none _ (sym first_same ∙ ap first few)

    fit : Limited (counts_of (mesh_content m))
    fit = limited (counts_of (mesh_content m)) refl mesh_few

    sides : SidesKept m [] f p index
    sides = (k.edges fit.points).sides fit.edges

    -- the counts are those of the mesh
    counts_whole : filled_counts f ≡ counts_of (mesh_content m)
    counts_whole =
        let l = fit in
        let n = wires_many m in
        let points : f.points ≡ length m.points = omega (arith, k.points) in
        let edges : f.edges ≡ length m.edges = omega (arith, (k.edges l.points).count) in
        let uses : f.uses ≡ length (flat m.wires) = omega (arith, used sides) in
        let faces : f.faces ≡ length m.wires = omega (arith, sides.faces) in
        rw (points, edges, uses, faces, wires_many m, faces_many m, listings_many m)

    -- and the tables mean it
    module _ (full : Full p) where
      whole : content (with_rest p (counts_of (mesh_content m))) ≡ mesh_content m
      whole =
          let l = fit in
          let uses : take (length (flat m.wires)) p.uses ≡ flat m.wires = rw append-nil at (tabled_whole 4096 p.uses (flat m.wires ++ []) (rw append-nil l.uses) sides.uses) in
          let faces = take_sets p.faces _ (length (mesh_content m).faces) (ap length (alike _ m.wires)) (omega (arith, full.faces)) ∙ alike _ m.wires in
          let shells = take_sets p.shells (length (mesh_content m).faces ∷ []) 1 refl (omega (arith, full.shells)) ∙ ap (λ (n : ℕ). n ∷ []) (faces_many m) in
          let listings : take (length (mesh_content m).listings) (sets p.listings 0 (numbers (length (mesh_content m).faces))) ≡ (mesh_content m).listings = rw (← faces_many m) (take_sets p.listings (numbers (length (mesh_content m).faces)) _ refl (omega (arith, full.listings, length_tabulate (length (mesh_content m).faces) (λ (k : ℕ). k)))) in
          λ i. record {
            points = tabled_whole 2048 p.points m.points l.points k.labels i;
            edges = sides.edges i;
            uses = uses i;
            wires = tabled_whole 1024 p.wires (map length m.wires) l.wires (sides.wires (rw append-nil l.uses)).table i;
            faces = faces i;
            shells = shells i;
            listings = listings i;
          }

      pub rest_content : content (with_rest p (filled_counts f)) ≡ mesh_content m
      rest_content = ap (λ (ns : List ℕ). content (with_rest p ns)) counts_whole ∙ whole

  -- the tables that hold the mesh stay
  pub rest_kept : (ns : List ℕ) → Kept m [] f (with_rest p ns) index
  rest_kept ns = record {
    points = k.points;
    labels = k.labels;
    edges = λ a. let e = k.edges a in record {
      count = e.count;
      sides = λ b. let s = e.sides b in record {
        edges = s.edges;
        indexed = s.indexed;
        used = s.used;
        uses = s.uses;
        faces = s.faces;
        wires = λ c. let w = s.wires c in record { begun = w.begun; table = w.table };
      };
    };
  }
