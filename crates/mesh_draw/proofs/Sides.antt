-- One side more.
use Rattle.std.specs.Prelude.{None, Option, Some}
use Prim.Native.Nat.{◌+◌, ◌<◌, ◌≤◌, suc, ℕ}
use mathlib.Core.Bool.{false, true}
use mathlib.Core.List.{List, [], ◌++◌, ◌∷◌}
use mathlib.Core.Logic.{⊎_elim}
use mathlib.Core.Path.{◌∙◌, ◌≡◌, ap, refl, sym}
use native.Mathlib.Omega.{arith}
use lib.Dec.{eqb, ltb}
use lib.Ieee.{Float}
use lib.ListN.{get_or-eq_default, get_or, length, length-append, set, take}
use lib.Seq.{get_or-set_same, get_or-take, take-suc-set}
use borrow.Author.Tests.{eq-eqb, le-ltb, lt-ltb}
use Rattle.edge.specs.Edges.{front_number}
use Rattle.edge.specs.declared.Edge.{Edge}
use Rattle.lists.proofs.Flat.{get_d_tabulate}
use Rattle.lists.proofs.Laws.{cases, length_tabulate}
use Rattle.lists.specs.Lists.{pick}
use Rattle.mesh.specs.Mesh.{Mesh, between, joins, place, side_use, with_side}
use Rattle.mesh_draw.proofs.Points.{points_alone}
use Rattle.mesh_draw.specs.Kept.{EdgesKept, Kept, SidesKept, with_edges}
use Rattle.mesh_draw.specs.declared.Filled.{Filled}
use Rattle.mesh_edges.proofs.Places.{found_at, found_not}
use Rattle.mesh_edges.specs.Index.{Indexed, found}
use Rattle.pattern.specs.Contents.{Pattern, zero_edge}
use Rattle.store.specs.Columns.{with_edges as withTable}
use Rattle.store.specs.Store.{edge_in, held}

-- ---- the edges after a side, and its use

module _ (es : List Edge) (p q : ℕ) where
  more_long : length (es ++ (between p q ∷ [])) ≡ length es + 1
  more_long = length-append es (between p q ∷ [])

  side_grows : length es ≤ length (with_side es p q)
  unfolding with_side
  side_grows =
      ⊎_elim
      (λ (t : ltb (place (joins p q) es) (length es) ≡ true). rw t (omega arith))
      (λ (t : ltb (place (joins p q) es) (length es) ≡ false). rw t (omega (arith, more_long)))
      (cases (ltb (place (joins p q) es) (length es)))

  module _ (k : ℕ) (is : found (joins p q) es ≡ Some k) where
    here : (k ≡ place (joins p q) es) × (k < length es)
    here = found_at (joins p q) zero_edge es k is

    found_side : with_side es p q ≡ es
    unfolding with_side
    found_side = rw (← here.0, lt-ltb k (length es) here.1)

    found_use : side_use es p q ≡ pick (eqb (front_number (get_or es k (between p q))) p) k (k + 32768)
    unfolding side_use
    found_use = rw here.0

  module _ (is : found (joins p q) es ≡ None) where
    none : place (joins p q) es ≡ length es
    none = found_not (joins p q) zero_edge es is

    made_side : with_side es p q ≡ es ++ (between p q ∷ [])
    unfolding with_side
    made_side = rw (none, le-ltb (length es) (length es) (omega arith))

    made_use : side_use es p q ≡ length es
    unfolding side_use
    made_use = rw (none, get_or-eq_default es (between p q) {n = length es} (omega arith), eq-eqb p p refl)

-- ---- the tables

abbrev edged : Filled → ℕ → Filled
edged f c = record { points = f.points; edges = c; uses = f.uses; begun = f.begun; faces = f.faces }

module _ {m : Mesh} {us : List ℕ} {f : Filled} (t : List ℕ) (spans : List Float) {index : List ℕ} (p q : ℕ) (k : Kept m us f (held t spans) index) where
  abbrev P : Pattern
  P = held t spans

  abbrev Es : List Edge
  Es = m.edges

  abbrev More : List Edge
  More = Es ++ (between p q ∷ [])

  abbrev Done : Filled → Pattern → List ℕ → Type 0
  Done g p' index' = Kept (with_edges m (with_side Es p q)) (us ++ (side_use Es p q ∷ [])) g p' index'

  -- more points than the limit
  pub kept_many : 2048 < f.points → Done f P index
  kept_many h = points_alone m (with_edges m (with_side Es p q)) (omega (arith, k.points)) refl k

  module _ (few : f.points ≤ 2048) where
    given : EdgesKept m us f P index
    given = k.edges (omega (arith, k.points))

    over : (c : ℕ) → c ≡ 1025 → 1024 < length (with_side Es p q) → Done (edged f c) P index
    over c e h = record { points = k.points; labels = k.labels; edges = λ g. record { count = omega arith; sides = λ l. absurd (omega arith) } }

    -- more edges than the limit
    pub kept_over : 1024 < f.edges → Done f P index
    kept_over h = over f.edges (omega (arith, given.count)) (omega (arith, given.count, side_grows Es p q))

    module _ (room : f.edges ≤ 1024) where
      sides : SidesKept m us f P index
      sides = given.sides (omega (arith, given.count))

      long : length Es ≡ f.edges
      long = omega (arith, given.count)

      firsts : take f.edges P.edges ≡ Es
      firsts = rw long at sides.edges

      module _ {o : Option ℕ} (tells : Indexed (take f.edges P.edges) index → o ≡ found (joins p q) (take f.edges P.edges)) where
        sought : o ≡ found (joins p q) Es
        sought = rw firsts at tells sides.indexed

        -- an edge of the mesh
        pub kept_found : {r : ℕ} {g : Filled} {p' : Pattern} → o ≡ Some r
            → Kept m (us ++ (pick (eqb (front_number (edge_in t spans r)) p) r (r + 32768) ∷ [])) g p' index → Done g p' index
        kept_found {r} e kept =
            let is = sym sought ∙ e in
            let h : r < f.edges = omega (arith, long, (here Es p q r is).1) in
            let at : get_or Es r (between p q) ≡ edge_in t spans r = rw (← firsts) (get_or-take f.edges P.edges r (between p q) h ∙ get_d_tabulate 1024 (edge_in t spans) r (between p q) (omega arith)) in
            rw (found_side Es p q r is, found_use Es p q r is, at) kept

        module _ (no : o ≡ None) where
          is_none : found (joins p q) Es ≡ None
          is_none = sym sought ∙ no

          sides_more : with_side Es p q ≡ More
          sides_more = made_side Es p q is_none

          -- one more than the limit
          pub kept_full : f.edges ≡ 1024 → Done (edged f (f.edges + 1)) P index
          kept_full h = over (f.edges + 1) (omega arith) (rw sides_more (omega (arith, long, more_long Es p q)))

          -- a new edge
          module _ (t' : List ℕ) (spans' : List Float) {d : Edge} {index' : List ℕ} (within : f.edges < 1024) (is : d ≡ between p q)
              (stored : held t' spans' ≡ withTable P (set P.edges f.edges d))
              (noted : (es : List Edge) → length es ≡ f.edges → place (joins p q) es ≡ f.edges → Indexed es index → Indexed (es ++ (between p q ∷ [])) index') where
            full : f.edges < length P.edges
            full = omega (arith, length_tabulate 1024 (edge_in t spans))

            more_kept : take (length More) (set P.edges f.edges (between p q)) ≡ More
            more_kept =
                let n : length More ≡ suc f.edges = omega (arith, long, more_long Es p q) in
                rw n (take-suc-set P.edges f.edges (between p q) full ∙ rw firsts)

            made : Kept (with_edges m More) us (edged f (f.edges + 1)) (held t' spans') index'
            made =
                rw (stored, is)
                (record {
                  points = k.points;
                  labels = k.labels;
                  edges = λ h. record {
                    count = omega (arith, long, more_long Es p q);
                    sides = λ l. record {
                      edges = more_kept;
                      indexed = noted Es long (none Es p q is_none ∙ long) sides.indexed;
                      used = sides.used;
                      uses = sides.uses;
                      faces = sides.faces;
                      wires = λ w. let v = sides.wires w in record { begun = v.begun; table = v.table };
                    };
                  };
                })

            new_edge_lem : edge_in t' spans' f.edges ≡ between p q
            new_edge_lem =
                sym (get_d_tabulate 1024 (edge_in t' spans') f.edges (between p q) within)
                ∙ ap (λ (x : Pattern). get_or x.edges f.edges (between p q)) stored
                ∙ rw is (get_or-set_same P.edges f.edges (between p q) (between p q) full)

            pub kept_made : {g : Filled} {p' : Pattern}
                → ((m : Mesh) (us index : List ℕ) → Kept m us (edged f (f.edges + 1)) (held t' spans') index
                → Kept m (us ++ (pick (eqb (front_number (edge_in t' spans' f.edges)) p) f.edges (f.edges + 32768) ∷ [])) g p' index)
                → Done g p' index'
            kept_made uses =
                let u : pick (eqb (front_number (edge_in t' spans' f.edges)) p) f.edges (f.edges + 32768) ≡ f.edges = rw (eq-eqb (front_number (edge_in t' spans' f.edges)) p (ap front_number new_edge_lem)) in
                rw (sides_more, made_use Es p q is_none, long) (rw u at uses (with_edges m More) us index' made)
