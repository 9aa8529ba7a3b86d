-- One use more in the face that is being read.
use Prim.Native.Nat.{◌+◌, ◌<◌, ◌≤◌, min, ℕ}
use mathlib.Core.List.{List, [], ◌++◌, ◌∷◌, append_assoc}
use mathlib.Core.Path.{◌≡◌}
use native.Mathlib.Omega.{arith}
use lib.ListN.{length, length-append, set}
use lib.Dec.{eqb}
use borrow.Author.Tests.{eq-eqb, ne_eqb}
use Rattle.edge.specs.Edges.{front_number}
use Rattle.edge.specs.declared.Edge.{Edge}
use Rattle.lists.specs.Lists.{flat, pick}
use Rattle.mesh.specs.Mesh.{Mesh}
use Rattle.mesh_draw.proofs.Tables.{tabled_next, tabled_over}
use Rattle.mesh_draw.specs.Kept.{Kept, SidesKept, Tabled}
use Rattle.mesh_draw.specs.declared.Filled.{Filled}
use Rattle.pattern.specs.Contents.{Pattern}
use Rattle.store.specs.Columns.{with_uses}

abbrev used : Filled → ℕ → Filled
used f c = record { points = f.points; edges = f.edges; uses = c; begun = f.begun; faces = f.faces }

module _ {m : Mesh} {us : List ℕ} {f : Filled} {p : Pattern} {index : List ℕ} (u : ℕ) (k : Kept m us f p index) where
  abbrev All : List ℕ
  All = flat m.wires ++ us

  abbrev Now : List ℕ
  Now = flat m.wires ++ (us ++ (u ∷ []))

  now_is : Now ≡ All ++ (u ∷ [])
  now_is = rw append_assoc

  now_long : length Now ≡ length All + 1
  now_long = rw now_is (length-append All (u ∷ []))

  -- the rest does not change
  kept_used : (c : ℕ) (uses : List ℕ) → (SidesKept m us f p index → (c ≡ min (length Now) 4097) × Tabled 4096 uses Now) → Kept m (us ++ (u ∷ [])) (used f c) (with_uses p uses) index
  kept_used c uses new = record {
    points = k.points;
    labels = k.labels;
    edges = λ h.
        let e = k.edges h in
        record {
          count = e.count;
          sides = λ g.
              let s = e.sides g in
              record {
                edges = s.edges;
                indexed = s.indexed;
                used = (new s).0;
                uses = (new s).1;
                faces = s.faces;
                wires = λ l. let w = s.wires (omega (arith, now_long)) in record { begun = w.begun; table = w.table };
              };
        };
  }

  pub kept_use : {p' : Pattern} → f.uses < 4096 → length p.uses ≡ 4096 → p' ≡ with_uses p (set p.uses f.uses u) → Kept m (us ++ (u ∷ [])) (used f (f.uses + 1)) p' index
  kept_use h full e =
      rw e
      (kept_used (f.uses + 1) (set p.uses f.uses u)
      (λ s.
      let c : f.uses ≡ length All = omega (arith, s.used) in
      (omega (arith, now_long), rw (now_is, c) (tabled_next 4096 p.uses All u full (omega arith) s.uses))))

  pub kept_use_over : 4096 ≤ f.uses → Kept m (us ++ (u ∷ [])) (used f 4097) p index
  kept_use_over h =
      kept_used 4097 p.uses
      (λ s. (omega (arith, s.used, now_long), rw now_is (tabled_over 4096 p.uses All (u ∷ []) (omega (arith, s.used)) s.uses)))

-- ---- the use of edge k that runs from p on

module _ (d e : Edge) (is : d ≡ e) (k p : ℕ) where
  pub use_along : front_number d ≡ p → k ≡ pick (eqb (front_number e) p) k (k + 32768)
  use_along h = rw (← is, eq-eqb (front_number d) p h)

  pub use_back_lem : (front_number d ≡ p → ⊥) → k + 32768 ≡ pick (eqb (front_number e) p) k (k + 32768)
  use_back_lem h = rw (← is, ne_eqb (front_number d) p h)
