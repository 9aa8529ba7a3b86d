-- One face more.
use Prim.Native.Nat.{◌+◌, ◌-◌, ◌<◌, ◌≤◌, min, ℕ}
use mathlib.Core.List.{List, [], ◌++◌, ◌∷◌, append-nil, map}
use mathlib.Core.Path.{◌∙◌, ◌≡◌, refl}
use native.Mathlib.Omega.{arith}
use lib.ListN.{length, length-append, length-map, set}
use Rattle.lists.proofs.Laws.{flat_append}
use Rattle.lists.proofs.Parts.{flat_one}
use Rattle.lists.specs.Lists.{flat}
use Rattle.mesh.specs.Mesh.{Mesh}
use Rattle.mesh_draw.proofs.Tables.{tabled_next, tabled_over}
use Rattle.mesh_draw.specs.Kept.{Kept, SidesKept, Tabled, WiresKept, with_wire}
use Rattle.mesh_draw.specs.declared.Filled.{Filled}
use Rattle.pattern.specs.Contents.{Pattern}
use Rattle.store.specs.Columns.{with_wires}
use Rattle.words.specs.Words.{short}

abbrev faced : Filled → ℕ → Filled
faced f c = record { points = f.points; edges = f.edges; uses = f.uses; begun = f.uses; faces = c }

map_append : (xs ys : List (List ℕ)) → map length (xs ++ ys) ≡ map length xs ++ map length ys
map_append [] ys = refl
map_append (x ∷ xs) ys = rw (map_append xs ys)

module _ {m : Mesh} {us : List ℕ} {f : Filled} {p : Pattern} {index : List ℕ} (k : Kept m us f p index) where
  abbrev All : List ℕ
  All = flat m.wires ++ us

  abbrev Now : List (List ℕ)
  Now = m.wires ++ (us ∷ [])

  flat_now : flat Now ≡ All
  flat_now = flat_append m.wires (us ∷ []) ∙ rw (flat_one us)

  all_now : flat Now ++ [] ≡ All
  all_now = append-nil (flat Now) ∙ flat_now

  now_long : length Now ≡ length m.wires + 1
  now_long = length-append m.wires (us ∷ [])

  -- the rest does not change
  kept_faced : (c : ℕ) (wires : List ℕ)
      → (SidesKept m us f p index → (c ≡ min (length Now) 1025) × (length All ≤ 4096 → WiresKept m.wires f p → Tabled 1024 wires (map length Now)))
      → Kept (with_wire m us) [] (faced f c) (with_wires p wires) index
  kept_faced c wires new = record {
    points = k.points;
    labels = k.labels;
    edges = λ h.
        let e = k.edges h in
        record {
          count = e.count;
          sides = λ g.
              let s = e.sides g in
              record {
                edges = s.edges;
                indexed = s.indexed;
                used = rw all_now s.used;
                uses = rw all_now s.uses;
                faces = (new s).0;
                wires = λ l.
                    let l' : length All ≤ 4096 = rw all_now at l in
                    record { begun = rw flat_now (omega (arith, s.used)); table = (new s).1 l' (s.wires l') };
              };
        };
  }

  lengths : map length Now ≡ map length m.wires ++ (length us ∷ [])
  lengths = map_append m.wires (us ∷ [])

  pub kept_face_over : 1024 ≤ f.faces → Kept (with_wire m us) [] (faced f 1025) p index
  kept_face_over h =
      kept_faced 1025 p.wires
      (λ s. (
        omega (arith, s.faces, now_long),
        λ l w. rw lengths (tabled_over 1024 p.wires (map length m.wires) (length us ∷ []) (omega (arith, s.faces, length-map m.wires length)) w.table),
      ))

  module _ (few : f.faces < 1024) where
    -- no mesh has fewer uses than before its last face
    pub kept_face_wrong : f.uses < f.begun → Kept (with_wire m us) [] (faced f (f.faces + 1)) p index
    kept_face_wrong h =
        kept_faced (f.faces + 1) p.wires
        (λ s. (omega (arith, s.faces, now_long), λ l w. absurd (omega (arith, s.used, w.begun, length-append (flat m.wires) us))))

    pub kept_face : {p' : Pattern} {n : ℕ} → length p.wires ≡ 1024 → n ≡ short (f.uses - f.begun) → p' ≡ with_wires p (set p.wires f.faces n)
        → Kept (with_wire m us) [] (faced f (f.faces + 1)) p' index
    kept_face {p'} {n} full is e =
        rw e
        (kept_faced (f.faces + 1) (set p.wires f.faces n)
        (λ s. (
          omega (arith, s.faces, now_long),
          λ l w.
              let x : n ≡ length us = omega (arith, s.used, w.begun, length-append (flat m.wires) us) in
              let c : f.faces ≡ length (map length m.wires) = omega (arith, s.faces, length-map m.wires length) in
              rw (lengths, x, c) (tabled_next 1024 p.wires (map length m.wires) (length us) full (omega arith) w.table),
        )))
