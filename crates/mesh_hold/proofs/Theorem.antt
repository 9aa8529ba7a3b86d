-- An accepted mesh: its file is read back as it is, its openings hold, its one shell shows each face once.
use Rattle.errors.specs.declared.CallError.TheVariants.{Unread}
use Prim.Native.Nat.{◌%◌, ◌<◌, ◌≤◌, suc, zero, ℕ}
use mathlib.Core.List.{List, [], ◌++◌, ◌∷◌, map}
use mathlib.Core.Path.{◌∙◌, ◌≡◌, ap, refl, sym}
use native.Mathlib.Omega.{arith}
use lib.Ieee.{binary64}
use lib.Ieee.Bits.{of_bits-fits}
use lib.ListN.{get_or, length, length-map}
use lib.Seq.{take_all}
use borrow.Author.Tests.{lt-leb}
use Rattle.edge.specs.declared.Edge.{Edge}
use Rattle.errors.proofs.Laws.{none_left, none_right}
use Rattle.face.specs.Faces.{wire_count}
use Rattle.lists.proofs.Count.{all_map}
use Rattle.lists.proofs.Flat.{get_d_tabulate, tabulate_of}
use Rattle.lists.proofs.Laws.{length_tabulate, map_tabulate}
use Rattle.lists.proofs.Marks.{AllBelow}
use Rattle.lists.proofs.Parts.{all_place, split_flat}
use Rattle.lists.specs.Lists.{flat, numbers, split, sum}
use Rattle.mesh.specs.Mesh.{Mesh, import_content, import_faults, lines_faults, lines_mesh, mesh_content, no_mesh}
use Rattle.mesh_hold.proofs.Checks.{face_of, import_fine, sum_lengths, uses_named}
use Rattle.mesh_hold.proofs.Kept.{Fine, map_none}
use Rattle.mesh_hold.proofs.Sides.{Closed, Sided}
use Rattle.mesh_hold.specs.MeshTheorems.{ImportPromised, import_wires}
use Rattle.pattern.proofs.Counts.{Limited, limited}
use Rattle.pattern.specs.Checks.{content_faults, count_faults}
use Rattle.pattern.specs.Contents.{counts_of, zero_edge, zero_face}
use Rattle.pattern_file.proofs.Fits.{EdgeFits, FaceFits, Fits}
use Rattle.pattern_file.proofs.RoundTrip.{read_of_written}
use Rattle.pattern_file.specs.File.{file_bytes, file_content, file_faults}
use Rattle.shell.proofs.Level.{IsUse}
use Rattle.shell.proofs.Theorem.{promised}
use Rattle.shell.specs.OpeningsHold.{OpeningsPromised}
use Rattle.shell.specs.Shells.{shell_wires, shown_wire, shown_wires}
use Rattle.text.specs.Text.{lines}

-- ---- every number of an accepted mesh is one of its record's width

at_most_sum : (ns : List ℕ) (k : ℕ) → get_or ns k 0 ≤ sum ns
unfolding sum
at_most_sum [] k = omega arith
at_most_sum (n ∷ ns) zero = omega arith
at_most_sum (n ∷ ns) (suc k) = omega (arith, at_most_sum ns k)

uses_low : (m : Mesh) → Fine m m → AllBelow 65536 (mesh_content m).uses
uses_low m h k l = (all_place (IsUse (length m.edges)) 0 (mesh_content m).uses (uses_named m h) k l).0

module _ (m : Mesh) (h : Fine m m) (few : Limited (counts_of (mesh_content m))) where
  edge_fits : (e : Edge) → Sided (length m.points) e → EdgeFits e
  edge_fits e t = record {
    front = omega (arith, t.front, few.points);
    back = omega (arith, t.back, few.points);
    t0 = rw t.curve (of_bits-fits binary64 0);
    t1 = rw t.curve (of_bits-fits binary64 0x3ff0_0000_0000_0000);
  }

  mesh_fits : Fits (mesh_content m)
  mesh_fits =
      let n = length m.wires in
      let low : n ≤ 1024 = omega (arith, few.wires, length-map m.wires length) in
      record {
        points = all_place (λ (x : ℕ). x < 4294967296) 0 m.points h.labels;
        edges = λ k l. edge_fits (get_or m.edges k zero_edge) (all_place (Sided (length m.points)) zero_edge m.edges h.edges k l);
        uses = uses_low m h;
        wires = λ k l. omega (arith, at_most_sum (map length m.wires) k, sum_lengths m.wires, few.uses);
        faces = all_place FaceFits zero_face (map face_of m.wires)
            (all_map (Closed m.edges) FaceFits face_of (λ us t. record { wires = omega arith; surface = omega arith }) m.wires h.wires);
        shells = all_place (λ (x : ℕ). x < 65536) 0 (n ∷ []) (omega arith, tt);
        listings = λ k l.
            let small : k < n = omega (arith, length_tabulate n (λ (j : ℕ). j)) in
            omega (arith, get_d_tabulate n (λ (j : ℕ). j) k 0 small);
      }

-- ---- its shell

one_wire : (wires : List (List ℕ)) → split (map wire_count (map face_of wires)) wires ≡ map (λ (us : List ℕ). us ∷ []) wires
unfolding split
one_wire [] = refl
one_wire (us ∷ wires) = rw (one_wire wires)

flat_ones : (wires : List (List ℕ)) → flat (map (λ (us : List ℕ). us ∷ []) wires) ≡ wires
unfolding flat
flat_ones [] = refl
flat_ones (us ∷ wires) = rw (flat_ones wires)

shown_plain : (l : ℕ) → l < 32768 → (wires : List (List ℕ)) → map (shown_wire l) wires ≡ wires
shown_plain l h [] = refl
shown_plain l h (us ∷ wires) = rw (lt-leb 32768 l h, shown_plain l h wires)

-- faces listed one after the other, with +
listed_all : (faces : List (List (List ℕ))) → length faces ≤ 32768 → map (shown_wires faces) (numbers (length faces)) ≡ faces
listed_all faces few =
    map_tabulate (shown_wires faces) (length faces) (λ (k : ℕ). k)
    ∙ tabulate_of faces [] (shown_wires faces) (λ k h. let e : k % 32768 ≡ k = omega arith in rw e (shown_plain k (omega arith) (get_or faces k [])))

mesh_shown : (m : Mesh) → length m.wires ≤ 32768 → shell_wires (mesh_content m) 0 ≡ m.wires
unfolding shell_wires split
mesh_shown m few =
    let n = length m.wires in
    let faces = map (λ (us : List ℕ). us ∷ []) m.wires in
    let e : length faces ≡ n = length-map m.wires (λ (us : List ℕ). us ∷ []) in
    rw (take_all n (numbers n) (omega (arith, length_tabulate n (λ (k : ℕ). k))), split_flat m.wires, one_wire m.wires, ← e, listed_all faces (omega arith)) (flat_ones m.wires)

-- ---- an accepted mesh

record Accepted (s : List ℕ) : Type 0 where
  lines : lines_faults 1 no_mesh (lines s) ≡ []
  counts : count_faults (counts_of (import_content s)) ≡ []
  content : content_faults (import_content s) ≡ []

accepted : (s : List ℕ) → import_faults s ≡ [] → Accepted s
accepted s ok =
    let counts = count_faults (counts_of (import_content s)) in
    let content = content_faults (import_content s) in
    let first = lines_faults 1 no_mesh (lines s) in
    let rest : counts ++ content ≡ [] = map_none Unread (counts ++ content) (none_right first (map Unread (counts ++ content)) ok) in
    record { lines = none_left first (map Unread (counts ++ content)) ok; counts = none_left counts content rest; content = none_right counts content rest }

module _ (s : List ℕ) (ok : import_faults s ≡ []) where
  abbrev mesh : Mesh
  mesh = lines_mesh 1 no_mesh (lines s)

  fine : Fine mesh mesh
  fine = import_fine s (accepted s ok).lines (accepted s ok).counts

  few : Limited (counts_of (import_content s))
  few = limited (counts_of (import_content s)) refl (accepted s ok).counts

  -- the reading checks accept its file, and that holds just the content that the definition gives
  pub import_file : (file_faults (file_bytes (import_content s)) ≡ []) × (file_content (file_bytes (import_content s)) ≡ import_content s)
  import_file = read_of_written (import_content s) (accepted s ok).counts (accepted s ok).content (mesh_fits mesh fine few)

  pub import_openings : (n : ℕ) → OpeningsPromised (import_content s) n
  import_openings n = promised (import_content s) (accepted s ok).content (uses_low mesh fine) n

  pub file_openings_lem : (n : ℕ) → OpeningsPromised (file_content (file_bytes (import_content s))) n
  file_openings_lem n = rw import_file.1 (import_openings n)

  -- shell 0 shows the wire of each face once, as it was drawn
  pub import_shown : shell_wires (import_content s) 0 ≡ import_wires s
  import_shown = mesh_shown mesh (omega (arith, few.wires, length-map (import_wires s) length))

-- one shell, that lists each face once
pub import_shell : (s : List ℕ) → ((import_content s).shells ≡ length (import_content s).faces ∷ []) × ((import_content s).listings ≡ numbers (length (import_content s).faces))
import_shell s = let e = length-map (import_wires s) face_of in (ap (λ (n : ℕ). n ∷ []) (sym e), ap numbers (sym e))

pub import_promised : (s : List ℕ) → ImportPromised s
import_promised s = record { accepted = λ ok. (import_file s ok).0; same = λ ok. (import_file s ok).1; openings = λ ok. file_openings_lem s ok }
