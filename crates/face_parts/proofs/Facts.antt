-- What a pattern without fault says of a face: its wires among the lists; and of uses that name edges.
use Prim.Native.Nat.{◌<◌, ◌≤◌, ℕ}
use mathlib.Core.Bool.{Bool, ◌&&◌, false, true}
use mathlib.Core.List.{List, map}
use mathlib.Core.Path.{◌∙◌, ◌≡◌, ap, sym}
use native.Mathlib.Omega.{arith}
use lib.Dec.{ltb}
use lib.ListN.{get_or, length, length-map}
use borrow.Author.Tests.{eqb-true, le-ltb, lt-ltb, ltb-true}
use Rattle.edge.specs.Edges.{back_number, front_number}
use Rattle.edge.specs.Uses.{edge_number}
use Rattle.face.specs.Faces.{wire_count}
use Rattle.face_edits.specs.FaceEdits.{are_uses, backs_in, boundaries, fronts_in, is_face, name_edges}
use Rattle.face_parts.proofs.Laws.{all_pass, flat_is, lengths_are, lengths_long, uses_inside, uses_long, wires_inside}
use Rattle.face_parts.specs.Parts.{lengths_at, uses_at}
use Rattle.lists.proofs.Count.{All}
use Rattle.lists.proofs.Parts.{all_place}
use Rattle.lists.specs.Lists.{count, flat, sum}
use Rattle.pattern.proofs.Counts.{edges_counted, faces_counted, points_counted, uses_counted, wires_counted}
use Rattle.pattern.proofs.Named.{faces_summed, named, point_named, wires_summed}
use Rattle.pattern.specs.Contents.{Content, Pattern, content}
use Rattle.pattern.specs.declared.Lists.{Lists}
use Rattle.shell.specs.Shells.{face_number}
use Rattle.shell_wires.proofs.Facts.{Fine, records_fine}
use Rattle.shell_wires.specs.Lent.{Lent}
use Rattle.wire.proofs.Laws.{named_part}
use Rattle.wire.specs.Named.{Named}

-- the wires of face f: their uses one after the other, their lengths
pub record Stands (c : Content) (f : ℕ) (uses lengths : List ℕ) : Type 0 where
  pub its_uses : uses ≡ flat (boundaries c f)
  pub its_lengths : lengths ≡ map length (boundaries c f)

pub its_number : (c : Content) (f : ℕ) (uses lengths : List ℕ) → Stands c f uses lengths → length lengths ≡ length (boundaries c f)
its_number c f uses lengths s = ap length s.its_lengths ∙ length-map (boundaries c f) length

module _ (p : Pattern) (s : Fine p) where
  abbrev edges : ℕ
  edges = get_or p.counts 1 0

  abbrev faces : ℕ
  faces = get_or p.counts 4 0

  abbrev c : Content
  c = content p

  -- the faces' numbers of wires
  abbrev counts : List ℕ
  counts = map wire_count c.faces

  -- the ends of the edges
  abbrev fronts : List ℕ
  fronts = fronts_in c

  abbrev backs : List ℕ
  backs = backs_in c

  pub fronts_count : length fronts ≡ edges
  fronts_count = length-map c.edges front_number ∙ edges_counted p s.limits s.full

  pub backs_count : length backs ≡ edges
  backs_count = length-map c.edges back_number ∙ edges_counted p s.limits s.full

  counts_long : length counts ≡ faces
  counts_long = length-map c.faces wire_count ∙ faces_counted p s.limits s.full

  -- a face of the pattern
  module _ (f : ℕ) (here : face_number f < faces) where
    abbrev g : ℕ
    g = face_number f

    among : g < length counts
    among = omega (arith, here, counts_long)

    all_wires : sum counts ≡ length c.wires
    all_wires = faces_summed c (records_fine p s)

    all_uses : sum c.wires ≡ length c.uses
    all_uses = wires_summed c (records_fine p s)

    boundaries_flat : flat (boundaries c f) ≡ uses_at counts c.wires g c.uses
    boundaries_flat = flat_is counts c.wires c.uses g among all_wires all_uses

    sizes_are : map length (boundaries c f) ≡ lengths_at counts g c.wires
    sizes_are = lengths_are counts c.wires c.uses g among all_wires all_uses

    pub stands : {lists : Lists} → Lent p lists → (uses lengths : List ℕ) → uses ≡ uses_at lists.faces.now lists.wires.now g lists.uses.now → lengths ≡ lengths_at lists.faces.now g lists.wires.now → Stands c f uses lengths
    stands l uses lengths x y = record {
      its_uses = rw (l.listed.faces_are, l.wires_are, l.uses_are) at x ∙ sym boundaries_flat;
      its_lengths = rw (l.listed.faces_are, l.wires_are) at y ∙ sym sizes_are;
    }

    -- how many uses and wires it has at most; its uses name edges, which name points
    pub uses_few : length (flat (boundaries c f)) ≤ 4096
    uses_few = omega (arith, ap length boundaries_flat, uses_long counts c.wires c.uses g among all_wires all_uses, uses_inside counts c.wires c.uses g among all_wires all_uses, uses_counted p s.limits s.full, s.limits.uses)

    pub sizes_few : length (map length (boundaries c f)) ≤ 1024
    sizes_few = omega (arith, ap length sizes_are, lengths_long counts c.wires c.uses g among all_wires all_uses, wires_inside counts c.wires c.uses g among all_wires all_uses, wires_counted p s.limits s.full, s.limits.wires)

    pub face_named : Named fronts backs (flat (boundaries c f))
    face_named =
        let all = named c (records_fine p s) (omega (arith, points_counted p s.limits s.full, s.limits.points)) in
        rw boundaries_flat (named_part fronts backs c.uses all _ _)

  -- uses that name edges of the pattern
  module _ (us : List ℕ) (ok : name_edges us edges ≡ true) where
    names_edges : All (λ (u : ℕ). ltb (edge_number u) edges ≡ true) us
    names_edges =
        let q : ℕ → Bool = λ (u : ℕ). ltb (edge_number u) edges in
        all_pass q us (eqb-true (count q us) (length us) ok)

    names_edge : (k : ℕ) → k < length us → edge_number (get_or us k 0) < edges
    names_edge k h =
        ltb-true (edge_number (get_or us k 0)) edges (all_place (λ (u : ℕ). ltb (edge_number u) edges ≡ true) 0 us names_edges k h)

    pub uses_named : Named fronts backs us
    uses_named = record {
      alike = backs_count ∙ sym fronts_count;
      edge = λ k h. omega (arith, names_edge k h, fronts_count);
      point = λ k h. omega (arith, point_named (content p) (records_fine p s) (get_or us k 0) (omega (arith, names_edge k h, edges_counted p s.limits s.full)), points_counted p s.limits s.full, s.limits.points);
    }

  -- ---- 3, as the definitions have it

  uses_are : (us : List ℕ) → are_uses (content p) us ≡ name_edges us edges
  uses_are us = rw (edges_counted p s.limits s.full)

  module _ (f : ℕ) where
    pub no_face : faces ≤ face_number f → is_face (content p) f ≡ false
    no_face h = le-ltb (face_number f) (length (content p).faces) (omega (arith, h, faces_counted p s.limits s.full))

    pub is_face_lem : face_number f < faces → is_face (content p) f ≡ true
    is_face_lem h = lt-ltb (face_number f) (length (content p).faces) (omega (arith, h, faces_counted p s.limits s.full))

    module _ (us : List ℕ) where
      pub face_missing : faces ≤ face_number f → (is_face (content p) f && are_uses (content p) us) ≡ false
      face_missing h = rw (no_face h)

      module _ (here : face_number f < faces) where
        pub uses_missing : name_edges us edges ≡ false → (is_face (content p) f && are_uses (content p) us) ≡ false
        uses_missing e = rw (is_face_lem here, uses_are us, e)

        pub all_named : name_edges us edges ≡ true → (is_face (content p) f && are_uses (content p) us) ≡ true
        all_named e = rw (is_face_lem here, uses_are us, e)

-- ---- the same of the lists as they are lent

module _ (p : Pattern) {lists : Lists} (s : Fine p) (l : Lent p lists) where
  pub faces_lent : length lists.faces.now ≡ get_or p.counts 4 0
  faces_lent = ap length l.listed.faces_are ∙ counts_long p s

  pub edges_lent : length lists.ends.fronts.now ≡ get_or p.counts 1 0
  edges_lent = ap length l.fronts_are ∙ fronts_count p s
