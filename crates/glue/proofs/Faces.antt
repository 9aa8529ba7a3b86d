-- Two faces of a pattern without fault.
use Prim.Native.Nat.{◌/◌, ◌<◌, ◌≤◌, ℕ}
use Prim.{⊥}
use mathlib.Core.Bool.{Bool, ◌&&◌, and-false, false, true}
use mathlib.Core.List.{List}
use mathlib.Core.Path.{◌∙◌, ◌≡◌, ap, refl, sym}
use native.Mathlib.Omega.{arith}
use lib.Dec.{eqb}
use lib.Ieee.{Float}
use lib.ListN.{get_or, length}
use lib.Seq.{get_or-take}
use borrow.Author.Tests.{eq-eqb, ne_eqb}
use Rattle.edge.specs.Uses.{edge_number}
use Rattle.edit_answers.specs.declared.FaceEditError.{FaceEditError}
use Rattle.edit_answers.specs.declared.FaceEditError.TheVariants.{FacesDiffer, Unnamed}
use Rattle.errors.specs.declared.CallError.{CallError}
use Rattle.errors.specs.declared.CallError.TheVariants.{Refused}
use Rattle.face.specs.declared.Face.{Face}
use Rattle.face_edits.specs.FaceEdits.{backs_in, boundaries, fronts_in, glue_faults, glued, is_face, meeting, met_faults, surface_of}
use Rattle.face_parts.proofs.Facts.{backs_count, face_named, fronts_count, is_face_lem, no_face}
use Rattle.face_parts.proofs.Owed.{Owed, handed, handed_answer}
use Rattle.glue_walk.specs.Walks.{PartFits}
use Rattle.glue_wires.specs.Glues.{Shown, Wrote}
use Rattle.lists.proofs.Flat.{get_d_tabulate}
use Rattle.lists.specs.Lists.{flat}
use Rattle.pattern.proofs.Counts.{edges_counted, points_counted}
use Rattle.pattern.proofs.Named.{point_named}
use Rattle.pattern.specs.Contents.{Content, Pattern, content, zero_face}
use Rattle.shell.specs.Shells.{face_number}
use Rattle.shell_edits.proofs.Remove.{end_named}
use Rattle.shell_wires.proofs.Facts.{Fine, records_fine}
use Rattle.std.specs.Prelude.{Err, Result}
use Rattle.store.specs.Store.{face_in, held}

-- ---- 3 and 20, then the rest

module _ (p : Pattern) (s : Fine p) (f g : ℕ) (us ls : List ℕ) where
  abbrev c : Content
  c = content p

  abbrev m : ℕ
  m = length us

  abbrev k : ℕ
  k = length ls

  abbrev faces : ℕ
  faces = get_or p.counts 4 0

  abbrev Glued : Result (ℕ × ℕ) (CallError FaceEditError) → List ℕ → List ℕ → Type 0
  Glued r us' ls' = Owed p (glue_faults c f g m k) (glued c f g) us ls r us' ls'

  abbrev alike : Bool
  alike = eqb (surface_of c f) (surface_of c g) && eqb (f / 32768) (g / 32768)

  unnamed : (is_face c f && is_face c g) ≡ false → Glued (Err (Refused Unnamed)) us ls
  unfolding flat
  unnamed e = let ok = s.ok in rw (ok, e) (refl, (refl, refl))

  pub first_unnamed : faces ≤ face_number f → Glued (Err (Refused Unnamed)) us ls
  first_unnamed h = unnamed (let e = no_face p s f h in rw e)

  pub second_unnamed : faces ≤ face_number g → Glued (Err (Refused Unnamed)) us ls
  second_unnamed h = unnamed (let e = no_face p s g h in rw e (and-false (is_face c f)))

  module _ (x : face_number f < faces) (y : face_number g < faces) where
    named : (is_face c f && is_face c g) ≡ true
    named = let e = is_face_lem p s f x in let d = is_face_lem p s g y in rw (e, d)

    differ : alike ≡ false → Glued (Err (Refused FacesDiffer)) us ls
    unfolding flat
    differ e = let ok = s.ok in rw (ok, named, e) (refl, (refl, refl))

    pub surfaces_differ : (surface_of c f ≡ surface_of c g → ⊥) → Glued (Err (Refused FacesDiffer)) us ls
    surfaces_differ h = differ (let e = ne_eqb (surface_of c f) (surface_of c g) h in rw e)

    pub signs_differ : (f / 32768 ≡ g / 32768 → ⊥) → Glued (Err (Refused FacesDiffer)) us ls
    signs_differ h = differ (let e = ne_eqb (f / 32768) (g / 32768) h in rw e (and-false (eqb (surface_of c f) (surface_of c g))))

    -- what is lent: the ends of the edges, the uses of the faces, so many points
    module _ (fronts backs first second : List ℕ) (points : ℕ) (ef : fronts ≡ fronts_in c) (eb : backs ≡ backs_in c) (ex : first ≡ flat (boundaries c f)) (ey : second ≡ flat (boundaries c g)) (ep : points ≡ get_or p.counts 0 0) where
      all : length c.points ≡ points
      all = points_counted p s.limits s.full ∙ sym ep

      within : (h : ℕ) → face_number h < faces → PartFits fronts backs points (flat (boundaries c h))
      within h z = record {
        ends = rw (ef, eb) (record { alike = backs_count p s ∙ sym (fronts_count p s); few = omega (arith, fronts_count p s, s.limits.edges) });
        each = λ i l.
            let u = get_or (flat (boundaries c h)) i 0 in
            let its = (face_named p s h z).edge i l in
            let e : edge_number u < length c.edges = omega (arith, its, fronts_count p s, edges_counted p s.limits s.full) in
            rw (ef, eb, ← all) (record {
              edge = its;
              front = point_named c (records_fine p s) u e;
              back = end_named c (records_fine p s) u e;
            });
      }

      pub parts_fit : PartFits fronts backs points first × PartFits fronts backs points second
      parts_fit = rw (ex, ey) (within f x, within g y)

      pub glue_owed : surface_of c f ≡ surface_of c g → f / 32768 ≡ g / 32768 → (a : Result (ℕ × ℕ) FaceEditError) (us' ls' : List ℕ)
          → ((c : Content) (f g : ℕ) → Shown c f g fronts backs first second points → Wrote (met_faults c (meeting c f g) m k) (glued c f g) us ls us' ls' a)
          → (r : Result (ℕ × ℕ) (CallError FaceEditError)) → r ≡ handed a → Glued r us' ls'
      glue_owed surfaces signs a us' ls' says r hand =
          let shown : Shown c f g fronts backs first second points = record { columns = record { begin = sym ef; end = sym eb }; one = sym ex; other = sym ey; all = all } in
          let w = says c f g shown in
          let ok = s.ok in
          let same = eq-eqb (surface_of c f) (surface_of c g) surfaces in
          let side = eq-eqb (f / 32768) (g / 32768) signs in
          let is : glue_faults c f g m k ≡ met_faults c (meeting c f g) m k = rw (named, same, side) in
          rw (ok, is) (handed_answer _ _ _ _ w.answer hand, (w.uses, w.lengths))

-- ---- the surface of a face in the store

pub surface_stored : (t : List ℕ) (spans : List Float) (s : Fine (held t spans)) (f : ℕ) → face_number f < get_or (held t spans).counts 4 0 → (i : ℕ) → i ≡ face_number f → (d : Face) → d ≡ face_in t i
    → surface_of (content (held t spans)) f ≡ d.surface
surface_stored t spans s f here i is d e =
    ap (λ (x : Face). x.surface)
    (get_or-take (get_or (held t spans).counts 4 0) (held t spans).faces (face_number f) zero_face here
    ∙ get_d_tabulate 256 (face_in t) (face_number f) zero_face (omega (arith, here, s.limits.faces)) ∙ sym (rw is at e))
