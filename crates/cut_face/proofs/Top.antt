-- The refusals before the cut of an outline, in sequence; the cut of an outline is the cut of the face that has it; what a pattern without fault says.
use Prim.Native.Nat.{◌<◌, ◌≤◌, ℕ}
use Prim.{⊥}
use mathlib.Core.Bool.{◌&&◌, false, true}
use mathlib.Core.List.{List, []}
use mathlib.Core.Path.{◌∙◌, ◌≡◌, refl, sym}
use native.Mathlib.Omega.{arith}
use lib.ListN.{get_or, length, length-map}
use borrow.Author.Tests.{eq-eqb, ne_eqb}
use Rattle.cut_face_outline.specs.Cuts.{cut_outline}
use Rattle.cut_face_results.proofs.Results.{Owes}
use Rattle.cut_face_results.specs.Results.{PointEnds, outcome}
use Rattle.edge.specs.Edges.{front_number}
use Rattle.edit_answers.specs.declared.FaceEditError.{FaceEditError}
use Rattle.edit_answers.specs.declared.FaceEditError.TheVariants.{NotOneWire, Unnamed}
use Rattle.errors.specs.declared.CallError.{CallError}
use Rattle.errors.specs.declared.CallError.TheVariants.{Refused}
use Rattle.face_edits.proofs.CutTheorem.{flat_only}
use Rattle.face_edits.specs.FaceEdits.{are_uses, backs_in, boundaries, cut_face_faults, cut_in_two, fronts_in, is_face, name_edges, outline_cut_faults, outline_of}
use Rattle.face_parts.proofs.Facts.{backs_count, face_named, fronts_count, uses_few, uses_named}
use Rattle.face_parts.proofs.Owed.{Owed, handed, handed_answer}
use Rattle.lists.specs.Lists.{flat}
use Rattle.pattern.proofs.Counts.{points_counted}
use Rattle.pattern.proofs.Named.{back_named, front_named}
use Rattle.pattern.proofs.Passed.{records_passed}
use Rattle.pattern.specs.Checks.{pattern_faults}
use Rattle.pattern.specs.Contents.{Content, Pattern, content}
use Rattle.shell.specs.Shells.{face_number}
use Rattle.std.specs.Prelude.{Err, Result}
use Rattle.shell_wires.proofs.Facts.{Fine, records_fine}
use Rattle.edge.specs.Below.{EdgesBelow}

-- ---- the answer on a face

module _ (p : Pattern) (f : ℕ) (us uses lens : List ℕ) (ok : pattern_faults p ≡ []) where
  abbrev c : Content
  c = content p

  abbrev m : ℕ
  m = length uses

  abbrev k : ℕ
  k = length lens

  abbrev es : List FaceEditError
  es = cut_face_faults c f us m k

  pub unnamed : (is_face c f && are_uses c us) ≡ false → Owed p es (cut_in_two c f us) uses lens (Err (Refused Unnamed)) uses lens
  unfolding flat
  unnamed e = rw (ok, e) (refl, (refl, refl))

  module _ (named : (is_face c f && are_uses c us) ≡ true) where
    pub not_one : (length (boundaries c f) ≡ 1 → ⊥) → Owed p es (cut_in_two c f us) uses lens (Err (Refused NotOneWire)) uses lens
    unfolding flat
    not_one h = let e = ne_eqb (length (boundaries c f)) 1 h in rw (ok, named, e) (refl, (refl, refl))

    pub cut_owed : length (boundaries c f) ≡ 1 → (fronts backs own : List ℕ) (a : Result (ℕ × ℕ) FaceEditError) (uses' lens' : List ℕ) → fronts ≡ fronts_in c → backs ≡ backs_in c → own ≡ flat (boundaries c f)
        → Owes (cut_outline fronts backs own us m k) a uses uses' lens lens' → (r : Result (ℕ × ℕ) (CallError FaceEditError)) → r ≡ handed a → Owed p es (cut_in_two c f us) uses lens r uses' lens'
    unfolding cut_outline outcome
    cut_owed one fronts backs own a uses' lens' ef eb eo o r hand =
        let e = eq-eqb (length (boundaries c f)) 1 one in
        let is : own ≡ outline_of c f = eo ∙ flat_only (boundaries c f) one in
        let w = rw (ef, eb, is) at o in
        let cut = outline_cut_faults (fronts_in c) (backs_in c) (outline_of c f) us m k in
        let faults : es ≡ cut = rw (named, e) in
        rw (ok, faults) (handed_answer cut _ _ _ w.0 hand, w.1)

-- ---- what a pattern without fault says

module _ (p : Pattern) (s : Fine p) where
  abbrev fronts : List ℕ
  fronts = fronts_in (content p)

  abbrev backs : List ℕ
  backs = backs_in (content p)

  few : length (content p).points ≤ 2048
  few = omega (arith, points_counted p s.limits s.full, s.limits.points)

  ends_stored : PointEnds fronts backs
  ends_stored = record {
    alike = backs_count p s ∙ sym (fronts_count p s);
    front = λ e h. omega (arith, few, front_named (content p) (records_passed (content p) (records_fine p s)).edges e (omega (arith, h, length-map (content p).edges front_number)));
    back = λ e h. omega (arith, few, back_named (content p) (records_passed (content p) (records_fine p s)).edges e (omega (arith, h, length-map (content p).edges front_number)));
  }

  pub cut_asks : (f : ℕ) (us : List ℕ) → face_number f < get_or p.counts 4 0 → name_edges us (get_or p.counts 1 0) ≡ true
      → (length (flat (boundaries (content p) f)) ≤ 4096) × (PointEnds fronts backs × (EdgesBelow (length fronts) (flat (boundaries (content p) f)) × EdgesBelow (length fronts) us))
  cut_asks f us here named = (uses_few p s f here, (ends_stored, ((face_named p s f here).edge, (uses_named p s us named).edge)))
