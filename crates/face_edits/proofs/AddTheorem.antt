-- A face with an added outline keeps the face rule, the turned outline of a reversed face too.
use Prim.Native.Nat.{◌+◌, ◌<◌, ℕ}
use mathlib.Core.Bool.{Bool, ◌&&◌, false, not, true}
use mathlib.Core.List.{List, [], ◌++◌, ◌∷◌, map, reverse}
use mathlib.Core.Logic.{◌⊎◌, inl, inr, ⊎_elim}
use mathlib.Core.Path.{◌∙◌, ◌≡◌, ap, refl, sym}
use native.Mathlib.Omega.{arith}
use lib.Dec.{eqb, leb}
use lib.ListN.{length-map, length-reverse}
use borrow.Author.Tests.{eqb-true, not-true}
use Rattle.edge.specs.Uses.{back_of, turned}
use Rattle.edit_answers.specs.declared.FaceEditError.{FaceEditError}
use Rattle.edit_answers.specs.declared.FaceEditError.TheVariants.{NoSpace, NotDisjointWires, Unnamed, Wire}
use Rattle.errors.proofs.Laws.{none_left, none_right, unless_passes}
use Rattle.errors.specs.declared.WireError.{WireError}
use Rattle.face_edits.specs.FaceEdits.{add_faults, added, are_uses, backs_in, boundaries, fits, fronts_in, is_face, keeps_rule, no_fault}
use Rattle.lists.proofs.Alike.{bit_none, no_dup_count, none_has}
use Rattle.lists.proofs.Count.{All, all_append, all_at, all_reverse, count_append, count_reverse}
use Rattle.lists.proofs.Laws.{cases, flat_append, left_true, right_true}
use Rattle.lists.proofs.Parts.{flat_one}
use Rattle.lists.specs.Lists.{count, disjoint, flat, has, pick, unless}
use Rattle.pattern.specs.Checks.{content_faults, outlines}
use Rattle.pattern.specs.Contents.{Content}
use Rattle.shell.proofs.Chain.{from}
use Rattle.shell.proofs.Level.{closed_level}
use Rattle.shell.proofs.Rings.{points_count}
use Rattle.shell.proofs.Shown.{closed_turned}
use Rattle.shell.proofs.Turned.{turned_count}
use Rattle.shell.proofs.Walked.{Ring}
use Rattle.shell.specs.Shells.{face_number}
use Rattle.shell_edits.proofs.Accepted.{Ruled, rule_fine, rule_ruled, ruled_face}
use Rattle.wire.proofs.Laws.{Sound, faultless_sound}
use Rattle.wire.specs.Wires.{closed, points, wire_faults}

-- a number of a list is in no list that is disjoint from it
disjoint_has : (xs ys : List ℕ) (q : ℕ) → disjoint xs ys ≡ true → count (eqb q) xs ≡ 0 ⊎ count (eqb q) ys ≡ 0
unfolding disjoint count
disjoint_has [] ys q d = inl refl
disjoint_has (x ∷ xs) ys q d =
    ⊎_elim
    (λ (e : eqb q x ≡ true).
    inr (rw (eqb-true q x e) (none_has x ys (not-true (has x ys) (left_true (not (has x ys)) (disjoint xs ys) d)))))
    (λ (e : eqb q x ≡ false).
    ⊎_elim (λ z. inl (omega (arith, bit_none q x e, z))) (λ z. inr z) (disjoint_has xs ys q (right_true (not (has x ys)) (disjoint xs ys) d)))
    (cases (eqb q x))

-- ---- the wire as the face stores it

module _ (fs bs : List ℕ) where
  -- a closed wire turned meets its points as often
  turned_from : (us : List ℕ) → All (λ (u : ℕ). u < 65536) us → closed fs bs us ≡ true → (q : ℕ)
      → count (from fs bs q) (map turned (reverse us)) ≡ count (from fs bs q) us
  turned_from us l h q =
      turned_count fs bs q (reverse us) (all_reverse (λ (u : ℕ). u < 65536) us l)
      ∙ count_reverse (λ (u : ℕ). eqb (back_of fs bs u) q) us
      ∙ sym (closed_level fs bs us h q)

  -- the wire as the face stores it
  module _ (us : List ℕ) (low : All (λ (u : ℕ). u < 65536) us) (sound : Sound fs bs us) where
    shown_ring : (b : Bool) → Ring fs bs (pick b (map turned (reverse us)) us)
    shown_ring true = (omega (arith, sound.used, length-map (reverse us) turned, length-reverse us), closed_turned fs bs us low sound.loops)
    shown_ring false = (sound.used, sound.loops)

    shown_from : (b : Bool) (q : ℕ) → count (from fs bs q) (pick b (map turned (reverse us)) us) ≡ count (from fs bs q) us
    shown_from true q = turned_from us low sound.loops q
    shown_from false q = refl

    -- one wire more, whose points are not among those of the others
    more_ruled : (wires : List (List ℕ)) → Ruled fs bs wires → disjoint (points fs bs us) (points fs bs (flat wires)) ≡ true → (b : Bool)
        → Ruled fs bs (wires ++ (pick b (map turned (reverse us)) us ∷ []))
    more_ruled wires r d b =
        let new = pick b (map turned (reverse us)) us in
        record {
          rings = all_append (Ring fs bs) wires (new ∷ []) r.rings (shown_ring b, tt);
          once = λ q.
              let joined : count (from fs bs q) (flat (wires ++ (new ∷ []))) ≡ count (from fs bs q) (flat wires) + count (from fs bs q) new =
              rw (flat_append wires (new ∷ []), flat_one new) (count_append (from fs bs q) (flat wires) new) in
              let here = no_dup_count (points fs bs us) sound.once q in
              let own = points_count fs bs us q in
              let other = points_count fs bs (flat wires) q in
              ⊎_elim
              (λ z. omega (arith, joined, shown_from b q, own, z, r.once q))
              (λ z. omega (arith, joined, shown_from b q, own, other, z, here))
              (disjoint_has (points fs bs us) (points fs bs (flat wires)) q d);
        }

-- ---- the theorem

no_faults : (es : List WireError) → map Wire es ≡ [] → es ≡ []
no_faults [] h = refl
no_faults (e ∷ es) h = cc

none_ruled : (fs bs : List ℕ) → Ruled fs bs []
unfolding flat count
none_ruled fs bs = record { rings = tt; once = λ q. omega arith }

-- the outlines of each face of a pattern without fault
pub stored_ruled : (c : Content) → content_faults c ≡ [] → (f : ℕ) → Ruled (fronts_in c) (backs_in c) (boundaries c f)
stored_ruled c ok f =
    all_at (Ruled (fronts_in c) (backs_in c)) [] (none_ruled (fronts_in c) (backs_in c)) (outlines c) (rule_ruled (fronts_in c) (backs_in c) 0 (outlines c) (rule_fine c ok)) (face_number f)

-- uses are numbers of 16 bits
pub added_ruled : (c : Content) (f : ℕ) (us : List ℕ) (m k : ℕ) → All (λ (u : ℕ). u < 65536) us → content_faults c ≡ [] → add_faults c f us m k ≡ []
    → keeps_rule (fronts_in c) (backs_in c) (added c f us) ≡ true
added_ruled c f us m k low ok none =
    let fs = fronts_in c in
    let bs = backs_in c in
    let wire = map Wire (wire_faults fs bs us) in
    let apart = unless {A = FaceEditError} (disjoint (points fs bs us) (points fs bs (flat (boundaries c f)))) NotDisjointWires in
    let room = unless {A = FaceEditError} (fits (added c f us) m k) NoSpace in
    let two : wire ++ apart ≡ [] = none_left (wire ++ apart) room (none_right (unless (is_face c f && are_uses c us) Unnamed) (wire ++ apart ++ room) none) in
    let sound = faultless_sound fs bs us (no_faults (wire_faults fs bs us) (none_left wire apart two)) in
    let off = unless_passes (disjoint (points fs bs us) (points fs bs (flat (boundaries c f)))) NotDisjointWires (none_right wire apart two) in
    ap no_fault (ruled_face fs bs 0 (added c f us) (more_ruled fs bs us low sound (boundaries c f) (stored_ruled c ok f) off (leb 32768 f)))
