-- The checks first; then the face and the uses; then the face's wires.
use Prim.Native.Nat.{◌<◌}
use mathlib.Core.Bool.{true}
use mathlib.Core.List.{[]}
use mathlib.Core.Path.{◌∙◌, ◌≡◌, sym}
use native.Mathlib.Omega.{arith}
use lib.ListN.{get_or}
use Rattle.add_boundary.proofs.Added.{add_owed, unnamed}
use Rattle.errors.proofs.Laws.{accepted_none, handed_on}
use Rattle.face_edits.specs.FaceEdits.{name_edges}
use Rattle.face_parts.proofs.Facts.{Stands, all_named, edges_lent, face_missing, face_named, faces_lent, sizes_few, stands, uses_few, uses_missing, uses_named}
use Rattle.face_parts.proofs.Laws.{uses_inside, wires_inside}
use Rattle.face_parts.proofs.Owed.{handed_by, unread_owed}
use Rattle.pattern.specs.Checks.{pattern_faults}
use Rattle.pattern.specs.Contents.{content}
use Rattle.shell.specs.Shells.{face_number}
use Rattle.shell_wires.proofs.Facts.{Fine}
use Rattle.shell_wires.proofs.Held.{held_counts, held_fine, held_lent}
use Rattle.shell_wires.proofs.Made.{faces_few, faces_summed_lem, wires_few, wires_summed_lem}
use Rattle.shell_wires.specs.Lent.{Lent}
use Rattle.store.specs.Store.{count_table, held}
use Rattle.add_boundary.proofs.try_add_boundary.Goals as goal
use Rattle.add_boundary.proofs.try_add_boundary.Goals.{After-face_wires-part, After-lists_in-lists, Else-face-lists, Else-not-are_uses, In_ok-check}

pair : {A B : Type 0} → A → B → A × B
pair a b = (a, b)

-- a record from the pairs that a law gives
split3 : {A B C R : Type 0} → (A → B → C → R) → A × (B × C) → R
split3 f p = f p.0 p.1.0 p.1.1

-- the checks found no fault
no_faults : (c : In_ok-check) → pattern_faults (held c.args.t.now c.args.spans.now) ≡ []
no_faults c = accepted_none (pattern_faults _) (sym c.check.ensures ∙ c.in_ok-check.was)

good : (c : In_ok-check) → pattern_faults (held c.args.t.now c.args.spans.now) ≡ [] → Fine (held c.args.t.now c.args.spans.now)
good c ok = held_fine c.args.t.now c.args.spans.now c.tables_known.ensures ok

-- the lists are those of the pattern
lent : (c : After-lists_in-lists) → pattern_faults (held c.args.t.now c.args.spans.now) ≡ [] → Lent (held c.args.t.now c.args.spans.now) c.lists_in-lists.result
lent c ok = let e = c.lists_in-lists.ensures in
    held_lent c.args.t.now c.args.spans.now c.tables_known.ensures ok e.ends e.uses e.wires e.faces e.shells e.listings

-- the face is one of the pattern's
here : (c : Else-face-lists) → Lent (held c.args.t.now c.args.spans.now) c.lists_in-lists.result → Fine (held c.args.t.now c.args.spans.now) → face_number c.args.f < get_or (count_table c.args.t.now) 4 0
here c l s = omega (arith, c.if-face-lists.false, c.from-face.ensures, faces_lent _ s l)

-- the uses name edges
named : (c : Else-not-are_uses) → Lent (held c.args.t.now c.args.spans.now) c.lists_in-lists.result → Fine (held c.args.t.now c.args.spans.now) → name_edges c.args.wire.now (get_or (count_table c.args.t.now) 1 0) ≡ true
named c l s = rw (edges_lent _ s l) at (sym c.are_uses.ensures ∙ c.if-not-are_uses.false)

-- the face's wires
there : (c : After-face_wires-part) → Lent (held c.args.t.now c.args.spans.now) c.lists_in-lists.result → Fine (held c.args.t.now c.args.spans.now) → face_number c.args.f < get_or (count_table c.args.t.now) 4 0
    → Stands (content (held c.args.t.now c.args.spans.now)) c.args.f c.face_wires-part.result.uses.now c.face_wires-part.result.lengths.now
there c l s face = stands _ s c.args.f face l _ _ (rw c.from-face.ensures at c.face_wires-part.ensures.uses) (rw c.from-face.ensures at c.face_wires-part.ensures.lengths)

pub returns-in_err-check : goal.returns-in_err-check
returns-in_err-check c =
    split3 (λ x y z. record { value = x; uses_after = y; lens_after = z }) (unread_owed _ _ _ _ _ _ (sym c.check.ensures ∙ c.in_err-check.was) _ (handed_on _ _ c.from_residual.ensures.1))

pub lists_in-lists-requires : goal.lists_in-lists-requires
lists_in-lists-requires c = held_counts c.args.t.now c.args.spans.now c.tables_known.ensures (no_faults (goal.at.lists_in-lists-requires c).In_ok-check)

pub returns-then-face-lists : goal.returns-then-face-lists
returns-then-face-lists c = let at = goal.at.returns-then-face-lists c in
    let ok = no_faults at.In_ok-check in
    let s = good at.In_ok-check ok in
    let l = lent at.After-lists_in-lists ok in
    split3 (λ x y z. record { value = x; uses_after = y; lens_after = z }) (unnamed _ _ _ _ _ ok (face_missing _ s c.args.f c.args.wire.now (omega (arith, c.if-face-lists.true, c.from-face.ensures, faces_lent _ s l))))

pub returns-then-not-are_uses : goal.returns-then-not-are_uses
returns-then-not-are_uses c = let at = goal.at.returns-then-not-are_uses c in
    let ok = no_faults at.In_ok-check in
    let s = good at.In_ok-check ok in
    let l = lent at.After-lists_in-lists ok in
    split3 (λ x y z. record { value = x; uses_after = y; lens_after = z }) (unnamed _ _ _ _ _ ok (uses_missing _ s c.args.f c.args.wire.now (here at.Else-face-lists l s) (rw (edges_lent _ s l) at (sym c.are_uses.ensures ∙ c.if-not-are_uses.true))))

pub face_wires-part-requires-clause-f_in_bounds : goal.face_wires-part-requires-clause-f_in_bounds
face_wires-part-requires-clause-f_in_bounds c = omega (arith, c.if-face-lists.false)

pub face_wires-part-requires-clause-few : goal.face_wires-part-requires-clause-few
face_wires-part-requires-clause-few c = let at = goal.at.face_wires-part-requires-clause-few c in
    let l = lent at.After-lists_in-lists (no_faults at.In_ok-check) in
    (faces_few _ l.listed, wires_few _ l)

pub face_wires-part-requires-clause-wires_inside : goal.face_wires-part-requires-clause-wires_inside
face_wires-part-requires-clause-wires_inside c = let at = goal.at.face_wires-part-requires-clause-wires_inside c in
    let lists = c.lists_in-lists.result in
    let l = lent at.After-lists_in-lists (no_faults at.In_ok-check) in
    wires_inside lists.faces.now lists.wires.now lists.uses.now c.from-face.result (omega (arith, c.if-face-lists.false)) (faces_summed_lem _ l) (wires_summed_lem _ l)

pub face_wires-part-requires-clause-uses_inside : goal.face_wires-part-requires-clause-uses_inside
face_wires-part-requires-clause-uses_inside c = let at = goal.at.face_wires-part-requires-clause-uses_inside c in
    let lists = c.lists_in-lists.result in
    let l = lent at.After-lists_in-lists (no_faults at.In_ok-check) in
    uses_inside lists.faces.now lists.wires.now lists.uses.now c.from-face.result (omega (arith, c.if-face-lists.false)) (faces_summed_lem _ l) (wires_summed_lem _ l)

pub invariant_of-own : goal.invariant_of-own
invariant_of-own c = let at = goal.at.invariant_of-own c in
    let ok = no_faults at.In_ok-check in
    let s = good at.In_ok-check ok in
    let l = lent at.After-lists_in-lists ok in
    let face = here at.Else-face-lists l s in
    record { named = rw (l.fronts_are, l.backs_are, (there at.After-face_wires-part l s face).its_uses) (face_named _ s c.args.f face) }

pub invariant_of-new : goal.invariant_of-new
invariant_of-new c = let at = goal.at.invariant_of-new c in
    let ok = no_faults at.In_ok-check in
    let s = good at.In_ok-check ok in
    let l = lent at.After-lists_in-lists ok in
    record { named = rw (l.fronts_are, l.backs_are) (uses_named _ s c.args.wire.now (named at.Else-not-are_uses l s)) }

pub add_wire-requires-clause-own_len_bound : goal.add_wire-requires-clause-own_len_bound
add_wire-requires-clause-own_len_bound c = let at = goal.at.add_wire-requires-clause-own_len_bound c in
    let ok = no_faults at.In_ok-check in
    let s = good at.In_ok-check ok in
    let l = lent at.After-lists_in-lists ok in
    let face = here at.Else-face-lists l s in
    let its = there at.After-face_wires-part l s face in
    rw (its.its_uses, its.its_lengths) (uses_few _ s c.args.f face, sizes_few _ s c.args.f face)

pub returns : goal.returns
returns c = let at = goal.at.returns c in
    let ok = no_faults at.In_ok-check in
    let s = good at.In_ok-check ok in
    let l = lent at.After-lists_in-lists ok in
    let face = here at.Else-face-lists l s in
    let its = there at.After-face_wires-part l s face in
    split3 (λ x y z. record { value = x; uses_after = y; lens_after = z }) (add_owed _ _ _ c.args.uses.now c.args.lens.now ok (all_named _ s c.args.f c.args.wire.now face (named at.Else-not-are_uses l s)) _ _ _ _ _ _ _ l.fronts_are l.backs_are its.its_uses its.its_lengths
    (pair c.add_wire.ensures.value (pair c.add_wire.ensures.uses_after c.add_wire.ensures.lens_after)) _ (handed_by _ _ c.map_err.ensures.cases))
