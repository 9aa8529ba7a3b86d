-- The reading checks first; then each test is one of the definition's, in sequence.
use Prim.Native.Nat.{◌<◌, ℕ}
use mathlib.Core.List.{List, []}
use mathlib.Core.Path.{◌∙◌, ◌≡◌, ap, sym}
use native.Mathlib.Omega.{arith}
use lib.ListN.{get_or}
use Rattle.errors.proofs.Laws.{accepted_none, handed_on}
use Rattle.face_edits.specs.FaceEdits.{surface_of}
use Rattle.face_parts.proofs.Facts.{Stands, faces_lent, stands}
use Rattle.face_parts.proofs.Laws.{uses_inside, wires_inside}
use Rattle.face_parts.proofs.Owed.{handed_by, unread_owed}
use Rattle.glue.proofs.Faces.{first_unnamed, glue_owed, parts_fit, second_unnamed, signs_differ, surface_stored, surfaces_differ}
use Rattle.glue_walk.specs.Walks.{PartFits}
use Rattle.pattern.specs.Checks.{pattern_faults}
use Rattle.pattern.specs.Contents.{content}
use Rattle.shell.specs.Shells.{face_number}
use Rattle.shell_wires.proofs.Facts.{Fine}
use Rattle.shell_wires.proofs.Held.{held_counts, held_fine, held_lent}
use Rattle.shell_wires.proofs.Made.{faces_few, faces_summed_lem, wires_few, wires_summed_lem}
use Rattle.shell_wires.specs.Lent.{Lent}
use Rattle.store.specs.Store.{count_table, held}
use Rattle.glue.proofs.glue_at_boundaries.Goals as goal
use Rattle.glue.proofs.glue_at_boundaries.Goals.{After-counts_in, After-face_in-a, After-face_in-b, After-face_wires-first, After-face_wires-second, After-lists_in-lists, Else-i-lists, Else-j-lists, In_ok-check}

-- a record from the pairs that a law gives
split3 : {A B C R : Type 0} → (A → B → C → R) → A × (B × C) → R
split3 f p = f p.0 p.1.0 p.1.1

-- the checks found no fault
no_faults : (c : In_ok-check) → pattern_faults (held c.args.t.now c.args.spans.now) ≡ []
no_faults c = accepted_none (pattern_faults _) (sym c.check.ensures ∙ c.in_ok-check.was)

good : (c : In_ok-check) → pattern_faults (held c.args.t.now c.args.spans.now) ≡ [] → Fine (held c.args.t.now c.args.spans.now)
good c ok = held_fine c.args.t.now c.args.spans.now c.tables_known.ensures ok

-- the lists are those of the pattern
lent : (c : After-lists_in-lists) → pattern_faults (held c.args.t.now c.args.spans.now) ≡ [] → Lent (held c.args.t.now c.args.spans.now) c.lists_in-lists.result
lent c ok = let e = c.lists_in-lists.ensures in
    held_lent c.args.t.now c.args.spans.now c.tables_known.ensures ok e.ends e.uses e.wires e.faces e.shells e.listings

-- the faces are two of the pattern's
first_here : (c : Else-i-lists) → Lent (held c.args.t.now c.args.spans.now) c.lists_in-lists.result → Fine (held c.args.t.now c.args.spans.now) → face_number c.args.f < get_or (count_table c.args.t.now) 4 0
first_here c l s = omega (arith, c.if-i-lists.false, c.from-i.ensures, faces_lent _ s l)

second_here : (c : Else-j-lists) → Lent (held c.args.t.now c.args.spans.now) c.lists_in-lists.result → Fine (held c.args.t.now c.args.spans.now) → face_number c.args.g < get_or (count_table c.args.t.now) 4 0
second_here c l s = omega (arith, c.if-j-lists.false, c.from-j.ensures, faces_lent _ s l)

-- their surfaces
first_surface : (c : After-face_in-a) → Fine (held c.args.t.now c.args.spans.now) → face_number c.args.f < get_or (count_table c.args.t.now) 4 0 → surface_of (content (held c.args.t.now c.args.spans.now)) c.args.f ≡ c.face_in-a.result.surface
first_surface c s here = surface_stored c.args.t.now c.args.spans.now s c.args.f here _ c.from-i.ensures _ c.face_in-a.ensures

second_surface : (c : After-face_in-b) → Fine (held c.args.t.now c.args.spans.now) → face_number c.args.g < get_or (count_table c.args.t.now) 4 0 → surface_of (content (held c.args.t.now c.args.spans.now)) c.args.g ≡ c.face_in-b.result.surface
second_surface c s here = surface_stored c.args.t.now c.args.spans.now s c.args.g here _ c.from-j.ensures _ c.face_in-b.ensures

-- their wires
first_there : (c : After-face_wires-first) → Lent (held c.args.t.now c.args.spans.now) c.lists_in-lists.result → Fine (held c.args.t.now c.args.spans.now) → face_number c.args.f < get_or (count_table c.args.t.now) 4 0
    → Stands (content (held c.args.t.now c.args.spans.now)) c.args.f c.face_wires-first.result.uses.now c.face_wires-first.result.lengths.now
first_there c l s here = stands _ s c.args.f here l _ _ (rw c.from-i.ensures at c.face_wires-first.ensures.uses) (rw c.from-i.ensures at c.face_wires-first.ensures.lengths)

second_there : (c : After-face_wires-second) → Lent (held c.args.t.now c.args.spans.now) c.lists_in-lists.result → Fine (held c.args.t.now c.args.spans.now) → face_number c.args.g < get_or (count_table c.args.t.now) 4 0
    → Stands (content (held c.args.t.now c.args.spans.now)) c.args.g c.face_wires-second.result.uses.now c.face_wires-second.result.lengths.now
second_there c l s here = stands _ s c.args.g here l _ _ (rw c.from-j.ensures at c.face_wires-second.ensures.uses) (rw c.from-j.ensures at c.face_wires-second.ensures.lengths)

points_there : (c : After-counts_in) → get_or c.counts_in.result 0 0 ≡ get_or (count_table c.args.t.now) 0 0
points_there c = ap (λ (ns : List ℕ). get_or ns 0 0) c.counts_in.ensures

-- what is lent of the two faces can be glued
fit : (c : After-counts_in) → Lent (held c.args.t.now c.args.spans.now) c.lists_in-lists.result → Fine (held c.args.t.now c.args.spans.now) → face_number c.args.f < get_or (count_table c.args.t.now) 4 0 → face_number c.args.g < get_or (count_table c.args.t.now) 4 0
    → Stands (content (held c.args.t.now c.args.spans.now)) c.args.f c.face_wires-first.result.uses.now c.face_wires-first.result.lengths.now
    → Stands (content (held c.args.t.now c.args.spans.now)) c.args.g c.face_wires-second.result.uses.now c.face_wires-second.result.lengths.now
    → let ends = c.lists_in-lists.result.ends in
    let points = get_or c.counts_in.result 0 0 in
    PartFits ends.fronts.now ends.backs.now points c.face_wires-first.result.uses.now × PartFits ends.fronts.now ends.backs.now points c.face_wires-second.result.uses.now
fit c l s x y one other = parts_fit _ s c.args.f c.args.g c.args.uses.now c.args.lens.now x y _ _ _ _ _ l.fronts_are l.backs_are one.its_uses other.its_uses (ap (λ (ns : List ℕ). get_or ns 0 0) c.counts_in.ensures)

pub returns-in_err-check : goal.returns-in_err-check
returns-in_err-check c =
    split3 (λ x y z. record { value = x; uses_after = y; lens_after = z }) (unread_owed _ _ _ _ _ _ (sym c.check.ensures ∙ c.in_err-check.was) _ (handed_on _ _ c.from_residual.ensures.1))

pub lists_in-lists-requires : goal.lists_in-lists-requires
lists_in-lists-requires c = held_counts c.args.t.now c.args.spans.now c.tables_known.ensures (no_faults (goal.at.lists_in-lists-requires c).In_ok-check)

pub returns-then-i-lists : goal.returns-then-i-lists
returns-then-i-lists c = let at = goal.at.returns-then-i-lists c in
    let ok = no_faults at.In_ok-check in
    let s = good at.In_ok-check ok in
    let l = lent at.After-lists_in-lists ok in
    split3 (λ x y z. record { value = x; uses_after = y; lens_after = z }) (first_unnamed _ s c.args.f c.args.g _ _ (omega (arith, c.if-i-lists.true, c.from-i.ensures, faces_lent _ s l)))

pub returns-then-j-lists : goal.returns-then-j-lists
returns-then-j-lists c = let at = goal.at.returns-then-j-lists c in
    let ok = no_faults at.In_ok-check in
    let s = good at.In_ok-check ok in
    let l = lent at.After-lists_in-lists ok in
    split3 (λ x y z. record { value = x; uses_after = y; lens_after = z }) (second_unnamed _ s c.args.f c.args.g _ _ (omega (arith, c.if-j-lists.true, c.from-j.ensures, faces_lent _ s l)))

pub face_in-a-requires : goal.face_in-a-requires
face_in-a-requires c = let at = goal.at.face_in-a-requires c in
    let ok = no_faults at.In_ok-check in
    let s = good at.In_ok-check ok in
    let l = lent at.After-lists_in-lists ok in
    let x = first_here at.Else-i-lists l s in
    omega (arith, x, c.from-i.ensures, s.limits.faces)

pub face_in-b-requires : goal.face_in-b-requires
face_in-b-requires c = let at = goal.at.face_in-b-requires c in
    let ok = no_faults at.In_ok-check in
    let s = good at.In_ok-check ok in
    let l = lent at.After-lists_in-lists ok in
    let x = first_here at.Else-i-lists l s in
    let y = second_here at.Else-j-lists l s in
    omega (arith, y, c.from-j.ensures, s.limits.faces)

pub returns-then-a-b : goal.returns-then-a-b
returns-then-a-b c = let at = goal.at.returns-then-a-b c in
    let ok = no_faults at.In_ok-check in
    let s = good at.In_ok-check ok in
    let l = lent at.After-lists_in-lists ok in
    let x = first_here at.Else-i-lists l s in
    let y = second_here at.Else-j-lists l s in
    split3 (λ x y z. record { value = x; uses_after = y; lens_after = z }) (surfaces_differ _ s c.args.f c.args.g _ _ x y (λ e. c.if-a-b.true (sym (first_surface at.After-face_in-a s x) ∙ e ∙ second_surface at.After-face_in-b s y)))

pub returns-then-f-g : goal.returns-then-f-g
returns-then-f-g c = let at = goal.at.returns-then-f-g c in
    let ok = no_faults at.In_ok-check in
    let s = good at.In_ok-check ok in
    let l = lent at.After-lists_in-lists ok in
    let x = first_here at.Else-i-lists l s in
    let y = second_here at.Else-j-lists l s in
    split3 (λ x y z. record { value = x; uses_after = y; lens_after = z }) (signs_differ _ s c.args.f c.args.g _ _ x y c.if-f-g.true)

pub face_wires-first-requires-clause-f_in_bounds : goal.face_wires-first-requires-clause-f_in_bounds
face_wires-first-requires-clause-f_in_bounds c = omega (arith, c.if-i-lists.false)

pub face_wires-first-requires-clause-few : goal.face_wires-first-requires-clause-few
face_wires-first-requires-clause-few c = let at = goal.at.face_wires-first-requires-clause-few c in
    let ok = no_faults at.In_ok-check in
    let s = good at.In_ok-check ok in
    let l = lent at.After-lists_in-lists ok in
    (faces_few _ l.listed, wires_few _ l)

pub face_wires-first-requires-clause-wires_inside : goal.face_wires-first-requires-clause-wires_inside
face_wires-first-requires-clause-wires_inside c = let at = goal.at.face_wires-first-requires-clause-wires_inside c in
    let lists = c.lists_in-lists.result in
    let l = lent at.After-lists_in-lists (no_faults at.In_ok-check) in
    wires_inside lists.faces.now lists.wires.now lists.uses.now c.from-i.result (omega (arith, c.if-i-lists.false)) (faces_summed_lem _ l) (wires_summed_lem _ l)

pub face_wires-first-requires-clause-uses_inside : goal.face_wires-first-requires-clause-uses_inside
face_wires-first-requires-clause-uses_inside c = let at = goal.at.face_wires-first-requires-clause-uses_inside c in
    let lists = c.lists_in-lists.result in
    let l = lent at.After-lists_in-lists (no_faults at.In_ok-check) in
    uses_inside lists.faces.now lists.wires.now lists.uses.now c.from-i.result (omega (arith, c.if-i-lists.false)) (faces_summed_lem _ l) (wires_summed_lem _ l)

pub face_wires-second-requires-clause-f_in_bounds : goal.face_wires-second-requires-clause-f_in_bounds
face_wires-second-requires-clause-f_in_bounds c = omega (arith, c.if-j-lists.false)

pub face_wires-second-requires-clause-few : goal.face_wires-second-requires-clause-few
face_wires-second-requires-clause-few c = let at = goal.at.face_wires-second-requires-clause-few c in
    let ok = no_faults at.In_ok-check in
    let s = good at.In_ok-check ok in
    let l = lent at.After-lists_in-lists ok in
    (faces_few _ l.listed, wires_few _ l)

pub face_wires-second-requires-clause-wires_inside : goal.face_wires-second-requires-clause-wires_inside
face_wires-second-requires-clause-wires_inside c = let at = goal.at.face_wires-second-requires-clause-wires_inside c in
    let lists = c.lists_in-lists.result in
    let l = lent at.After-lists_in-lists (no_faults at.In_ok-check) in
    wires_inside lists.faces.now lists.wires.now lists.uses.now c.from-j.result (omega (arith, c.if-j-lists.false)) (faces_summed_lem _ l) (wires_summed_lem _ l)

pub face_wires-second-requires-clause-uses_inside : goal.face_wires-second-requires-clause-uses_inside
face_wires-second-requires-clause-uses_inside c = let at = goal.at.face_wires-second-requires-clause-uses_inside c in
    let lists = c.lists_in-lists.result in
    let l = lent at.After-lists_in-lists (no_faults at.In_ok-check) in
    uses_inside lists.faces.now lists.wires.now lists.uses.now c.from-j.result (omega (arith, c.if-j-lists.false)) (faces_summed_lem _ l) (wires_summed_lem _ l)

pub glue_parts-requires-clause-part_fits : goal.glue_parts-requires-clause-part_fits
glue_parts-requires-clause-part_fits c = let at = goal.at.glue_parts-requires-clause-part_fits c in
    let ok = no_faults at.In_ok-check in
    let s = good at.In_ok-check ok in
    let l = lent at.After-lists_in-lists ok in
    let x = first_here at.Else-i-lists l s in
    let y = second_here at.Else-j-lists l s in
    let one = first_there at.After-face_wires-first l s x in
    let other = second_there at.After-face_wires-second l s y in
    (fit at.After-counts_in l s x y one other).0

pub glue_parts-requires-clause-part_fits_2 : goal.glue_parts-requires-clause-part_fits_2
glue_parts-requires-clause-part_fits_2 c = let at = goal.at.glue_parts-requires-clause-part_fits_2 c in
    let ok = no_faults at.In_ok-check in
    let s = good at.In_ok-check ok in
    let l = lent at.After-lists_in-lists ok in
    let x = first_here at.Else-i-lists l s in
    let y = second_here at.Else-j-lists l s in
    let one = first_there at.After-face_wires-first l s x in
    let other = second_there at.After-face_wires-second l s y in
    (fit at.After-counts_in l s x y one other).1

pub glue_parts-requires-clause-points_bound : goal.glue_parts-requires-clause-points_bound
glue_parts-requires-clause-points_bound c = let at = goal.at.glue_parts-requires-clause-points_bound c in
    let ok = no_faults at.In_ok-check in
    let s = good at.In_ok-check ok in
    let l = lent at.After-lists_in-lists ok in
    rw c.counts_in.ensures s.limits.points

pub returns : goal.returns
returns c = let at = goal.at.returns c in
    let ok = no_faults at.In_ok-check in
    let s = good at.In_ok-check ok in
    let l = lent at.After-lists_in-lists ok in
    let x = first_here at.Else-i-lists l s in
    let y = second_here at.Else-j-lists l s in
    let one = first_there at.After-face_wires-first l s x in
    let other = second_there at.After-face_wires-second l s y in
    split3 (λ x y z. record { value = x; uses_after = y; lens_after = z }) (glue_owed _ s c.args.f c.args.g c.args.uses.now c.args.lens.now x y _ _ _ _ _ l.fronts_are l.backs_are one.its_uses other.its_uses (points_there at.After-counts_in)
    (first_surface at.After-face_in-a s x ∙ c.if-a-b.false ∙ sym (second_surface at.After-face_in-b s y)) c.if-f-g.false _ _ _ c.glue_parts.ensures _ (handed_by _ _ c.map_err.ensures.cases))
