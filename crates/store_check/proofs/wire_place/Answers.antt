-- The checks first; then the place, which lies within the table of wires.
use Rattle.std.specs.Prelude.{Err}
use Prim.Native.Nat.{◌<◌}
use mathlib.Core.List.{[]}
use mathlib.Core.Path.{◌∙◌, ◌≡◌, ap, sym}
use native.Mathlib.Omega.{arith}
use lib.ListN.{get_or, length, length-take}
use lib.Seq.{length-take-le}
use Rattle.errors.proofs.Laws.{accepted_none, none_left, handed_on}
use Rattle.pattern.proofs.Counts.{Full, Limited, limited, wires_counted}
use Rattle.pattern.proofs.Outlines.{no_wire, place_refused, wire_there}
use Rattle.pattern.specs.Checks.{content_faults, count_faults, pattern_faults}
use Rattle.pattern.specs.Contents.{content}
use Rattle.store.proofs.View.{held_full, held_seven}
use Rattle.store.specs.Store.{held}
use Rattle.store_check.proofs.wire_place.Goals as goal
use Rattle.store_check.proofs.wire_place.Goals.{After-lists_in, After-tables_known, Else-w-wires, In_ok-check}

full : (c : After-tables_known) → Full (held c.args.t.now c.args.spans.now)
full c = held_full c.args.t.now c.args.spans.now c.tables_known.ensures

-- ---- what is known after the checks

passed : (c : In_ok-check) → pattern_faults (held c.args.t.now c.args.spans.now) ≡ []
passed c = accepted_none (pattern_faults _) (sym c.check.ensures ∙ c.in_ok-check.was)

limits : (c : In_ok-check) → Limited (held c.args.t.now c.args.spans.now).counts
limits c =
    let p = held c.args.t.now c.args.spans.now in
    limited p.counts (held_seven c.args.t.now c.args.spans.now c.tables_known.ensures) (none_left (count_faults p.counts) (content_faults (content p)) (passed c))

counts_fine : (c : In_ok-check) → count_faults (held c.args.t.now c.args.spans.now).counts ≡ []
counts_fine c = let p = held c.args.t.now c.args.spans.now in none_left (count_faults p.counts) (content_faults (content p)) (passed c)

-- the list of wires, and how long it is
long : (c : After-lists_in) → Limited (held c.args.t.now c.args.spans.now).counts → Full (held c.args.t.now c.args.spans.now) → length c.lists_in.result.wires.now ≡ get_or (held c.args.t.now c.args.spans.now).counts 3 0
long c s f = ap length c.lists_in.ensures.wires ∙ wires_counted (held c.args.t.now c.args.spans.now) s f

pub lists_in-requires : goal.lists_in-requires
lists_in-requires c = counts_fine (goal.at.lists_in-requires c).In_ok-check

pub returns-in_err-check : goal.returns-in_err-check
returns-in_err-check c =
    handed_on _ _ c.from_residual.ensures.1 ∙ (let p = held c.args.t.now c.args.spans.now in
    place_refused (pattern_faults p) (content p) c.args.w _ (sym c.check.ensures ∙ c.in_err-check.was))

pub returns-then-w-wires : goal.returns-then-w-wires
returns-then-w-wires c = let at = goal.at.returns-then-w-wires c in
    let l = long at.After-lists_in (limits at.In_ok-check) (full at.After-tables_known) in
    no_wire _ (passed at.In_ok-check) (limits at.In_ok-check) (full at.After-tables_known) c.args.w (omega (arith, l, c.if-w-wires.true))

pub slice_bounds-sum_of-end : goal.slice_bounds-sum_of-end
slice_bounds-sum_of-end c = sym (length-take-le c.args.w c.lists_in.result.wires.now (omega (arith, c.if-w-wires.false)))

pub sum_of-requires : goal.sum_of-requires
sum_of-requires c = let at = goal.at.sum_of-requires c in
    let l = long at.After-lists_in (limits at.In_ok-check) (full at.After-tables_known) in
    omega (arith, c.if-w-wires.false, l, (limits at.In_ok-check).wires, length-take c.args.w c.lists_in.result.wires.now)

pub returns : goal.returns
returns c = let at = goal.at.returns c in
    let l = long at.After-lists_in (limits at.In_ok-check) (full at.After-tables_known) in
    rw (c.sum_of.ensures, c.from.ensures, c.lists_in.ensures.wires)
    (wire_there _ (passed at.In_ok-check) (limits at.In_ok-check) (full at.After-tables_known) c.args.w (omega (arith, l, c.if-w-wires.false)))
