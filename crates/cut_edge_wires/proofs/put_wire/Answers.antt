-- The wire as it is, or with the halves in place of the use found.
use native.Mathlib.Omega.{arith}
use lib.ListN.{get_or}
use Rattle.cut_edge_faults.proofs.Flags.{FoundAt}
use Rattle.cut_edge_wires.proofs.Halves.{halves_named}
use Rattle.cut_edge_wires.proofs.Put.{kept_done, kept_room, place_found, swapped_done, swapped_room}
use Rattle.wire.proofs.Laws.{named_edge}
use Rattle.cut_edge_wires.proofs.put_wire.Goals as goal
use Rattle.cut_edge_wires.proofs.put_wire.Goals.{In-Some}

-- the use found lies on the wire
found : (c : In-Some) → FoundAt 0 c.args.e.0 c.args.wire.now.uses.now c.in-Some.i
found c = place_found c.args.flag c.args.e.0 c.args.a c.args.wire.now.uses.now _ c.find_flagged.ensures _ c.in-Some.is

pub copy_to-requires : goal.copy_to-requires
copy_to-requires c = kept_room c.args.flag c.args.e.0 c.args.a c.args.wire.now.uses.now _ c.find_flagged.ensures c.in-None.is _ _ c.requires.uses_in_bounds

pub offset_bounds-uses-i : goal.offset_bounds-uses-i
offset_bounds-uses-i c = omega (arith, (found (goal.at.offset_bounds-uses-i c).In-Some).high)

pub bounds-uses-i : goal.bounds-uses-i
bounds-uses-i c = omega (arith, (found (goal.at.bounds-uses-i c).In-Some).high)

pub halves_of-both-requires : goal.halves_of-both-requires
halves_of-both-requires c = omega (arith, c.requires.halved.long, c.requires.halved.small)

pub invariant_of-new : goal.invariant_of-new
invariant_of-new c = let w = c.args.wire.now in
    record { named = rw c.halves_of-both.ensures (halves_named w.ends.fronts.now w.ends.backs.now c.args.e.0 c.args.a c.requires.halved (get_or w.uses.now c.in-Some.i 0)) }

pub swap_edge_into_wire-requires-clause-i_in_bounds : goal.swap_edge_into_wire-requires-clause-i_in_bounds
swap_edge_into_wire-requires-clause-i_in_bounds c = omega (arith, (found (goal.at.swap_edge_into_wire-requires-clause-i_in_bounds c).In-Some).high)

pub swap_edge_into_wire-requires-clause-has_edge : goal.swap_edge_into_wire-requires-clause-has_edge
swap_edge_into_wire-requires-clause-has_edge c = named_edge _ _ _ c.args.wire.now.named _ (omega (arith, (found (goal.at.swap_edge_into_wire-requires-clause-has_edge c).In-Some).high))

pub swap_edge_into_wire-requires-clause-in_bounds : goal.swap_edge_into_wire-requires-clause-in_bounds
swap_edge_into_wire-requires-clause-in_bounds c = let a = c.args in
    swapped_room a.flag a.e.0 a.a a.wire.now.uses.now _ c.find_flagged.ensures c.in-Some.is c.halves_of-both.ensures a.at _ c.requires.uses_in_bounds

pub returns-in-None-clause-value : goal.returns-in-None-clause-value
returns-in-None-clause-value c = (kept_done c.args.flag c.args.e.0 c.args.a c.args.wire.now.uses.now _ c.find_flagged.ensures c.in-None.is _ _ c.args.at c.copy_to.ensures).0

pub returns-in-None-clause-out_after : goal.returns-in-None-clause-out_after
returns-in-None-clause-out_after c = (kept_done c.args.flag c.args.e.0 c.args.a c.args.wire.now.uses.now _ c.find_flagged.ensures c.in-None.is _ _ c.args.at c.copy_to.ensures).1

pub returns-in-Some-clause-value : goal.returns-in-Some-clause-value
returns-in-Some-clause-value c = (swapped_done c.args.flag _ _ c.args.wire.now.uses.now _ c.find_flagged.ensures c.in-Some.is c.halves_of-both.ensures _ _ _ _ c.args.at c.requires.halved c.swap_edge_into_wire.ensures.out_after).0

pub returns-in-Some-clause-out_after : goal.returns-in-Some-clause-out_after
returns-in-Some-clause-out_after c = (swapped_done c.args.flag _ _ c.args.wire.now.uses.now _ c.find_flagged.ensures c.in-Some.is c.halves_of-both.ensures _ _ _ _ c.args.at c.requires.halved c.swap_edge_into_wire.ensures.out_after).1
