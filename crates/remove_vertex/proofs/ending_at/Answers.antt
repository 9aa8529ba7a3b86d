-- The part of the shell's listings lies within the listings.
use Prim.Native.Nat.{◌+◌, ◌-◌, ◌≤◌}
use mathlib.Core.Path.{sym}
use native.Mathlib.Omega.{arith}
use lib.ListN.{drop, length, length-drop, length-take}
use lib.Seq.{length-take-le}
use Rattle.remove_vertex.proofs.Stored.{endings_are, tables}
use Rattle.shell_wires.proofs.Made.{faces_few, faces_summed_lem, listings_few, part_are, part_listed, part_named, shells_few, uses_name}
use Rattle.remove_vertex.proofs.ending_at.Goals as goal
use Rattle.remove_vertex.proofs.ending_at.Goals.{After-from}

inside : (c : After-from) → c.sum_of-start.result + c.from.result ≤ length c.args.lists.now.listings.now
inside c = part_listed _ c.requires.lent.1.listed c.requires.n_bound c.sum_of-start.ensures c.from.ensures

pub slice_bounds-sum_of-end : goal.slice_bounds-sum_of-end
slice_bounds-sum_of-end c = sym (length-take-le c.args.n c.args.lists.now.shells.now (omega (arith, c.requires.n_bound)))

pub sum_of-start-requires : goal.sum_of-start-requires
sum_of-start-requires c = omega (arith, length-take c.args.n c.args.lists.now.shells.now, shells_few _ c.requires.lent.1.listed)

pub overflow_add-end : goal.overflow_add-end
overflow_add-end c = omega (arith, inside (goal.at.overflow_add-end c).After-from, listings_few _ c.requires.lent.1.listed)

pub invariant_of-wires : goal.invariant_of-wires
invariant_of-wires c = record { named = uses_name _ c.requires.lent.1 }

pub offset_bounds-listings-start : goal.offset_bounds-listings-start
offset_bounds-listings-start c = omega (arith, inside (goal.at.offset_bounds-listings-start c).After-from, listings_few _ c.requires.lent.1.listed)

pub slice_bounds-ending_in-end : goal.slice_bounds-ending_in-end
slice_bounds-ending_in-end c = omega (arith, inside (goal.at.slice_bounds-ending_in-end c).After-from)

pub ending_in-requires-clause-wire_tables : goal.ending_in-requires-clause-wire_tables
ending_in-requires-clause-wire_tables c = tables _ c.requires.lent.1

pub ending_in-requires-clause-counts_value : goal.ending_in-requires-clause-counts_value
ending_in-requires-clause-counts_value c = (faces_few _ c.requires.lent.1.listed, faces_summed_lem _ c.requires.lent.1)

pub ending_in-requires-clause-listings_len_bound : goal.ending_in-requires-clause-listings_len_bound
ending_in-requires-clause-listings_len_bound c = let ls = c.args.lists.now.listings.now in
    let start = c.sum_of-start.result in (
      omega (arith, length-take (start + c.from.result - start) (drop start ls), length-drop start ls, listings_few _ c.requires.lent.1.listed),
      part_named _ c.requires.lent.1.listed c.requires.n_bound c.sum_of-start.ensures c.from.ensures,
    )

pub returns : goal.returns
returns c = λ p l. endings_are p l c.args.n c.args.v.0 (part_are p l.listed c.requires.n_bound c.sum_of-start.ensures c.from.ensures) c.ending_in.ensures
