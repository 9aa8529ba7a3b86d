-- The part of the shell's listings lies within the listings; each flag is what its function ensures.
use Prim.Native.Nat.{◌+◌, ◌≤◌}
use mathlib.Core.Path.{◌≡◌, sym}
use native.Mathlib.Omega.{arith}
use lib.ListN.{length, length-take}
use lib.Seq.{length-take-le}
use Rattle.shell_wires.proofs.Made.{faces_few, faces_sum_few, listings_few, listings_name_faces, marks_made, part_listed, part_named, shells_few}
use borrow.Author.Rules.{rules}
use Rattle.shell_wires.proofs.mark_wires.Goals as goal
use Rattle.shell_wires.proofs.mark_wires.Goals.{After-from}

inside : (c : After-from) → c.sum_of-first.result + c.from.result ≤ length c.args.lists.now.listings.now
inside c = part_listed c.requires.listed.0 c.requires.listed.1 c.requires.n_bound c.sum_of-first.ensures c.from.ensures

pub slice_bounds-sum_of-end : goal.slice_bounds-sum_of-end
slice_bounds-sum_of-end c = sym (length-take-le c.args.n c.args.lists.now.shells.now (omega (arith, c.requires.n_bound)))

pub sum_of-first-requires : goal.sum_of-first-requires
sum_of-first-requires c = omega (arith, length-take c.args.n c.args.lists.now.shells.now, shells_few _ c.requires.listed.1)

pub overflow_add-end : goal.overflow_add-end
overflow_add-end c = omega (arith, inside (goal.at.overflow_add-end c).After-from, listings_few _ c.requires.listed.1)

pub offset_bounds-listings-first : goal.offset_bounds-listings-first
offset_bounds-listings-first c = omega (arith, inside (goal.at.offset_bounds-listings-first c).After-from, listings_few _ c.requires.listed.1)

pub slice_bounds-face_flags-end : goal.slice_bounds-face_flags-end
slice_bounds-face_flags-end c = omega (arith, inside (goal.at.slice_bounds-face_flags-end c).After-from)

pub face_flags-flags-requires : goal.face_flags-flags-requires
face_flags-flags-requires c = part_named _ c.requires.listed.1 c.requires.n_bound c.sum_of-first.ensures c.from.ensures

pub lists_outside-shared-requires-clause-first_le_end : goal.lists_outside-shared-requires-clause-first_le_end
lists_outside-shared-requires-clause-first_le_end c = (omega arith, inside (goal.at.lists_outside-shared-requires-clause-first_le_end c).After-from)

pub lists_outside-shared-requires-clause-name_faces : goal.lists_outside-shared-requires-clause-name_faces
lists_outside-shared-requires-clause-name_faces c = listings_name_faces _ c.requires.listed.1

pub lists_outside-shared-requires-clause-flags_len : goal.lists_outside-shared-requires-clause-flags_len
lists_outside-shared-requires-clause-flags_len c = let flags_long : length c.face_flags-flags.result ≡ 256 = search rules in flags_long

pub wire_flags-wires-requires : goal.wire_flags-wires-requires
wire_flags-wires-requires c = let flags_long : length c.face_flags-flags.result ≡ 256 = search rules in
    (omega (arith, faces_few _ c.requires.listed.1, flags_long), faces_sum_few _ c.requires.listed.1)

pub returns : goal.returns
returns c = λ p l. marks_made p l c.requires.n_bound c.sum_of-first.ensures c.from.ensures c.face_flags-flags.ensures c.lists_outside-shared.ensures c.wire_flags-wires.ensures
