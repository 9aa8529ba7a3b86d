-- The face's wires lie within the wires, its uses within the uses.
use mathlib.Core.Path.{◌∙◌, ◌≡◌, sym}
use native.Mathlib.Omega.{arith}
use Prim.Native.Nat.{◌+◌, ◌-◌, ◌≤◌}
use lib.ListN.{drop, length, take}
use lib.Seq.{length-take-le}
use Rattle.face_parts.proofs.Laws.{part_to}
use Rattle.face_parts.specs.Parts.{lengths_at, uses_at}
use Rattle.face_parts.proofs.face_wires.Goals as goal
use Rattle.face_parts.proofs.face_wires.Goals.{After-from-n, After-sum_of-total}

inside : (c : After-from-n) → c.sum_of-first.result + c.from-n.result ≤ length c.args.lists.now.wires.now
inside c = rw (c.sum_of-first.ensures, c.from-n.ensures) c.requires.wires_inside

-- its lengths, as the code takes them
lengths : (c : After-from-n) → let lists = c.args.lists.now in take (c.sum_of-first.result + c.from-n.result - c.sum_of-first.result) (drop c.sum_of-first.result lists.wires.now) ≡ lengths_at lists.faces.now c.args.f lists.wires.now
lengths c = part_to c.sum_of-first.result c.from-n.result c.args.lists.now.wires.now ∙ rw (c.sum_of-first.ensures, c.from-n.ensures)

-- where its uses begin, and how many they are
uses : (c : After-sum_of-total) → let lists = c.args.lists.now in take (c.sum_of-at.result + c.sum_of-total.result - c.sum_of-at.result) (drop c.sum_of-at.result lists.uses.now) ≡ uses_at lists.faces.now lists.wires.now c.args.f lists.uses.now
uses c = let lists = c.args.lists.now in
    let lengths : take (c.sum_of-first.result + c.from-n.result - c.sum_of-first.result) (drop c.sum_of-first.result lists.wires.now) ≡ lengths_at lists.faces.now c.args.f lists.wires.now =
    part_to c.sum_of-first.result c.from-n.result lists.wires.now ∙ rw (c.sum_of-first.ensures, c.from-n.ensures) in
    part_to c.sum_of-at.result c.sum_of-total.result lists.uses.now ∙ rw (c.sum_of-total.ensures, lengths, c.sum_of-at.ensures, c.sum_of-first.ensures)

uses_end : (c : After-sum_of-total) → c.sum_of-at.result + c.sum_of-total.result ≤ length c.args.lists.now.uses.now
uses_end c = let lists = c.args.lists.now in
    let lengths : take (c.sum_of-first.result + c.from-n.result - c.sum_of-first.result) (drop c.sum_of-first.result lists.wires.now) ≡ lengths_at lists.faces.now c.args.f lists.wires.now =
    part_to c.sum_of-first.result c.from-n.result lists.wires.now ∙ rw (c.sum_of-first.ensures, c.from-n.ensures) in
    rw (c.sum_of-total.ensures, lengths, c.sum_of-at.ensures, c.sum_of-first.ensures) c.requires.uses_inside

pub overflow_add-lengths : goal.overflow_add-lengths
overflow_add-lengths c = omega (arith, inside (goal.at.overflow_add-lengths c).After-from-n)

pub offset_bounds-lists-first : goal.offset_bounds-lists-first
offset_bounds-lists-first c = omega (arith, inside (goal.at.offset_bounds-lists-first c).After-from-n)

pub slice_bounds-lengths-end : goal.slice_bounds-lengths-end
slice_bounds-lengths-end c = inside (goal.at.slice_bounds-lengths-end c).After-from-n

pub slice_bounds-sum_of-end-2 : goal.slice_bounds-sum_of-end-2
slice_bounds-sum_of-end-2 c = sym (length-take-le c.sum_of-first.result c.args.lists.now.wires.now (omega (arith, inside (goal.at.slice_bounds-sum_of-end-2 c).After-from-n)))

pub overflow_add-result : goal.overflow_add-result
overflow_add-result c = omega (arith, uses_end (goal.at.overflow_add-result c).After-sum_of-total)

pub offset_bounds-lists-at : goal.offset_bounds-lists-at
offset_bounds-lists-at c = omega (arith, uses_end (goal.at.offset_bounds-lists-at c).After-sum_of-total)

pub slice_bounds-result-end : goal.slice_bounds-result-end
slice_bounds-result-end c = uses_end (goal.at.slice_bounds-result-end c).After-sum_of-total

pub returns-clause-uses : goal.returns-clause-uses
returns-clause-uses c = uses (goal.at.returns-clause-uses c).After-sum_of-total

pub returns-clause-lengths : goal.returns-clause-lengths
returns-clause-lengths c = lengths (goal.at.returns-clause-lengths c).After-from-n
