use Prim.Native.Nat.{◌+◌, ◌-◌, ◌≤◌, ℕ}
use mathlib.Core.List.{List}
use mathlib.Core.Path.{◌∙◌, ◌≡◌, ap, refl, sym}
use native.Mathlib.Omega.{arith}
use lib.ListN.{drop, length, take}
use Rattle.errors.specs.Faults.{first}
use Rattle.face.proofs.Laws.{apart_all, apart_next, apart_start, apart_stop}
use Rattle.lists.proofs.Laws.{length_split}
use Rattle.lists.proofs.Split.{walk_fits, walk_next, walk_start}
use Rattle.lists.specs.Lists.{split}
use Rattle.lists.specs.Marks.{Below, met, stamped}
use Rattle.wire.proofs.Laws.{outline_part}
use Rattle.wire.specs.Wires.{points}
use Rattle.face.proofs.disjoint_wires.Goals as goal
use Rattle.face.proofs.disjoint_wires.Goals.{After-from-n, After-stamp_points}

-- the points of the wire that the loop has come to
abbrev its_points : After-stamp_points → List ℕ
its_points c = points c.args.wires.now.ends.fronts.now c.args.wires.now.ends.backs.now (take (c.loop-k.at + c.from-n.result - c.loop-k.at) (drop c.loop-k.at c.args.wires.now.uses.now))

-- the uses of the wire that the loop has come to are there
fits : (c : After-from-n) → c.loop-k.at + c.from-n.result ≤ length c.args.wires.now.uses.now
fits c = omega (arith, walk_fits _ _ _ _ c.loop-k.invariant.0 c.loop-k-test.true c.from-n.ensures, c.requires.lengths_in_bounds.0)

answer : (c : After-stamp_points) → c.loop-k.at + c.from-n.result ≤ length c.args.wires.now.uses.now → c.stamp_points.result ≡ met c.loop-k.marks.stamp (its_points c) c.loop-k.marks.marks
answer c inside = c.stamp_points.ensures.value
    ∙ rw (c.part.ensures.ends, c.part.ensures.uses, outline_part c.args.wires.now.uses.now c.loop-k.at c.from-n.result inside)

marked : (c : After-stamp_points) → c.loop-k.at + c.from-n.result ≤ length c.args.wires.now.uses.now → c.stamp_points.new.self.marks ≡ stamped c.loop-k.marks.stamp (its_points c) c.loop-k.marks.marks
marked c inside = c.stamp_points.ensures.marks_after
    ∙ rw (c.part.ensures.ends, c.part.ensures.uses, outline_part c.args.wires.now.uses.now c.loop-k.at c.from-n.result inside)

pub loop-k-init : goal.loop-k-init
loop-k-init c = let below : Below c.next.new.self.stamp c.next.new.self.marks = rw (c.next.ensures.marks_after, c.next.ensures.stamp_after) c.args.marks.now.below in
    (walk_start _, apart_start _ _ (split _ _) _ _ _ c.next.new.self.long below, refl)

pub returns-then-stamp_points : goal.returns-then-stamp_points
returns-then-stamp_points c = let p = goal.at.returns-then-stamp_points c in
    record {
      value = sym (apart_stop _ _ _ _ _ _ _ _ _ _ c.loop-k.invariant.1 c.loop-k.invariant.0 c.loop-k-test.true c.from-n.ensures c.args.wires.now.named c.requires.uses_value (sym (answer p.After-stamp_points (fits p.After-from-n)) ∙ c.if-stamp_points.true));
      stamp_after = c.stamp_points.ensures.stamp_after ∙ c.loop-k.invariant.2 ∙ c.next.ensures.stamp_after;
    }

pub loop-k-preserved : goal.loop-k-preserved
loop-k-preserved c = let p = goal.at.loop-k-preserved c in
    let loop = c.loop-k in
    let test = c.loop-k-test.true in
    let n = c.from-n.ensures in (
      walk_next _ _ _ _ loop.invariant.0 test n,
      rw (marked p.After-stamp_points (fits p.After-from-n), c.stamp_points.ensures.stamp_after) (apart_next _ _ _ _ _ _ _ _ _ _ loop.invariant.1 loop.invariant.0 test n c.args.wires.now.named c.requires.uses_value (sym (answer p.After-stamp_points (fits p.After-from-n)) ∙ c.if-stamp_points.false)),
      c.stamp_points.ensures.stamp_after ∙ loop.invariant.2,
    )

pub returns-clause-value : goal.returns-clause-value
returns-clause-value c = ap first (sym (apart_all _ _ (split _ _) _ _ _ _ c.loop-k.invariant.1 (rw (length_split _ _) (omega arith))))

pub overflow_add-at : goal.overflow_add-at
overflow_add-at c = omega (arith, fits (goal.at.overflow_add-at c).After-from-n)

pub returns-clause-stamp_after : goal.returns-clause-stamp_after
returns-clause-stamp_after c = c.loop-k.invariant.2 ∙ c.next.ensures.stamp_after
