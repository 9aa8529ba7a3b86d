use Prim.Native.Nat.{◌+◌, ◌-◌}
use mathlib.Core.List.{[]}
use mathlib.Core.Path.{◌∙◌, ◌≡◌, ap, sym}
use native.Mathlib.Omega.{arith}
use lib.ListN.{drop, take}
use Rattle.errors.proofs.Laws.{passed_all, passed_start}
use Rattle.errors.specs.Faults.{first}
use Rattle.errors.specs.Sequence.{first_of_wire}
use Rattle.face.proofs.Laws.{outline_next, outline_stop}
use Rattle.face.specs.Faces.{outline_faults}
use Rattle.lists.proofs.Laws.{length_split}
use Rattle.lists.proofs.Split.{walk_fits, walk_next, walk_start}
use Rattle.lists.specs.Lists.{split}
use Rattle.wire.proofs.Laws.{outline_part}
use Rattle.wire.specs.Wires.{wire_faults}
use borrow.Author.Rules.{rules}
use Rattle.face.proofs.check_wires.Goals as goal
use Rattle.face.proofs.check_wires.Goals.{After-check}

-- the answer for the wire that the loop has come to
judged : (c : After-check) → c.check.result ≡ first_of_wire (wire_faults c.args.wires.now.ends.fronts.now c.args.wires.now.ends.backs.now (take (c.loop-k.at + c.from-n.result - c.loop-k.at) (drop c.loop-k.at c.args.wires.now.uses.now)))
judged c =
    let fits = walk_fits _ _ _ _ c.loop-k.invariant.0 c.loop-k-test.true c.from-n.ensures in
    c.check.ensures.value
    ∙ rw (c.part.ensures.ends, c.part.ensures.uses, outline_part c.args.wires.now.uses.now c.loop-k.at c.from-n.result (omega (arith, fits)))

pub loop-k-init : goal.loop-k-init
loop-k-init c = (walk_start _, passed_start (outline_faults _ _) [] _ _, omega arith)

pub returns-in-Err-clause-value : goal.returns-in-Err-clause-value
returns-in-Err-clause-value c = let is = judged (goal.at.returns-in-Err-clause-value c).After-check in
    sym (outline_stop _ _ _ _ _ _ _ _ c.loop-k.invariant.1 c.loop-k.invariant.0 c.loop-k-test.true c.from-n.ensures _ (sym is ∙ c.in-Err.is))

pub loop-k-preserved : goal.loop-k-preserved
loop-k-preserved c = let is = judged (goal.at.loop-k-preserved c).After-check in
    let loop = c.loop-k in
    let test = c.loop-k-test.true in
    let n = c.from-n.ensures in (
      walk_next _ _ _ _ loop.invariant.0 test n,
      outline_next _ _ _ _ _ _ _ _ loop.invariant.1 loop.invariant.0 test n (sym is ∙ c.in_default.is),
      omega (arith, loop.invariant.2, c.check.ensures.stamp_after),
    )

pub returns-clause-value : goal.returns-clause-value
returns-clause-value c = ap first (sym (passed_all (outline_faults _ _) [] (split _ _) _ _ c.loop-k.invariant.1 (rw (length_split _ _) (omega arith))))
