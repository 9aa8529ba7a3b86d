use Rattle.draft_parts.proofs.Filling.{fill_last, fill_use, fill_wire, filling_all, filling_before, filling_long, filling_mark, filling_start, filling_use}
use Prim.Native.Nat.{◌<◌, ◌-◌}
use lib.ListN.{length}
use mathlib.Core.Path.{◌≡◌}
use borrow.Author.Rules.{rules}
use Rattle.draft_parts.proofs.add_wires.Goals as goal
use Rattle.draft_parts.proofs.add_wires.Goals.{Then-x-eq65536, Then-w-wired, else-x-eq65536+else-w-wired, else-x-eq65536+then-w-wired, then-x-eq65536}

-- there is room for a wire more, and for a use more
for_wire : (c : Then-x-eq65536) → (c.loop-x.w < 1024) × (length c.loop-x.t ≡ 12312)
for_wire c =
    (fill_wire c.loop-x.invariant c.loop-x-test.true c.requires c.if-x-eq65536.true, filling_long c.loop-x.invariant)

for_use : (c : Then-w-wired) → (c.loop-x.u < 4096) × (c.loop-x.w - 1 < 1024) × (length c.loop-x.t ≡ 12312)
for_use c =
    let i = c.loop-x.invariant in let l = c.loop-x-test.true in
    (fill_use i l c.requires c.if-x-eq65536.false c.if-w-wired.true, fill_last i l c.requires c.if-x-eq65536.false c.if-w-wired.true, filling_long i)

pub loop-x-init : goal.loop-x-init
loop-x-init c =
    filling_start _ _ _ _ c.tables_known.ensures

pub overflow_add-t : goal.overflow_add-t
overflow_add-t c =
    let r = (for_wire (goal.at.overflow_add-t c).Then-x-eq65536) in search rules

pub offset_bounds-t-w : goal.offset_bounds-t-w
offset_bounds-t-w c =
    let r = (for_wire (goal.at.offset_bounds-t-w c).Then-x-eq65536) in search rules

pub bounds-t-w : goal.bounds-t-w
bounds-t-w c =
    let r = (for_wire (goal.at.bounds-t-w c).Then-x-eq65536) in search rules

pub overflow_add-w : goal.overflow_add-w
overflow_add-w c =
    let r = (for_wire (goal.at.overflow_add-w c).Then-x-eq65536) in search rules

pub overflow_add-t-then-w-wired : goal.overflow_add-t-then-w-wired
overflow_add-t-then-w-wired c =
    let r = (for_use (goal.at.overflow_add-t-then-w-wired c).Then-w-wired) in search rules

pub offset_bounds-t-u : goal.offset_bounds-t-u
offset_bounds-t-u c =
    let r = (for_use (goal.at.offset_bounds-t-u c).Then-w-wired) in search rules

pub bounds-t-u : goal.bounds-t-u
bounds-t-u c =
    let r = (for_use (goal.at.bounds-t-u c).Then-w-wired) in search rules

pub overflow_add-u : goal.overflow_add-u
overflow_add-u c =
    let r = (for_use (goal.at.overflow_add-u c).Then-w-wired) in search rules

pub overflow_add-size : goal.overflow_add-size
overflow_add-size c =
    let r = c.loop-x.invariant.laid.few in search rules

pub overflow_add-t-then-w-wired-2 : goal.overflow_add-t-then-w-wired-2
overflow_add-t-then-w-wired-2 c =
    let r = (for_use (goal.at.overflow_add-t-then-w-wired-2 c).Then-w-wired) in search rules

pub offset_bounds-t-w-then-w-wired : goal.offset_bounds-t-w-then-w-wired
offset_bounds-t-w-then-w-wired c =
    let r = (for_use (goal.at.offset_bounds-t-w-then-w-wired c).Then-w-wired) in search rules

pub bounds-t-w-then-w-wired : goal.bounds-t-w-then-w-wired
bounds-t-w-then-w-wired c =
    let r = (for_use (goal.at.bounds-t-w-then-w-wired c).Then-w-wired) in search rules

pub returns : goal.returns
returns c =
    filling_all c.loop-x.invariant c.loop-x-test.false

pub loop-x-preserved : goal.loop-x-preserved
loop-x-preserved c =
    let pre = c.requires in
    elim c.if-x-eq65536.branch [
      | then-x-eq65536 w ↦ rw (w.t-is, w.u-is, w.w-is, w.size-is) (filling_mark c.loop-x.invariant c.loop-x-test.true pre w.if-x-eq65536.true)
      | else-x-eq65536+then-w-wired w ↦ rw (w.t-is, w.u-is, w.w-is, w.size-is) (filling_use c.loop-x.invariant c.loop-x-test.true pre w.if-x-eq65536.false w.if-w-wired.true _ _ w.saturated.ensures w.small_length.ensures)
      | else-x-eq65536+else-w-wired w ↦ rw (w.t-is, w.u-is, w.w-is, w.size-is) (filling_before c.loop-x.invariant c.loop-x-test.true pre w.if-x-eq65536.false w.if-w-wired.false)
    ]
