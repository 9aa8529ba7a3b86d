use Prim.Native.Nat.{◌+◌, ◌-◌}
use mathlib.Core.Bool.{false}
use mathlib.Core.Path.{◌≡◌}
use lib.ListN.{get_or}
use native.Mathlib.Omega.{arith}
use Rattle.remove_vertex_corners.proofs.Endings.{among_all, among_few, among_next, among_start, one_few}
use Rattle.remove_vertex_corners.proofs.ending_among.Goals as goal

pub loop-w-init : goal.loop-w-init
loop-w-init c = let z : c.args.start - c.args.start ≡ 0 = omega arith in rw z (among_start _ _ _)

pub then-e-requires : goal.then-e-requires
then-e-requires c = omega (arith, among_few _ _ _ c.loop-w.invariant, one_few (get_or c.args.flags.now c.loop-w.w false) c.loop-w.w c.one_wire-d.ensures)

pub loop-w-preserved : goal.loop-w-preserved
loop-w-preserved c =
    let here : c.args.start + (c.loop-w.w - c.args.start) ≡ c.loop-w.w = omega arith in
    let next : c.loop-w.w + 1 - c.args.start ≡ c.loop-w.w - c.args.start + 1 = omega arith in
    rw next (among_next _ _ _ c.loop-w.invariant (omega arith) (rw here c.one_wire-d.ensures) c.then-e.ensures)

pub returns : goal.returns
returns c = among_all _ _ _ c.loop-w.invariant (omega arith)
