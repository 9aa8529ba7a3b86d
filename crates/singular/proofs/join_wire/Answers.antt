use mathlib.Core.Path.{◌∙◌, ap, refl}
use native.Mathlib.Omega.{arith}
use Rattle.groups.proofs.All.{joins_start}
use Rattle.shell.specs.Singular.{first_end}
use Rattle.singular.proofs.Ends.{corner_ends, cornering_all, cornering_next}
use Rattle.singular.proofs.join_wire.Goals as goal

pub loop-i-init : goal.loop-i-init
loop-i-init c = (joins_start _ _ _ _ _ (rw c.requires.0 at c.args.groups.now.forest), refl)

pub join-requires : goal.join-requires
join-requires c = let loop = c.loop-i in
    let e = corner_ends c.args.edges c.args.wire.now c.requires.1 loop.i (omega arith) c.last_end.ensures c.from-last.ensures (c.first_end.ensures ∙ ap first_end c.next_use.ensures) c.from-first.ensures in
    rw (loop.invariant.1, c.requires.0) (e.0, e.1)

pub loop-i-preserved : goal.loop-i-preserved
loop-i-preserved c = let loop = c.loop-i in
    (cornering_next c.args.edges c.args.wire.now _ _ _ _ loop.i c.requires.1 loop.invariant.0 (omega arith) c.last_end.ensures c.from-last.ensures (c.first_end.ensures ∙ ap first_end c.next_use.ensures) c.from-first.ensures (c.join.ensures.parents_after, c.join.ensures.sizes_after), c.join.ensures.count_after ∙ loop.invariant.1)

pub returns : goal.returns
returns c = let p = cornering_all _ _ _ _ _ _ _ c.requires.1 c.loop-i.invariant.0 (omega arith) in (p.0, p.1, c.loop-i.invariant.1)
