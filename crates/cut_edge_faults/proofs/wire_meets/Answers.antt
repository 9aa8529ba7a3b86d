use mathlib.Core.List.{map}
use mathlib.Core.Path.{◌∙◌, sym}
use Rattle.cut_edge_faults.proofs.Flags.{meets_off, meets_on, scan_here, scan_next, scan_past}
use Rattle.edge.specs.Uses.{front_of}
use Rattle.lists.specs.Lists.{has}
use Rattle.wire.proofs.Laws.{named_edge}
use mathlib.Core.Path.{ap}
use mathlib.Core.Bool.{not}
use Rattle.cut_edge_faults.proofs.wire_meets.Goals as goal

pub returns-then-not-flag : goal.returns-then-not-flag
returns-then-not-flag c = let args = c.args in
    meets_off args.flag (has args.v.0 (map (front_of args.wire.now.ends.fronts.now args.wire.now.ends.backs.now) args.wire.now.uses.now)) (ap not c.if-not-flag.true)

pub front_of-requires : goal.front_of-requires
front_of-requires c = named_edge _ _ _ c.args.wire.now.named _ c.loop-u-test.true

pub returns-then-p-front_of : goal.returns-then-p-front_of
returns-then-p-front_of c = let args = c.args in
    meets_on args.flag (front_of args.wire.now.ends.fronts.now args.wire.now.ends.backs.now) args.wire.now.uses.now (ap not c.if-not-flag.false) c.from-p.ensures
    (c.loop-u.invariant ∙ scan_here (front_of _ _) _ _ _ c.loop-u-test.true (c.if-p-front_of.true ∙ c.front_of.ensures))

pub loop-u-preserved : goal.loop-u-preserved
loop-u-preserved c = c.loop-u.invariant ∙ scan_next (front_of _ _) _ _ _ c.loop-u-test.true (λ h. c.if-p-front_of.false (h ∙ sym c.front_of.ensures))

pub returns : goal.returns
returns c = let args = c.args in
    meets_on args.flag (front_of args.wire.now.ends.fronts.now args.wire.now.ends.backs.now) args.wire.now.uses.now (ap not c.if-not-flag.false) c.from-p.ensures
    (c.loop-u.invariant ∙ scan_past (front_of _ _) _ _ _ c.loop-u-test.false)
