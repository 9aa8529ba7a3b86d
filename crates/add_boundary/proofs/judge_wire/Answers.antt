-- The faults in sequence; the marks serve twice.
use mathlib.Core.Path.{◌∙◌, sym}
use native.Mathlib.Omega.{arith}
use Rattle.add_boundary.proofs.Laws.{is_fine, unfit_shared, unfit_uses, unfit_wire, unfit_wires}
use Rattle.wire.proofs.Laws.{simple_sound}
use Rattle.add_boundary.proofs.judge_wire.Goals as goal

pub returns-in-Err : goal.returns-in-Err
returns-in-Err c = let wire = c.args.wire.now in
    unfit_wire wire.ends.fronts.now wire.ends.backs.now c.args.own.now.uses.now c.args.n wire.uses.now c.args.m c.args.k _ (sym c.check.ensures.value ∙ c.in-Err.is)

pub disjoint_from-requires-clause-wire_value : goal.disjoint_from-requires-clause-wire_value
disjoint_from-requires-clause-wire_value c = let wire = c.args.wire.now in
    (simple_sound wire.ends.fronts.now wire.ends.backs.now wire.uses.now (sym c.check.ensures.value ∙ c.in_default.is)).once

pub returns-then-not-disjoint_from : goal.returns-then-not-disjoint_from
returns-then-not-disjoint_from c = let wire = c.args.wire.now in
    unfit_shared wire.ends.fronts.now wire.ends.backs.now c.args.own.now.uses.now c.args.n wire.uses.now c.args.m c.args.k (sym c.check.ensures.value ∙ c.in_default.is) (rw c.requires.same_ends at (sym c.disjoint_from.ensures ∙ c.if-not-disjoint_from.true))

pub returns-then-own-wire : goal.returns-then-own-wire
returns-then-own-wire c = let wire = c.args.wire.now in
    unfit_uses wire.ends.fronts.now wire.ends.backs.now c.args.own.now.uses.now c.args.n wire.uses.now _ c.args.k (sym c.check.ensures.value ∙ c.in_default.is) (rw c.requires.same_ends at (sym c.disjoint_from.ensures ∙ c.if-not-disjoint_from.false)) c.if-own-wire.true

pub returns-then-n-k : goal.returns-then-n-k
returns-then-n-k c = let wire = c.args.wire.now in
    unfit_wires wire.ends.fronts.now wire.ends.backs.now c.args.own.now.uses.now c.args.n wire.uses.now c.args.m c.args.k (sym c.check.ensures.value ∙ c.in_default.is) (rw c.requires.same_ends at (sym c.disjoint_from.ensures ∙ c.if-not-disjoint_from.false)) (omega arith) (omega arith)

pub returns : goal.returns
returns c = let wire = c.args.wire.now in
    is_fine wire.ends.fronts.now wire.ends.backs.now c.args.own.now.uses.now c.args.n wire.uses.now c.args.m c.args.k (sym c.check.ensures.value ∙ c.in_default.is) (rw c.requires.same_ends at (sym c.disjoint_from.ensures ∙ c.if-not-disjoint_from.false)) (omega arith) (omega arith)
