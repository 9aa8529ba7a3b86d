use mathlib.Core.Path.{◌∙◌, sym}
use native.Mathlib.Omega.{arith}
use Rattle.std.proofs.lemmas.List.{take_rest}
use Rattle.wire.proofs.Laws.{closed_none, closed_start, named_edge, named_part, runs_next, runs_past, runs_stop}
use Rattle.wire.proofs.Wire.is_closed.Goals as goal

pub returns-in_default : goal.returns-in_default
returns-in_default c = sym (closed_none _ _ _ (omega arith))

pub loop-u-init : goal.loop-u-init
loop-u-init c = rw (c.back_of-at.ensures, c.front_of-first.ensures, take_rest) (closed_start _ _ _ c.in-len1-up.len_at_least)

pub front_of-requires : goal.front_of-requires
front_of-requires c = named_edge _ _ _ (named_part _ _ _ c.args.self.now.named 1 _) _ c.loop-u-test.true

pub returns-then-at-front_of : goal.returns-then-at-front_of
returns-then-at-front_of c =
    sym (c.loop-u.invariant ∙ runs_stop _ _ _ _ _ _ c.loop-u-test.true (λ e. c.if-at-front_of.true (e ∙ sym c.front_of.ensures)))

pub back_of-at-requires-in-loop-u : goal.back_of-at-requires-in-loop-u
back_of-at-requires-in-loop-u c = named_edge _ _ _ (named_part _ _ _ c.args.self.now.named 1 _) _ c.loop-u-test.true

pub loop-u-preserved : goal.loop-u-preserved
loop-u-preserved c = rw c.back_of-at-in-loop-u.ensures
    (c.loop-u.invariant ∙ runs_next _ _ _ _ _ _ c.loop-u-test.true (c.if-at-front_of.false ∙ c.front_of.ensures))

pub returns : goal.returns
returns c = sym (c.loop-u.invariant ∙ runs_past _ _ _ _ _ _ c.loop-u-test.false)
