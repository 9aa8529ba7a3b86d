use mathlib.Core.Path.{◌∙◌, ◌≡◌, sym}
use native.Mathlib.Omega.{arith}
use Rattle.edge.specs.Edges.{back_number, front_number}
use Rattle.pattern.proofs.Laws.{good_edge, no_back, no_front, no_span, same_vertex}
use Rattle.pattern.proofs.check_edge.Goals as goal

pub returns-then-front-points : goal.returns-then-front-points
returns-then-front-points c = let args = c.args in no_front args.points args.k args.e (omega arith)

pub returns-then-back-points : goal.returns-then-back-points
returns-then-back-points c = let args = c.args in
    no_back args.points args.k args.e (omega arith) (omega arith)

pub returns-then-front-back : goal.returns-then-front-back
returns-then-front-back c = let args = c.args in
    same_vertex args.points args.k args.e (omega arith) (omega arith) (omega arith)

pub returns-then-not-span : goal.returns-then-not-span
returns-then-not-span c = let args = c.args in
    no_span args.points args.k args.e (omega arith) (omega arith) (λ (h : front_number args.e ≡ back_number args.e). c.if-front-back.false (omega arith)) (sym c.is_span-span.ensures ∙ c.if-not-span.true)

pub returns : goal.returns
returns c = let args = c.args in
    good_edge args.points args.k args.e (omega arith) (omega arith) (λ (h : front_number args.e ≡ back_number args.e). c.if-front-back.false (omega arith)) (sym c.is_span-span.ensures ∙ c.if-not-span.false)
