-- The point, then the digits.
use Rattle.std.proofs.Common.{◌∙◌, arith, length-set}
use Rattle.decimals.proofs.Texts.{no_places, some_places}
use Rattle.decimals.proofs.put_places.Goals as goal

pub returns-then-k-eq0 : goal.returns-then-k-eq0
returns-then-k-eq0 c = no_places _ _ _ _ c.if-k-eq0.true

pub put_last-requires : goal.put_last-requires
put_last-requires c = simp length-set (omega arith)

pub shape_of-out : goal.shape_of-out
shape_of-out c = let args = c.args in
    c.put_last.auto.out ∙ length-set args.out.now args.at 46

pub returns : goal.returns
returns c = some_places _ _ _ _ c.if-k-eq0.false _ c.put_last.ensures
