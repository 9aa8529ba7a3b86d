-- The file stays, or the edited one is in its place.
use native.Mathlib.Omega.{arith}
use Rattle.queue.proofs.Texts.{edited_long, edited_none, edited_put}
use borrow.Author.Rules.{rules}
use Rattle.queue.proofs.put_edited.Goals as goal

pub returns-then-k-eq0 : goal.returns-then-k-eq0
returns-then-k-eq0 c = edited_none c.args.file.now c.args.out.now c.args.n _ c.if-k-eq0.true (search rules)

pub returns-then-k-gt41048 : goal.returns-then-k-gt41048
returns-then-k-gt41048 c = edited_long c.args.file.now c.args.out.now c.args.n _ (omega (arith, c.told-out, c.if-k-gt41048.true)) (search rules)

pub returns : goal.returns
returns c = let args = c.args in
    edited_put args.file.now args.out.now args.n _ c.if-k-eq0.false (omega (arith, c.told-out, c.if-k-gt41048.false)) _ _ c.put_text.ensures
