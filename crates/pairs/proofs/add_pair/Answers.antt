-- Nothing is written, or the listing is, and its mark.
use mathlib.Core.Path.{◌∙◌, sym}
use Rattle.pairs.proofs.Loops.{add_none, add_one_pair}
use Rattle.pairs.proofs.add_pair.Goals as goal

pub returns-then-not-is_new : goal.returns-then-not-is_new
returns-then-not-is_new c = let args = c.args in
    let p = add_none args.marks.now args.firsts.now args.out.now args.at args.l (sym c.is_new.ensures ∙ c.if-not-is_new.true) in
    record { marks_after = p.0; out_after = p.1.0; value = p.1.1 }

pub returns : goal.returns
returns c = let args = c.args in
    let p = add_one_pair args.marks.now args.firsts.now args.out.now args.at args.l (sym c.is_new.ensures ∙ c.if-not-is_new.false) c.mark_of-m.result c.mark_of-m.ensures in
    record { marks_after = p.0; out_after = p.1.0; value = p.1.1 }
