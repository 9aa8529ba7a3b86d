use Rattle.store.specs.Store.{held}
use Rattle.answers.proofs.Edited.{told_done, told_refused}
use Rattle.answers.proofs.put_edited.Goals as goal

pub put_file-requires : goal.put_file-requires
put_file-requires g c = c.requires _ c.in-Ok.is

pub returns-in-Err-clause-value : goal.returns-in-Err-clause-value
returns-in-Err-clause-value g c = (told_refused _ c.args.edit (held c.args.t.now c.args.spans.now) c.args.out.now c.in-Err.is c.call_values.ensures).0

pub returns-in-Err-clause-out_after : goal.returns-in-Err-clause-out_after
returns-in-Err-clause-out_after g c = (told_refused g.T.Values.values c.args.edit (held c.args.t.now c.args.spans.now) c.args.out.now c.in-Err.is c.call_values.ensures).1

pub returns-in-Ok-clause-value : goal.returns-in-Ok-clause-value
returns-in-Ok-clause-value g c =
    (told_done g.T.Values.values c.args.edit (held c.args.t.now c.args.spans.now) c.args.out.now c.in-Ok.is (c.requires _ c.in-Ok.is) c.edit_values.ensures c.put_file.ensures.0 c.put_file.ensures.1).0

pub returns-in-Ok-clause-out_after : goal.returns-in-Ok-clause-out_after
returns-in-Ok-clause-out_after g c =
    (told_done g.T.Values.values c.args.edit (held c.args.t.now c.args.spans.now) c.args.out.now c.in-Ok.is (c.requires _ c.in-Ok.is) c.edit_values.ensures c.put_file.ensures.0 c.put_file.ensures.1).1
