use mathlib.Core.Path.{◌≡◌}
use lib.ListN.{length}
use Rattle.scheduler_state.proofs.Laws.{whole}
use borrow.Author.Rules.{rules}
use Rattle.scheduler_state.proofs.put_scheduler.Goals as goal

pub returns : goal.returns
returns c = let long : length c.put_slots-all.result ≡ 145 = search rules in
    whole c.args.c c.put_slots-all.result long c.put_slots-all.ensures
