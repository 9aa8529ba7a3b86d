-- The use stands in the table up to the limit.
use Rattle.mesh_draw.proofs.Uses.{kept_use, kept_use_over}
use Rattle.store.proofs.View.{held_full}
use Rattle.mesh_draw.proofs.add_use.Goals as goal

pub returns-then-n-lt4096 : goal.returns-then-n-lt4096
returns-then-n-lt4096 c = λ m us spans index k.
    let args = c.args in
    kept_use args.u k c.if-n-lt4096.true (held_full args.t.now spans c.tables_known.ensures).uses (c.store_uses.ensures spans)

pub returns : goal.returns
returns c = λ m us spans index k.
    let args = c.args in
    kept_use_over args.u k c.if-n-lt4096.false
