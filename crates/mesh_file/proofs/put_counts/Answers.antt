use mathlib.Core.Path.{◌≡◌}
use native.Mathlib.Omega.{arith}
use lib.ListN.{length}
use Rattle.pattern.proofs.Counts.{limited}
use Rattle.store.proofs.View.{held_seven}
use Rattle.store.specs.Store.{held}
use Rattle.store_read.proofs.Laws.{count_small, counts_all, counts_step}
use borrow.Author.Rules.{rules}
use Rattle.mesh_file.proofs.put_counts.Goals as goal

pub overflow_cast-n : goal.overflow_cast-n
overflow_cast-n c = let seven : length c.args.counts ≡ 7 = search rules in
    omega (arith, count_small c.args.counts (limited c.args.counts (seven) c.requires) c.loop-b.b (omega arith))

pub loop-b-preserved : goal.loop-b-preserved
loop-b-preserved c = let seven : length c.args.counts ≡ 7 = search rules in
    λ spans. counts_step (held c.args.t.now spans) c.args.counts c.loop-b.b _ _ (omega (arith, seven)) (c.loop-b.invariant spans) (c.store_count.ensures spans)

pub returns : goal.returns
returns c = let seven : length c.args.counts ≡ 7 = search rules in
    λ spans. counts_all (held c.args.t.now spans) c.args.counts c.loop-b.b _ (seven) (held_seven c.args.t.now spans c.tables_known.ensures) (omega arith) (c.loop-b.invariant spans)
