use native.Mathlib.Omega.{arith}
use lib.ListN.{length}
use mathlib.Core.Path.{◌≡◌}
use Rattle.store.specs.Store.{held}
use Rattle.pattern.proofs.Counts.{limited}
use Rattle.store.proofs.View.{held_seven}
use Rattle.store_read.proofs.Laws.{count_small, counts_all, counts_step}
use borrow.Author.Rules.{rules}
use Rattle.store_read.proofs.read_counts.Goals as goal
use Rattle.store_read.proofs.read_counts.Goals.{Start}

seven : (c : Start) → length c.args.counts ≡ 7
seven c = search rules

pub overflow_cast-count : goal.overflow_cast-count
overflow_cast-count c = omega (arith, count_small c.args.counts (limited c.args.counts (seven (goal.at.overflow_cast-count c).Start) c.requires) c.loop-b.b (omega arith))

pub loop-b-preserved : goal.loop-b-preserved
loop-b-preserved c = λ spans. counts_step (held c.args.t.now spans) c.args.counts c.loop-b.b _ _ (omega (arith, (seven (goal.at.loop-b-preserved c).Start))) (c.loop-b.invariant spans) (c.store_count.ensures spans)

pub returns : goal.returns
returns c = λ spans. counts_all (held c.args.t.now spans) c.args.counts c.loop-b.b _ (seven (goal.at.returns c).Start) (held_seven c.args.t.now spans c.tables_known.ensures) (omega arith) (c.loop-b.invariant spans)
