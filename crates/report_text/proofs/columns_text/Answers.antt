use native.Mathlib.Omega.{arith}
use Prim.Native.Nat.{ℕ, ◌≤◌, ◌<◌}
use lib.ListN.{get_or}
use mathlib.Core.List.{List}
use mathlib.Core.Path.{ap}
use Rattle.columns.specs.Sound.{OfTables, Sound}
use Rattle.store.specs.Store.{count_table}
use Rattle.report_text.proofs.Texts.{shells_few, sound_openings, writing_all, writing_end, writing_next, writing_room, writing_start}
use borrow.Author.Rules.{rules}
use Rattle.report_text.proofs.columns_text.Goals as goal
use Rattle.report_text.proofs.columns_text.Goals.{After-counts_in-counts}

-- the shells of tables without fault are few
few : (c : After-counts_in-counts) → get_or c.counts_in-counts.result 5 0 ≤ 16
few c = rw c.counts_in-counts.ensures (shells_few c.args.columns.now.made)

pub loop-n-init : goal.loop-n-init
loop-n-init c = writing_start

pub shell_text-s-requires : goal.shell_text-s-requires
shell_text-s-requires c = let here : c.loop-n.n < get_or (count_table c.args.columns.now.t.now) 5 0 = rw (← c.counts_in-counts.ensures) c.loop-n-test.true in
    (here, writing_room c.loop-n.invariant (few (goal.at.shell_text-s-requires c).After-counts_in-counts) c.requires c.loop-n-test.true)

pub loop-n-preserved : goal.loop-n-preserved
loop-n-preserved c = writing_next c.loop-n.invariant (few (goal.at.loop-n-preserved c).After-counts_in-counts) c.loop-n-test.true _ _ _ (search rules) c.shell_text-s.ensures.of_tables c.shell_text-s.ensures.at_bound c.and_shell-solid.ensures

pub solid_text-requires : goal.solid_text-requires
solid_text-requires c = writing_end c.loop-n.invariant (few (goal.at.solid_text-requires c).After-counts_in-counts) c.requires

pub returns-clause-of_tables : goal.returns-clause-of_tables
returns-clause-of_tables c = let sound : OfTables c.args.columns.now.t.now Sound = λ spans ok. (c.args.columns.now.made.all spans ok).0 in
    writing_all c.loop-n.invariant (few (goal.at.returns-clause-of_tables c).After-counts_in-counts) (ap (λ (l : List ℕ). get_or l 5 0) c.counts_in-counts.ensures) sound (omega arith) _ _ c.solid_text.ensures

pub returns-clause-of_tables_2 : goal.returns-clause-of_tables_2
returns-clause-of_tables_2 c = let sound : OfTables c.args.columns.now.t.now Sound = λ spans ok. (c.args.columns.now.made.all spans ok).0 in
    λ spans ok. sound_openings _ (sound spans ok)
