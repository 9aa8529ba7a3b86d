-- The pass over what the listings keep is the walk of the shell.
use Prim.Native.Nat.{ℕ}
use lib.ListN.{length-replicate}
use Rattle.openings.proofs.Slots.{holding_bare}
use Rattle.openings.proofs.Wide.{ready_first}
use Rattle.extract.proofs.Laws.{written}
use Rattle.extract.proofs.openings_of.Goals as goal

pub keep_listings-requires-clause-all_walk : goal.keep_listings-requires-clause-all_walk
keep_listings-requires-clause-all_walk c = c.requires.all_walk

pub keep_listings-requires-clause-fronts_len_bound : goal.keep_listings-requires-clause-fronts_len_bound
keep_listings-requires-clause-fronts_len_bound c = (c.requires.extractable.edges, c.requires.extractable.tallied, length-replicate {A = ℕ} 2048 65535, holding_bare _ _ 2048 c.requires.extractable.alike)

pub walk_listings-requires-clause-all_walk : goal.walk_listings-requires-clause-all_walk
walk_listings-requires-clause-all_walk c = c.requires.all_walk

pub walk_listings-requires-clause-ready : goal.walk_listings-requires-clause-ready
walk_listings-requires-clause-ready c = ready_first _ _ _ _ _ c.keep_listings.ensures.holding c.keep_listings.auto.kept c.requires.extractable.uses c.requires.extractable.lengths

pub returns : goal.returns
returns c = written _ _ _ _ _ _ _ _ _ _ _ _ c.requires.extractable c.keep_listings.ensures.kept_after c.keep_listings.auto.kept c.walk_listings.ensures.passed c.walk_listings.ensures.ready_2
