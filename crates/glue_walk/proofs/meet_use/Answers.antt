-- The tests are those of the definition, in sequence.
use mathlib.Core.Bool.{true≢false}
use mathlib.Core.Path.{refl}
use Rattle.glue_walk.proofs.Keeping.{edge_named}
use Rattle.glue_walk.proofs.Meeting.{front_place, gone_holds, kept_holds, met_21, met_both, met_kept, there_edge}
use Rattle.glue_walk.proofs.meet_use.Goals as goal

pub front_of-a-requires : goal.front_of-a-requires
front_of-a-requires c = edge_named _ _ c.requires.end_columns _ _ c.requires.fits

pub back_of-b-requires : goal.back_of-b-requires
back_of-b-requires c = edge_named _ _ c.requires.end_columns _ _ c.requires.fits

pub ends_at-requires : goal.ends_at-requires
ends_at-requires c = λ n. there_edge _ _ _ _ c.requires.end_columns c.requires.fits c.requires.holding _ _ c.front_of-a.ensures c.back_of-b.ensures _ refl n

pub keep_at-requires : goal.keep_at-requires
keep_at-requires c = front_place _ _ _ _ c.requires.end_columns c.requires.fits c.requires.holding _ _ c.front_of-a.ensures c.back_of-b.ensures

pub returns-then-not-ends_at-clause-kept_value : goal.returns-then-not-ends_at-clause-kept_value
returns-then-not-ends_at-clause-kept_value c = met_kept _ _ _ _ c.requires.end_columns c.requires.fits c.requires.holding _ _ c.front_of-a.ensures c.back_of-b.ensures _ refl _ c.ends_at.ensures (c.if-not-ends_at.true) _ c.keep_at.ensures

pub returns-then-not-ends_at-clause-holding_2 : goal.returns-then-not-ends_at-clause-holding_2
returns-then-not-ends_at-clause-holding_2 c = kept_holds _ _ _ _ c.requires.end_columns c.requires.fits c.requires.holding _ _ c.front_of-a.ensures c.back_of-b.ensures _ c.keep_at.ensures

pub returns-then-not-ends_at-clause-kept_unchanged : goal.returns-then-not-ends_at-clause-kept_unchanged
returns-then-not-ends_at-clause-kept_unchanged c = λ e. absurd (true≢false e)

pub returns-then-u-v-clause-kept_value : goal.returns-then-u-v-clause-kept_value
returns-then-u-v-clause-kept_value c = met_21 _ _ _ _ c.requires.end_columns c.requires.fits c.requires.holding _ _ c.front_of-a.ensures c.back_of-b.ensures _ refl _ c.ends_at.ensures (c.if-not-ends_at.false) c.if-u-v.true

pub returns-then-u-v-clause-holding_2 : goal.returns-then-u-v-clause-holding_2
returns-then-u-v-clause-holding_2 c = c.requires.holding

pub returns-then-u-v-clause-kept_unchanged : goal.returns-then-u-v-clause-kept_unchanged
returns-then-u-v-clause-kept_unchanged c = λ _. refl

pub returns-clause-kept_value : goal.returns-clause-kept_value
returns-clause-kept_value c = met_both _ _ _ _ c.requires.end_columns c.requires.fits c.requires.holding _ _ c.front_of-a.ensures c.back_of-b.ensures _ refl _ c.ends_at.ensures (c.if-not-ends_at.false) c.if-u-v.false

pub returns-clause-holding_2 : goal.returns-clause-holding_2
returns-clause-holding_2 c = gone_holds _ _ _ _ c.requires.end_columns c.requires.fits c.requires.holding _ _ c.front_of-a.ensures c.back_of-b.ensures

pub returns-clause-kept_unchanged : goal.returns-clause-kept_unchanged
returns-clause-kept_unchanged c = λ e. absurd (true≢false e)
