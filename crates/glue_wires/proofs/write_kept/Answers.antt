-- The chained wires stand at the first places of the two arrays.
use Prim.Native.Nat.{ℕ}
use native.Mathlib.Omega.{arith}
use lib.ListN.{length-replicate}
use Rattle.glue_wires.proofs.Judging.{lengths_few, lengths_stand, lengths_sum, room_first, uses_named, uses_stand}
use Rattle.glue_wires.proofs.write_kept.Goals as goal

pub chain_all-w-requires : goal.chain_all-w-requires
chain_all-w-requires c = room_first _ _ _ c.requires.holding c.requires.kept_len_bound

pub invariant_of-wires : goal.invariant_of-wires
invariant_of-wires c = record { named = uses_named _ _ _ _ _ _ _ _ _ _ c.requires.end_columns c.requires.kept_len_bound c.requires.each_fits c.chain_all-w.ensures.laid c.chain_all-w.ensures.room }

pub judge_wires-requires : goal.judge_wires-requires
judge_wires-requires c = (lengths_sum _ _ _ _ _ _ _ _ _ _ c.requires.end_columns c.requires.kept_len_bound c.requires.each_fits c.chain_all-w.ensures.laid c.chain_all-w.ensures.room, lengths_few _ _ _ _ _ _ _ _ _ _ c.requires.end_columns c.requires.kept_len_bound c.requires.each_fits c.chain_all-w.ensures.laid c.chain_all-w.ensures.room (omega (arith, length-replicate {A = ℕ} 2048 0)))

pub returns : goal.returns
returns c = λ p col. c.judge_wires.ensures p _ col (uses_stand _ _ _ _ _ _ _ _ _ (c.chain_all-w.ensures.laid p col) c.chain_all-w.ensures.room) (lengths_stand _ _ _ _ _ _ _ _ _ (c.chain_all-w.ensures.laid p col) c.chain_all-w.ensures.room)
