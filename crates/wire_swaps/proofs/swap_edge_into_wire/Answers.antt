-- The parts before, in place of, and after the use are stored one after the other.
use mathlib.Core.Bool.{Bool}
use mathlib.Core.Path.{◌∙◌, ap, sym}
use native.Mathlib.Omega.{arith}
use lib.Seq.{sets}
use Rattle.lists.specs.Lists.{pick}
use Rattle.wire.proofs.Laws.{named_edge}
use Rattle.wire_swaps.proofs.Swaps.{swap_edge_written}
use Rattle.wire_swaps.specs.Swaps.{swap_edge}
use Rattle.wire_swaps.proofs.swap_edge_into_wire.Goals as goal

pub returns-then-same_ends : goal.returns-then-same_ends
returns-then-same_ends c = let e = sym c.if-same_ends.true ∙ c.same_ends.ensures in
    let w = swap_edge_written _ _ c.args.new.now.uses.now _ _ _ _ _ c.requires.i_in_bounds c.copy_to.ensures c.copy_to-then-same_ends.ensures c.copy_to-then-same_ends-2.ensures in record { value = e; out_after = w ∙ ap (λ (b : Bool). pick b (sets c.args.out.now c.args.at (swap_edge c.args.uses.now c.args.i c.args.new.now.uses.now)) c.args.out.now) e }

pub returns : goal.returns
returns c = let args = c.args in
    let e = sym c.if-same_ends.false ∙ c.same_ends.ensures in record { value = e; out_after = ap (λ (b : Bool). pick b (sets args.out.now args.at (swap_edge args.uses.now args.i args.new.now.uses.now)) args.out.now) e }
