-- The wire has no use, or its first point is another, or the last points decide.
use Prim.Native.Nat.{◌-◌}
use mathlib.Core.Path.{◌∙◌, sym}
use native.Mathlib.Omega.{arith}
use lib.ListN.{length}
use Rattle.wire.proofs.Laws.{named_edge}
use Rattle.wire_swaps.proofs.Swaps.{ends_back, ends_front, ends_none}
use Rattle.wire_swaps.proofs.same_ends.Goals as goal

pub front_of-p-requires : goal.front_of-p-requires
front_of-p-requires c = c.requires

pub front_of-q-requires : goal.front_of-q-requires
front_of-q-requires c = named_edge _ _ _ c.args.new.now.named 0 (omega arith)

pub back_of-r-requires : goal.back_of-r-requires
back_of-r-requires c = c.requires

pub back_of-s-requires : goal.back_of-s-requires
back_of-s-requires c = named_edge _ _ _ c.args.new.now.named (length c.args.new.now.uses.now - 1) (omega arith)

pub returns-then-p-q : goal.returns-then-p-q
returns-then-p-q c = let args = c.args in
    rw (c.back_of-r.ensures, c.back_of-s.ensures) (sym (ends_back args.new.now.ends.fronts.now args.new.now.ends.backs.now args.u args.new.now.uses.now (omega arith) (sym c.front_of-p.ensures ∙ c.if-p-q.true ∙ c.front_of-q.ensures)))

pub returns-else-p-q : goal.returns-else-p-q
returns-else-p-q c = let args = c.args in
    sym (ends_front args.new.now.ends.fronts.now args.new.now.ends.backs.now args.u args.new.now.uses.now (omega arith) (λ e. c.if-p-q.false (c.front_of-p.ensures ∙ e ∙ sym c.front_of-q.ensures)))

pub returns-else-n-gt0 : goal.returns-else-n-gt0
returns-else-n-gt0 c = let args = c.args in
    sym (ends_none args.new.now.ends.fronts.now args.new.now.ends.backs.now args.u args.new.now.uses.now (omega arith))
