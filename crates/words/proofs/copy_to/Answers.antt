use Prim.Native.Nat.{◌+◌}
use mathlib.Core.Path.{◌∙◌, ap}
use lib.ListN.{set, take}
use lib.Seq.{sets}
use Rattle.lists.proofs.Sets.{sets_next}
use Rattle.words.proofs.copy_to.Goals as goal

pub loop-i-preserved : goal.loop-i-preserved
loop-i-preserved g c = let args = c.args in
    rw c.loop-i.invariant
    (ap (λ x. set (sets args.out.now args.at (take c.loop-i.i args.from.now)) (args.at + c.loop-i.i) x) c.index-from-i.is ∙ sets_next _ _ _ _ _ c.loop-i-test.true)
