use mathlib.Core.Path.{refl}
use native.Mathlib.Omega.{arith}
use Rattle.words.specs.Words.{bytes32}
use Rattle.lists.proofs.Flat.{get_d_tabulate}
use Rattle.lists.proofs.Laws.{length_tabulate}
use Rattle.lists.proofs.Sets.{laid_all, laid_next, laid_room, laid_start}
use Rattle.store.specs.Store.{label_in}
use Rattle.store_write.proofs.put_labels.Goals as goal

pub loop-k-init : goal.loop-k-init
loop-k-init c = laid_start bytes32 4 _ _ _ _ (λ x. refl) (omega (arith, length_tabulate 2048 (label_in c.args.t.now)))

pub put_u32-requires : goal.put_u32-requires
put_u32-requires c = laid_room bytes32 4 _ _ _ _ _ _ c.loop-k.invariant c.requires.0 c.loop-k-test.true

pub loop-k-preserved : goal.loop-k-preserved
loop-k-preserved c = laid_next bytes32 4 _ _ _ _ _ _ c.loop-k.invariant _ 0 c.loop-k-test.true
    (rw (get_d_tabulate 2048 (label_in c.args.t.now) c.loop-k.k 0 (omega arith)) (rw c.label_in.ensures at c.put_u32.ensures))

pub returns : goal.returns
returns c = laid_all bytes32 4 _ _ _ _ _ _ c.loop-k.invariant c.loop-k-test.false
