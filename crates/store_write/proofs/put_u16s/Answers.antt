use mathlib.Core.Path.{refl}
use native.Mathlib.Omega.{arith}
use lib.ListN.{length}
use lib.Seq.{take_all}
use Rattle.lists.proofs.Sets.{laid_all, laid_next, laid_room, laid_start}
use Rattle.words.specs.Words.{bytes16}
use Rattle.store_write.proofs.put_u16s.Goals as goal

pub loop-k-init : goal.loop-k-init
loop-k-init c = laid_start bytes16 2 _ _ _ _ (λ x. refl) (omega arith)

pub put_u16-requires : goal.put_u16-requires
put_u16-requires c = laid_room bytes16 2 _ _ _ _ _ _ c.loop-k.invariant c.requires c.loop-k-test.true

pub loop-k-preserved : goal.loop-k-preserved
loop-k-preserved c = laid_next bytes16 2 _ _ _ _ _ _ c.loop-k.invariant _ 0 c.loop-k-test.true c.put_u16.ensures

pub returns : goal.returns
returns c = rw (take_all (length c.args.ns.now) c.args.ns.now (omega arith)) at (laid_all bytes16 2 _ _ _ _ _ _ c.loop-k.invariant c.loop-k-test.false)
