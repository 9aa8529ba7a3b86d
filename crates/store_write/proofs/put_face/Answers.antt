-- Two parts, one after the other.
use Prim.Native.Nat.{◌+◌}
use mathlib.Core.Path.{refl}
use Rattle.lists.proofs.Sets.{sets_then}
use Rattle.words.specs.Words.{bytes16}
use Rattle.store_write.proofs.put_face.Goals as goal

pub returns : goal.returns
returns c = let args = c.args in
    sets_then args.out.now _ (bytes16 args.f.wires) (bytes16 _) (args.at + 2) refl c.put_u16.ensures c.put_u16-2.ensures
