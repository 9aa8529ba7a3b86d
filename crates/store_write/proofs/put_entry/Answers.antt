-- Two parts, one after the other.
use Prim.Native.Nat.{◌+◌}
use mathlib.Core.Path.{refl}
use Rattle.lists.proofs.Sets.{sets_then}
use Rattle.words.specs.Words.{bytes32}
use Rattle.store_write.proofs.put_entry.Goals as goal

pub returns : goal.returns
returns c = let args = c.args in
    sets_then args.out.now _ (bytes32 args.offset) (bytes32 _) (args.at + 4) refl c.put_u32.ensures c.put_u32-2.ensures
