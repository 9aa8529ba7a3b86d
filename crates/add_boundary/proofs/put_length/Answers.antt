-- The lengths are stored, then one more.
use mathlib.Core.List.{[], ◌∷◌}
use mathlib.Core.Path.{refl}
use native.Mathlib.Omega.{arith}
use lib.ListN.{length}
use Rattle.lists.proofs.Sets.{sets_then}
use Rattle.add_boundary.proofs.put_length.Goals as goal

pub returns : goal.returns
returns c = let args = c.args in
    sets_then args.out.now 0 args.sizes.now (args.n ∷ []) (length args.sizes.now) (omega arith) c.copy_to.ensures refl
