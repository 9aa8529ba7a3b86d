-- Part by part.
use mathlib.Core.List.{[], ◌∷◌}
use native.Mathlib.Omega.{arith}
use lib.ListN.{get_or}
use Rattle.pattern.proofs.Counts.{Limited, limited}
use Rattle.store.proofs.View.{held_shells}
use Rattle.store.specs.Store.{held}
use Rattle.mesh_file.proofs.Rest.{rest_stored}
use borrow.Author.Rules.{rules}
use Rattle.mesh_file.proofs.put_rest.Goals as goal

pub put_faces-requires : goal.put_faces-requires
put_faces-requires c = let fit : Limited c.args.counts = limited c.args.counts (search rules) c.requires in
    (fit).faces

pub overflow_cast-t : goal.overflow_cast-t
overflow_cast-t c = let fit : Limited c.args.counts = limited c.args.counts (search rules) c.requires in
    omega (arith, (fit).faces)

pub returns : goal.returns
returns c = λ spans. rest_stored (held c.args.t.now spans) c.args.counts _ _ _ (c.put_faces.ensures spans)
    (held_shells c.put_faces.new.t spans c.tables_known.ensures 0 (get_or c.args.counts 4 0 ∷ []) (omega arith)) (c.put_counts.ensures spans)
