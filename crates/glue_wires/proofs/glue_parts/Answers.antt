-- Nothing is kept in the places of the points.
use Rattle.glue_wires.proofs.Places.{bare_long, bare_whole}
use Rattle.glue_wires.proofs.glue_parts.Goals as goal

pub glue_kept-requires-clause-part_fits : goal.glue_kept-requires-clause-part_fits
glue_kept-requires-clause-part_fits c = let few = c.requires.points_bound in
    let long = bare_long c.args.points few in
    rw long c.requires.part_fits

pub glue_kept-requires-clause-part_fits_2 : goal.glue_kept-requires-clause-part_fits_2
glue_kept-requires-clause-part_fits_2 c = let few = c.requires.points_bound in
    let long = bare_long c.args.points few in
    rw long c.requires.part_fits_2

pub glue_kept-requires-clause-kept_value : goal.glue_kept-requires-clause-kept_value
glue_kept-requires-clause-kept_value c = let few = c.requires.points_bound in
    let long = bare_long c.args.points few in
    bare_whole c.args.points few

pub returns : goal.returns
returns c = λ p f g s. c.glue_kept.ensures p f g (rw (bare_long c.args.points c.requires.points_bound) s)
