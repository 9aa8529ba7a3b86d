-- What is kept after the two faces is what the definition keeps.
use mathlib.Core.Path.{◌∙◌, refl}
use native.Mathlib.Omega.{arith}
use Rattle.glue_wires.proofs.Judging.{bare_start, each_kept, glue_21, glue_rest, within_as}
use Rattle.glue_wires.proofs.glue_kept.Goals as goal

pub keep_face-requires-clause-part_fits : goal.keep_face-requires-clause-part_fits
keep_face-requires-clause-part_fits c = c.requires.part_fits

pub keep_face-requires-clause-holding : goal.keep_face-requires-clause-holding
keep_face-requires-clause-holding c = bare_start _ _ _ c.requires.kept_value.0 c.requires.part_fits.ends

pub meet_all-requires-clause-part_fits : goal.meet_all-requires-clause-part_fits
meet_all-requires-clause-part_fits c = within_as _ _ _ _ _ _ _ _ refl refl c.keep_face.auto.kept refl c.requires.part_fits_2

pub meet_all-requires-clause-holding : goal.meet_all-requires-clause-holding
meet_all-requires-clause-holding c = c.keep_face.ensures.holding_2

pub shape_of-kept-then-not-meet_all : goal.shape_of-kept-then-not-meet_all
shape_of-kept-then-not-meet_all c = c.meet_all.auto.kept ∙ c.keep_face.auto.kept

pub returns-then-not-meet_all : goal.returns-then-not-meet_all
returns-then-not-meet_all c = λ p f g s. glue_21 _ _ _ _ _ _ _ _ c.requires.kept_value.0 c.keep_face.ensures.kept_after _ c.meet_all.ensures.kept_value (c.if-not-meet_all.true) p f g s _ _ _ _

pub write_kept-requires-clause-end_columns : goal.write_kept-requires-clause-end_columns
write_kept-requires-clause-end_columns c = c.requires.part_fits.ends

pub write_kept-requires-clause-holding : goal.write_kept-requires-clause-holding
write_kept-requires-clause-holding c = c.meet_all.ensures.holding_2

pub write_kept-requires-clause-kept_len_bound : goal.write_kept-requires-clause-kept_len_bound
write_kept-requires-clause-kept_len_bound c = omega (arith, c.meet_all.auto.kept, c.keep_face.auto.kept, c.requires.kept_value.1)

pub write_kept-requires-clause-each_fits : goal.write_kept-requires-clause-each_fits
write_kept-requires-clause-each_fits c = each_kept _ _ _ _ _ _ _ _ c.requires.kept_value.0 c.keep_face.ensures.kept_after _ c.meet_all.ensures.kept_value (c.if-not-meet_all.false) (c.meet_all.auto.kept ∙ c.keep_face.auto.kept) c.requires.part_fits c.requires.part_fits_2

pub shape_of-kept : goal.shape_of-kept
shape_of-kept c = c.write_kept.auto.kept ∙ c.meet_all.auto.kept ∙ c.keep_face.auto.kept

pub returns : goal.returns
returns c = λ p f g s. glue_rest _ _ _ _ _ _ _ _ c.requires.kept_value.0 c.keep_face.ensures.kept_after _ c.meet_all.ensures.kept_value (c.if-not-meet_all.false) (c.meet_all.auto.kept ∙ c.keep_face.auto.kept) p f g s _ _ _ _ _ c.write_kept.ensures
