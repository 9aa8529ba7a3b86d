use Rattle.std.proofs.Common.{refl, ap, arith}
use Rattle.mesh.specs.Reading.{end_word}
use Rattle.mesh_words.proofs.Places.{going_low, stopped_high}
use Rattle.mesh_words.specs.Following.{place_number}
use Rattle.mesh_read.proofs.Lines.{line_closed, line_few, line_plain, line_refused}
use Rattle.mesh_read.proofs.end_line.Goals as goal

pub returns-in-Some : goal.returns-in-Some
returns-in-Some c = λ st f. line_refused st (c.end_word-r.ensures st f) (stopped_high c.end_word-r.result.place c.fault.ensures c.in-Some.is)

pub returns-then-r-lt3 : goal.returns-then-r-lt3
returns-then-r-lt3 c = λ st f.
    line_few st (c.end_word-r.ensures st f) (omega (arith, ap place_number c.in-Between.is)) _ c.in-Between.is _ _ c.if-r-lt3.true refl refl

pub returns-else-r-lt3 : goal.returns-else-r-lt3
returns-else-r-lt3 c = λ st f.
    line_closed st (c.end_word-r.ensures st f) (omega (arith, ap place_number c.in-Between.is)) _ c.in-Between.is _ _ c.if-r-lt3.false (c.close_face.ensures (end_word st))

pub returns-in_default-place : goal.returns-in_default-place
returns-in_default-place c = λ st f.
    line_plain st (c.end_word-r.ensures st f) (going_low c.end_word-r.result.place c.fault.ensures c.in_default.not-Some) _ c.in_default-place.not-Between c.fresh.ensures
