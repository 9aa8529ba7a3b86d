-- A line is refused, or the mesh is judged.
use Rattle.mesh.specs.Reading.{end_line, reading}
use Rattle.mesh_read.proofs.Pieces.{line_read}
use Rattle.mesh_words.proofs.Places.{going_low, stopped_at, stopped_high}
use Rattle.mesh_file.proofs.Answers.{finished_bad, finished_follows, finished_good, finished_kept}
use Rattle.mesh_file.proofs.finish.Goals as goal

pub returns-in-Some : goal.returns-in-Some
returns-in-Some c = λ s w. let f = c.end_line-reader.ensures (reading s) w in
    let a = finished_bad s f (stopped_high c.end_line-reader.result.place c.fault.ensures c.in-Some.is) _ (stopped_at c.end_line-reader.result.place c.fault.ensures c.in-Some.is) c.into.ensures _ in (a.0, a.1, rw (line_read s) f)

pub returns : goal.returns
returns c = let h = going_low c.end_line-reader.result.place c.fault.ensures c.in_default.not-Some in
    λ s w. let f = c.end_line-reader.ensures (reading s) w in
    let j = c.judge-answer.ensures (end_line (reading s)).mesh _ (finished_kept s f h) in
    let a = finished_good s f h _ _ _ j.0 in (a.0, a.1, rw (line_read s) (finished_follows s f h _ j.1))
