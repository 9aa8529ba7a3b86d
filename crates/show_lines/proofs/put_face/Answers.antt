-- The numbers, then the wires and the line feed.
use mathlib.Core.List.{◌++◌}
use native.Mathlib.Omega.{arith}
use Rattle.answer_lines.proofs.Bounds.{wires_short}
use Rattle.answer_lines.specs.AnswerLines.{wires_text}
use Rattle.lists.proofs.Sets.{put_then}
use Rattle.lists.specs.Lists.{split}
use Rattle.output.specs.Text.{ascii, decimal, field}
use Rattle.show_lines.proofs.Bounds.{five}
use Rattle.show_lines.specs.PatternLines.{face_line}
use Rattle.show_lines.proofs.put_face.Goals as goal

pub put_field-end-requires : goal.put_field-end-requires
put_field-end-requires c = omega (arith, five _ c.requires.1)

pub put_field-end-requires-2 : goal.put_field-end-requires-2
put_field-end-requires-2 c = omega (arith, five _ c.requires.1, five c.from.result (omega (arith, c.from.ensures, c.ranges.surface.fits)))

pub put_wires-end-requires : goal.put_wires-end-requires
put_wires-end-requires c = (c.requires.0, omega (arith, five c.args.k c.requires.1, five c.from.result (omega (arith, c.from.ensures, c.ranges.surface.fits)), wires_short c.args.lens.now c.args.us.now))

pub put_text-requires : goal.put_text-requires
put_text-requires c = omega (arith, five c.args.k c.requires.1, five c.from.result (omega (arith, c.from.ensures, c.ranges.surface.fits)), wires_short c.args.lens.now c.args.us.now)

pub returns : goal.returns
unfolding face_line field
returns c = let x = ascii "face " ++ decimal c.args.k in
    let y = ascii " surface " ++ decimal c.from.result in
    let wires = wires_text (split c.args.lens.now c.args.us.now) in
    let p = put_then c.args.out.now c.args.at x y _ _ _ _ c.put_field-end.ensures c.put_field-end-2.ensures in
    let q = put_then c.args.out.now c.args.at (x ++ y) wires _ _ _ _ p c.put_wires-end.ensures in
    let r = put_then c.args.out.now c.args.at (x ++ y ++ wires) (ascii "\n") _ _ _ _ q c.put_text.ensures in
    rw (← c.from.ensures) (r.0, r.1, omega (arith, five c.args.k c.requires.1, five c.from.result (omega (arith, c.from.ensures, c.ranges.surface.fits)), wires_short c.args.lens.now c.args.us.now))
