-- The number and the ends, then the span and the line feed.
use mathlib.Core.List.{◌++◌}
use Prim.Native.Nat.{◌+◌, ◌≤◌}
use mathlib.Core.Path.{◌∙◌}
use native.Mathlib.Omega.{arith}
use lib.ListN.{length}
use Rattle.decimals.specs.Decimals.{real_text}
use Rattle.lists.proofs.Sets.{put_then}
use Rattle.output.specs.Text.{ascii, decimal, field}
use Rattle.show_lines.proofs.Bounds.{five}
use Rattle.show_lines.specs.PatternLines.{edge_line}
use Rattle.show_lines.proofs.put_edge.Goals as goal
use Rattle.show_lines.proofs.put_edge.Goals.{After-put_field-end-3}

-- the number and the ends have at most 30 bytes, and there is room for the span
ends : (c : After-put_field-end-3) → (c.put_field-end-3.result ≤ c.args.at + 30) × (c.put_field-end-3.result + 66 ≤ length c.put_field-end-3.new.out)
ends c =
    let short : c.put_field-end-3.result ≤ c.args.at + 30 =
    omega (arith, five _ c.requires.1, five c.from.result (omega (arith, c.from.ensures, c.ranges.front.fits)), five c.from-2.result (omega (arith, c.from-2.ensures, c.ranges.back.fits))) in
    (short, omega (arith, c.requires.0, c.put_field-end-3.auto.out, c.put_field-end-2.auto.out, c.put_field-end.auto.out))

pub put_field-end-requires : goal.put_field-end-requires
put_field-end-requires c =
    omega (arith, five _ c.requires.1)

pub put_field-end-requires-2 : goal.put_field-end-requires-2
put_field-end-requires-2 c =
    omega (arith, five _ c.requires.1, five c.from.result (omega (arith, c.from.ensures, c.ranges.front.fits)))

pub put_field-end-requires-3 : goal.put_field-end-requires-3
put_field-end-requires-3 c =
    omega (arith, five _ c.requires.1, five c.from.result (omega (arith, c.from.ensures, c.ranges.front.fits)), five c.from-2.result (omega (arith, c.from-2.ensures, c.ranges.back.fits)))

pub put_text-end-requires : goal.put_text-end-requires
put_text-end-requires c =
    omega (arith, (ends (goal.at.put_text-end-requires c).After-put_field-end-3))

pub put_real-end-requires : goal.put_real-end-requires
put_real-end-requires c =
    omega (arith, (ends (goal.at.put_real-end-requires c).After-put_field-end-3))

pub put_text-end-requires-2 : goal.put_text-end-requires-2
put_text-end-requires-2 c =
    omega (arith, (ends (goal.at.put_text-end-requires-2 c).After-put_field-end-3))

pub put_real-end-requires-2 : goal.put_real-end-requires-2
put_real-end-requires-2 c =
    omega (arith, (ends (goal.at.put_real-end-requires-2 c).After-put_field-end-3), c.put_text-end-2.auto.out, c.put_real-end.auto.out, c.put_text-end.auto.out)

pub put_text-requires : goal.put_text-requires
put_text-requires c =
    omega (arith, (ends (goal.at.put_text-requires c).After-put_field-end-3), c.put_real-end-2.auto.out, c.put_text-end-2.auto.out, c.put_real-end.auto.out, c.put_text-end.auto.out)

pub shape_of-out : goal.shape_of-out
shape_of-out c =
    c.put_text.auto.out ∙ c.put_real-end-2.auto.out ∙ c.put_text-end-2.auto.out ∙ c.put_real-end.auto.out ∙ c.put_text-end.auto.out ∙ c.put_field-end-3.auto.out ∙ c.put_field-end-2.auto.out ∙ c.put_field-end.auto.out

pub returns : goal.returns
unfolding edge_line field
returns c =
    let a = c.args in
    let s1 = ascii "edge " ++ decimal a.k in
    let s2 = s1 ++ (ascii " from " ++ decimal c.from.result) in
    let s3 = s2 ++ (ascii " to " ++ decimal c.from-2.result) in
    let s4 = s3 ++ ascii " span " in
    let s5 = s4 ++ real_text a.t0 in
    let s6 = s5 ++ ascii " " in
    let p2 = put_then a.out.now a.at s1 (ascii " from " ++ decimal c.from.result) _ _ _ _ c.put_field-end.ensures c.put_field-end-2.ensures in
    let p3 = put_then a.out.now a.at s2 (ascii " to " ++ decimal c.from-2.result) _ _ _ _ p2 c.put_field-end-3.ensures in
    let p4 = put_then a.out.now a.at s3 (ascii " span ") _ _ _ _ p3 c.put_text-end.ensures in
    let p5 = put_then a.out.now a.at s4 (real_text a.t0) _ _ _ _ p4 (c.put_real-end.ensures.0, c.put_real-end.ensures.1) in
    let p6 = put_then a.out.now a.at s5 (ascii " ") _ _ _ _ p5 c.put_text-end-2.ensures in
    let p7 = put_then a.out.now a.at s6 (real_text a.t1) _ _ _ _ p6 (c.put_real-end-2.ensures.0, c.put_real-end-2.ensures.1) in
    let p8 = put_then a.out.now a.at (s6 ++ real_text a.t1) (ascii "\n") _ _ _ _ p7 c.put_text.ensures in
    rw (← c.from.ensures, ← c.from-2.ensures) (p8.0, p8.1, omega (arith, (ends (goal.at.returns c).After-put_field-end-3)))
