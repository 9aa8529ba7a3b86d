-- The number, then the word, the listings and the line feed.
use mathlib.Core.List.{◌++◌, map}
use native.Mathlib.Omega.{arith}
use Rattle.lines.proofs.Bounds.{items_short}
use Rattle.lines.specs.Parts.{item}
use Rattle.lists.proofs.Sets.{put_then}
use Rattle.lists.specs.Lists.{flat}
use Rattle.output.specs.Text.{ascii, decimal, field}
use Rattle.show_lines.proofs.Bounds.{five}
use Rattle.show_lines.specs.PatternLines.{shell_line}
use Rattle.show_lines.proofs.put_shell.Goals as goal

pub put_field-end-requires : goal.put_field-end-requires
put_field-end-requires c = omega (arith, five _ c.requires.0)

pub put_text-end-requires : goal.put_text-end-requires
put_text-end-requires c = omega (arith, five _ c.requires.0)

pub put_items-end-requires : goal.put_items-end-requires
put_items-end-requires c = omega (arith, five c.args.k c.requires.0, items_short c.args.listings.now)

pub put_text-requires : goal.put_text-requires
put_text-requires c = omega (arith, five c.args.k c.requires.0, items_short c.args.listings.now)

pub returns : goal.returns
unfolding shell_line field
returns c = let x = ascii "shell " ++ decimal c.args.k in
    let items = flat (map item c.args.listings.now) in
    let p = put_then c.args.out.now c.args.at x (ascii " faces") _ _ _ _ c.put_field-end.ensures c.put_text-end.ensures in
    let q = put_then c.args.out.now c.args.at (x ++ ascii " faces") items _ _ _ _ p c.put_items-end.ensures in
    let r = put_then c.args.out.now c.args.at (x ++ ascii " faces" ++ items) (ascii "\n") _ _ _ _ q c.put_text.ensures in
    (r.0, r.1, omega (arith, five c.args.k c.requires.0, items_short c.args.listings.now))
