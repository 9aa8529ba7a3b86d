use mathlib.Core.Path.{◌∙◌, ◌≡◌, ap}
use native.Mathlib.Omega.{arith}
use lib.ListN.{length}
use Rattle.remove_vertex_corners.proofs.Flagging.{flags_are}
use Rattle.remove_vertex_corners.specs.Endings.{ending_of}
use Rattle.shell_edits.specs.Edits.{listed_wires}
use borrow.Author.Rules.{rules}
use Rattle.remove_vertex_corners.proofs.ending_in.Goals as goal

pub ending_wires-requires-clause-counts_len_bound : goal.ending_wires-requires-clause-counts_len_bound
ending_wires-requires-clause-counts_len_bound c = let flags_long : length c.wire_ends-flags.result ≡ 1024 = search rules in
    let few = c.requires.wire_tables.few_wires in
    (c.requires.counts_value.0, omega (arith, c.requires.counts_value.1, few, flags_long), omega (arith, c.requires.counts_value.1, few))

pub ending_wires-requires-clause-listings_len_bound : goal.ending_wires-requires-clause-listings_len_bound
ending_wires-requires-clause-listings_len_bound c = c.requires.listings_len_bound

pub returns : goal.returns
returns c = let w = c.args.wires.now in
    let found = rw c.requires.counts_value.1 at c.ending_wires.ensures in
    found ∙ ap ending_of (flags_are w.ends.fronts.now w.ends.backs.now _ c.args.lens.now w.uses.now (listed_wires c.args.counts.now (length c.args.lens.now) c.args.listings.now) c.wire_ends-flags.ensures)
