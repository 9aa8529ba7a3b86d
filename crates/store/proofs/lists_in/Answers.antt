-- No count is above its limit, so that each list lies within its table.
use Prim.Native.Nat.{◌+◌, ◌≤◌, ℕ}
use mathlib.Core.List.{List}
use mathlib.Core.Path.{◌∙◌, ◌≡◌, ap, sym}
use native.Mathlib.Omega.{arith}
use lib.ListN.{get_or, length, take}
use lib.Seq.{length-take-le}
use Rattle.pattern.proofs.Counts.{Limited, limited}
use Rattle.store.proofs.Parts.{part_long}
use Rattle.store.specs.Store.{count_table, part}
use Rattle.store.proofs.lists_in.Goals as goal
use Rattle.store.proofs.lists_in.Goals.{After-ends_in-ends}

limits : (c : After-ends_in-ends) → Limited (count_table c.args.t.now)
limits c = limited (count_table c.args.t.now) (part_long c.args.t.now 0 7 (omega (arith, c.tables_known.ensures))) c.requires

-- a count within its limit is within the table of that length
fits : (t : List ℕ) (k from m : ℕ) (counts table : List ℕ) → length t ≡ 12312 → from + m ≤ 12312 → counts ≡ count_table t → get_or (count_table t) k 0 ≤ m → table ≡ part from m t → get_or counts k 0 ≡ length (take (get_or counts k 0) table)
fits t k from m counts table long inside is low e = let l : length table ≡ m = ap length e ∙ part_long t from m (omega (arith, long, inside)) in
    sym (length-take-le (get_or counts k 0) table (rw (is, l) low))

pub slice_bounds-result-end : goal.slice_bounds-result-end
slice_bounds-result-end c = fits c.args.t.now 1 8 1024 _ _ c.tables_known.ensures (omega arith) c.counts_in-counts.ensures (limits (goal.at.slice_bounds-result-end c).After-ends_in-ends).edges c.ends_in-ends.ensures.0

pub slice_bounds-result-end-2 : goal.slice_bounds-result-end-2
slice_bounds-result-end-2 c = fits c.args.t.now 1 1032 1024 _ _ c.tables_known.ensures (omega arith) c.counts_in-counts.ensures (limits (goal.at.slice_bounds-result-end-2 c).After-ends_in-ends).edges c.ends_in-ends.ensures.1

pub slice_bounds-result-end-3 : goal.slice_bounds-result-end-3
slice_bounds-result-end-3 c = fits c.args.t.now 2 2056 4096 _ _ c.tables_known.ensures (omega arith) c.counts_in-counts.ensures (limits (goal.at.slice_bounds-result-end-3 c).After-ends_in-ends).uses c.uses_in.ensures

pub slice_bounds-result-end-4 : goal.slice_bounds-result-end-4
slice_bounds-result-end-4 c = fits c.args.t.now 3 6152 1024 _ _ c.tables_known.ensures (omega arith) c.counts_in-counts.ensures (limits (goal.at.slice_bounds-result-end-4 c).After-ends_in-ends).wires c.wires_in.ensures

pub slice_bounds-result-end-5 : goal.slice_bounds-result-end-5
slice_bounds-result-end-5 c = fits c.args.t.now 4 7176 256 _ _ c.tables_known.ensures (omega arith) c.counts_in-counts.ensures (limits (goal.at.slice_bounds-result-end-5 c).After-ends_in-ends).faces c.faces_in.ensures

pub slice_bounds-result-end-6 : goal.slice_bounds-result-end-6
slice_bounds-result-end-6 c = fits c.args.t.now 5 7688 16 _ _ c.tables_known.ensures (omega arith) c.counts_in-counts.ensures (limits (goal.at.slice_bounds-result-end-6 c).After-ends_in-ends).shells c.shells_in.ensures

pub slice_bounds-result-end-7 : goal.slice_bounds-result-end-7
slice_bounds-result-end-7 c = fits c.args.t.now 6 7704 512 _ _ c.tables_known.ensures (omega arith) c.counts_in-counts.ensures (limits (goal.at.slice_bounds-result-end-7 c).After-ends_in-ends).listings c.listings_in.ensures

pub returns : goal.returns
returns c = record {
  ends = (rw (c.counts_in-counts.ensures, c.ends_in-ends.ensures.0), rw (c.counts_in-counts.ensures, c.ends_in-ends.ensures.1));
  uses = rw (c.counts_in-counts.ensures, c.uses_in.ensures);
  wires = rw (c.counts_in-counts.ensures, c.wires_in.ensures);
  faces = rw (c.counts_in-counts.ensures, c.faces_in.ensures);
  shells = rw (c.counts_in-counts.ensures, c.shells_in.ensures);
  listings = rw (c.counts_in-counts.ensures, c.listings_in.ensures);
}
