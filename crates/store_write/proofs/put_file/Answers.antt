-- Too long for the slice, or written.
use mathlib.Core.List.{[]}
use mathlib.Core.Path.{◌≡◌, refl}
use native.Mathlib.Omega.{arith}
use lib.ListN.{get_or, length}
use Rattle.errors.proofs.Laws.{none_left}
use Rattle.pattern.specs.Checks.{content_faults, count_faults}
use Rattle.pattern.specs.Contents.{content}
use Rattle.pattern_file.specs.File.{file_bytes}
use Rattle.store.proofs.View.{held_full, held_seven}
use Rattle.store.specs.Store.{held}
use Rattle.store_write.proofs.Laws.{write_short, write_whole}
use Rattle.store_write.proofs.Parts.{file_length}
use Rattle.store_write.proofs.put_file.Goals as goal
use Rattle.store_write.proofs.put_file.Goals.{After-starts_of-starts, Start}

few : (c : Start) → count_faults (held c.args.t.now c.args.spans.now).counts ≡ []
few c = none_left (count_faults (held c.args.t.now c.args.spans.now).counts) (content_faults (content (held c.args.t.now c.args.spans.now))) c.requires

-- where the file ends
end : (c : After-starts_of-starts) → count_faults (held c.args.t.now c.args.spans.now).counts ≡ []
    → get_or c.starts_of-starts.result 7 0 ≡ length (file_bytes (content (held c.args.t.now c.args.spans.now)))
end c few =
    let t = c.args.t.now in
    let spans = c.args.spans.now in
    let long = c.tables_known.ensures in
    file_length (held t spans) (held_full t spans long) (held_seven t spans long) few _ (rw c.counts_in.ensures at c.starts_of-starts.ensures)

pub starts_of-starts-requires : goal.starts_of-starts-requires
starts_of-starts-requires c = rw c.counts_in.ensures (few (goal.at.starts_of-starts-requires c).Start)

pub returns-then-out-starts : goal.returns-then-out-starts
returns-then-out-starts c = let at = goal.at.returns-then-out-starts c in
    let e = end at.After-starts_of-starts (few at.Start) in
    write_short (file_bytes (content (held c.args.t.now c.args.spans.now))) c.args.out.now [] refl _ (omega (arith, e, c.if-out-starts.true)) e

pub write_content-requires-clause-t_len : goal.write_content-requires-clause-t_len
write_content-requires-clause-t_len c = (c.tables_known.ensures, rw c.counts_in.ensures at c.starts_of-starts.ensures, c.if-out-starts.false)

pub returns : goal.returns
returns c = let at = goal.at.returns c in
    let e = end at.After-starts_of-starts (few at.Start) in
    write_whole (file_bytes (content (held c.args.t.now c.args.spans.now))) c.args.out.now [] refl _ _ (omega (arith, e, c.if-out-starts.false)) e c.write_content.ensures
