use native.Mathlib.Omega.{arith}
use Prim.Native.Nat.{ℕ, ◌≤◌, ◌<◌, ◌+◌, ◌*◌}
use lib.ListN.{length, get_or}
use mathlib.Core.Path.{◌∙◌}
use Rattle.pattern_table.proofs.Laws.{body_inside, counts_of_content, records_are, table_counts, table_long}
use Rattle.pattern.specs.Contents.{layout}
use Rattle.pattern_file.specs.File.{edge_at, face_at, file_content}
use Rattle.store.specs.Store.{held}
use Rattle.words.specs.Words.{le16, le32}
use Rattle.store_read.proofs.Laws.{filled_view, listings_read, shells_read, uses_read, wires_read}
use Rattle.store_read.proofs.read_content.Goals as goal
use Rattle.store_read.proofs.read_content.Goals.{After-starts_of-starts}

-- body b stands within the file, and fits its table
room : (c : After-starts_of-starts) → (b : ℕ) → b < 7
    → (get_or c.starts_of-starts.result b 0 + get_or layout.sizes b 0 * get_or c.counts_of-counts.result b 0 ≤ length c.args.s.now)
    × (get_or c.counts_of-counts.result b 0 ≤ get_or layout.limits b 0)
room c b h = body_inside c.args.s.now c.requires c.counts_of-counts.result c.starts_of-starts.result c.counts_of-counts.ensures c.starts_of-starts.ensures b h

pub counts_of-counts-requires : goal.counts_of-counts-requires
counts_of-counts-requires c = table_long c.args.s.now c.requires

pub starts_of-starts-requires : goal.starts_of-starts-requires
starts_of-starts-requires c = rw c.counts_of-counts.ensures (table_counts c.args.s.now c.requires)

pub read_counts-requires : goal.read_counts-requires
read_counts-requires c = rw c.counts_of-counts.ensures (table_counts c.args.s.now c.requires)

pub read_labels-requires : goal.read_labels-requires
read_labels-requires c = room (goal.at.read_labels-requires c).After-starts_of-starts 0 (omega arith)

pub read_edges-requires : goal.read_edges-requires
read_edges-requires c = room (goal.at.read_edges-requires c).After-starts_of-starts 1 (omega arith)

pub read_numbers-requires : goal.read_numbers-requires
read_numbers-requires c = let r = room (goal.at.read_numbers-requires c).After-starts_of-starts 2 (omega arith) in (r.0, omega (arith, r.1))

pub read_numbers-requires-2 : goal.read_numbers-requires-2
read_numbers-requires-2 c = let r = room (goal.at.read_numbers-requires-2 c).After-starts_of-starts 3 (omega arith) in (r.0, omega (arith, r.1))

pub read_faces-requires : goal.read_faces-requires
read_faces-requires c = room (goal.at.read_faces-requires c).After-starts_of-starts 4 (omega arith)

pub read_numbers-requires-3 : goal.read_numbers-requires-3
read_numbers-requires-3 c = let r = room (goal.at.read_numbers-requires-3 c).After-starts_of-starts 5 (omega arith) in (r.0, omega (arith, r.1))

pub read_numbers-requires-4 : goal.read_numbers-requires-4
read_numbers-requires-4 c = let r = room (goal.at.read_numbers-requires-4 c).After-starts_of-starts 6 (omega arith) in (r.0, omega (arith, r.1))

pub returns : goal.returns
returns c = let room = room (goal.at.returns c).After-starts_of-starts in
    let S = c.args.s.now in
    let ok = c.requires in
    let counts = c.counts_of-counts.result in
    let starts = c.starts_of-starts.result in
    let e = c.counts_of-counts.ensures in
    let f = c.starts_of-starts.ensures in
    let z = c.read_edges.new.spans in
    let t₂ = c.read_edges.new.t in
    let t₃ = c.read_numbers.new.t in
    let t₄ = c.read_numbers-2.new.t in
    let t₅ = c.read_faces.new.t in
    let t₆ = c.read_numbers-3.new.t in
    filled_view (file_content S) (held c.args.t.now c.args.spans.now) _ _ _ _ _ _ _ _ _ _ _ _ _ _ _ _
    (e ∙ counts_of_content S) (records_are S ok counts starts e f le32 0 (omega arith)) (records_are S ok counts starts e f edge_at 1 (omega arith)) (records_are S ok counts starts e f le16 2 (omega arith)) (records_are S ok counts starts e f le16 3 (omega arith)) (records_are S ok counts starts e f face_at 4 (omega arith)) (records_are S ok counts starts e f le16 5 (omega arith)) (records_are S ok counts starts e f le16 6 (omega arith))
    (c.read_counts.ensures c.args.spans.now)
    (c.read_labels.ensures c.args.spans.now)
    c.read_edges.ensures
    (uses_read t₂ t₃ z c.read_numbers.ensures.0 (get_or counts 2 0) (λ (k : ℕ). le16 S (get_or starts 2 0 + 2 * k)) (room 2 (omega arith)).1 c.read_numbers.ensures.1)
    (wires_read t₃ t₄ z c.read_numbers-2.ensures.0 (get_or counts 3 0) (λ (k : ℕ). le16 S (get_or starts 3 0 + 2 * k)) (room 3 (omega arith)).1 c.read_numbers-2.ensures.1)
    (c.read_faces.ensures z)
    (shells_read t₅ t₆ z c.read_numbers-3.ensures.0 (get_or counts 5 0) (λ (k : ℕ). le16 S (get_or starts 5 0 + 2 * k)) (room 5 (omega arith)).1 c.read_numbers-3.ensures.1)
    (listings_read t₆ _ z c.read_numbers-4.ensures.0 (get_or counts 6 0) (λ (k : ℕ). le16 S (get_or starts 6 0 + 2 * k)) (room 6 (omega arith)).1 c.read_numbers-4.ensures.1)
