-- Reading what was written gives the pattern back, and writing what was read gives the file's bytes back.
use Rattle.std.specs.Prelude.{Ok}
use Prim.Native.Nat.{◌<◌, ◌≤◌, ℕ}
use mathlib.Core.List.{List, [], ◌++◌}
use mathlib.Core.Path.{◌∙◌, ◌≡◌, ap, refl}
use lib.ListN.{drop, get_or, length, take}
use lib.Seq.{take-append_seam}
use borrow.Author.Tests.{le-leb}
use Rattle.errors.proofs.Laws.{none_left}
use Rattle.errors.specs.Faults.{first}
use Rattle.errors.specs.declared.Refusal.{Refusal}
use Rattle.pattern.proofs.Counts.{Full}
use Rattle.pattern.proofs.Passed.{pattern_passed}
use Rattle.pattern.specs.Checks.{content_faults, count_faults, pattern_faults}
use Rattle.pattern.specs.Contents.{Pattern, content, counts_of, stored}
use Rattle.pattern_file.proofs.Fits.{Fits}
use Rattle.pattern_file.proofs.RoundTrip.{content_of_stored, read_of_written, written_of_read}
use Rattle.pattern_file.specs.File.{file_bytes, file_content, file_faults, table_faults}
use Rattle.store_read.proofs.Fresh.{blank, fresh_faults}
use Rattle.store_read.specs.Loading.{check_of, loaded, pattern_of}
use Rattle.store_write.proofs.Parts.{counts_same}
use Rattle.store_write.specs.Writing.{write_answer, write_bytes, written, written_bytes}

-- what reading makes of a file: the answer of the checks, and the pattern
abbrev Accepts : List ℕ → Pattern → Type 0
Accepts s q = (check_of s ≡ Ok tt) × (pattern_of s ≡ q)

-- what reading makes of the bytes that `write` wrote for an accepted pattern: its content, in storage; `Full` and `Fits` hold of every pattern that a store holds
pub read_back : (p : Pattern) → Full p → length p.counts ≡ 7 → pattern_faults p ≡ [] → Fits (content p) → Accepts (file_bytes (content p)) (stored (content p))
read_back p full seven ok small =
    let kept = (pattern_passed p ok).counts in
    let few : count_faults (counts_of (content p)) ≡ [] = ap count_faults (counts_same p full seven kept) ∙ kept in
    let back = read_of_written (content p) few (pattern_passed p ok).content small in
    (ap first back.0, ap stored back.1)

whole : (fs : List Refusal) (file s out : List ℕ) → fs ≡ [] → file ≡ s → length s ≤ length out
    → (write_answer fs file out ≡ (Ok (length s))) × (write_bytes fs file out ≡ s ++ drop (length s) out)
whole fs file s out e f room = rw (e, f, le-leb (length s) (length out) room) (refl, refl)

-- reading what was written: of the bytes that `write` left in a slice that is long enough, the first `length file` are read back
pub read_of_write : (p : Pattern) → Full p → length p.counts ≡ 7 → pattern_faults p ≡ [] → Fits (content p) → (out : List ℕ) → length (file_bytes (content p)) ≤ length out
    → Accepts (take (length (file_bytes (content p))) (written_bytes p out)) (stored (content p))
read_of_write p full seven ok small out room =
    let file = file_bytes (content p) in
    let same : take (length file) (written_bytes p out) ≡ file =
    ap (take (length file)) (whole (pattern_faults p) file file out ok refl room).1 ∙ take-append_seam file (drop (length file) out) in
    let back = read_back p full seven ok small in
    (ap check_of same ∙ back.0, ap pattern_of same ∙ back.1)

-- the pattern of an accepted file has no fault
passes : (s : List ℕ) → file_faults s ≡ [] → pattern_faults (pattern_of s) ≡ []
passes s ok =
    let table = ap first (none_left (table_faults s) (content_faults (file_content s)) ok) in
    fresh_faults s (loaded blank s) refl table ∙ ok

-- what `write` makes of the pattern that was read from an accepted file: the file's bytes, then the rest of the slice
pub written_back : (s out : List ℕ) → ((k : ℕ) → get_or s k 0 < 256) → file_faults s ≡ [] → length s ≤ length out
    → (written (pattern_of s) out ≡ (Ok (length s))) × (written_bytes (pattern_of s) out ≡ s ++ drop (length s) out)
written_back s out bytes ok room =
    let same = content_of_stored (file_content s) in
    let file = written_of_read s bytes ok in
    whole (pattern_faults (pattern_of s)) (file_bytes (content (pattern_of s))) s out (passes s ok) (ap file_bytes same ∙ file) room
