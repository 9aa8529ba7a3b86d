-- What a file holds is the pattern that was written to it, and the file of what was read is the file that was read, to the last bit.
use Prim.Native.Nat.{◌+◌, ◌-◌, ◌<◌, ◌≤◌, ℕ}
use mathlib.Core.Bool.{◌&&◌}
use mathlib.Core.List.{List, [], ◌++◌}
use mathlib.Core.Path.{◌∙◌, ◌≡◌, ap, refl, sym}
use native.Mathlib.Nat.{zero-add}
use native.Mathlib.Omega.{arith}
use lib.Dec.{eqb, leb}
use lib.ListN.{get_or, length, replicate}
use lib.Seq.{take-append_seam}
use borrow.Author.Tests.{eq-eqb, le-leb}
use Rattle.errors.specs.Faults.{each}
use Rattle.errors.specs.declared.Refusal.TheVariants.{Layout}
use Rattle.lists.proofs.Flat.{get_d_tabulate}
use Rattle.lists.proofs.Laws.{length_tabulate}
use Rattle.lists.specs.Lists.{tabulate, unless}
use Rattle.pattern.specs.Checks.{content_faults, count_faults}
use Rattle.pattern.specs.Contents.{Content, content, counts_of, layout, stored, zero_edge, zero_face}
use Rattle.errors.proofs.Laws.{each_none, none_both, unless_none}
use Rattle.pattern_file.proofs.Fits.{Fits}
use Rattle.pattern_file.proofs.Places.{end_le, offset_fault, start_first, start_le}
use Rattle.pattern_file.proofs.ReadBack.{content_back, counts_back, offset_back}
use Rattle.pattern_file.proofs.WriteBack.{file_right}
use Rattle.pattern_file.specs.File.{file_bytes, file_content, file_counts, file_faults, length_faults, offset_at, offset_faults, start_of}

-- a file of which the counts, the offsets and the content are a pattern's passes its checks if the pattern does
passes : (s : List ℕ) (c : Content) → count_faults (counts_of c) ≡ [] → content_faults c ≡ [] → length s ≡ start_of (counts_of c) 7 → file_counts s ≡ counts_of c
    → ((b : ℕ) → b < 7 → offset_at s b ≡ start_of (counts_of c) b) → file_content s ≡ c → file_faults s ≡ []
passes s c few ok end counts offset same =
    let ns = counts_of c in
    let ms = file_counts s in
    let most : length s ≤ start_of layout.limits 7 = rw end (end_le ns few refl) in
    let least : 56 ≤ length s = omega (arith, start_first ns, start_le ns 0 7 (omega arith)) in
    let lengths : length_faults s ≡ [] =
    unless_none (leb 56 (length s) && leb (length s) (start_of layout.limits 7)) (Layout 0)
    (rw (le-leb 56 (length s) least, le-leb (length s) (start_of layout.limits 7) most)) in
    let start : (b : ℕ) → start_of ns b ≡ start_of ms b = λ b. ap (λ (l : List ℕ). start_of l b) (sym counts) in
    let one : (b : ℕ) → b < 7 → offset_fault ms (0 + b) (get_or (tabulate 7 (offset_at s)) b 0) ≡ [] = λ b h.
    rw (zero-add b, get_d_tabulate 7 (offset_at s) b 0 h)
    (unless_none (eqb (offset_at s b) (start_of ms b)) (Layout b) (eq-eqb (offset_at s b) (start_of ms b) (offset b h ∙ start b))) in
    let places : offset_faults s ≡ [] =
    none_both (each (offset_fault ms) 0 (tabulate 7 (offset_at s))) (unless (eqb (length s) (start_of ms 7)) (Layout 6))
    (each_none (offset_fault ms) 0 0 (tabulate 7 (offset_at s)) (λ b h. one b (rw (length_tabulate 7 (offset_at s)) at h)))
    (unless_none (eqb (length s) (start_of ms 7)) (Layout 6) (eq-eqb (length s) (start_of ms 7) (end ∙ start 7))) in
    none_both (length_faults s ++ count_faults ms ++ offset_faults s) (content_faults (file_content s))
    (none_both (length_faults s ++ count_faults ms) (offset_faults s)
    (none_both (length_faults s) (count_faults ms) lengths (ap count_faults counts ∙ few)) places)
    (ap content_faults same ∙ ok)

-- the file of a pattern that passes the checks passes them, and holds that pattern
pub read_of_written : (c : Content) → count_faults (counts_of c) ≡ [] → content_faults c ≡ [] → Fits c
    → (file_faults (file_bytes c) ≡ []) × (file_content (file_bytes c) ≡ c)
read_of_written c few ok fit =
    let back = content_back c few fit in
    (passes (file_bytes c) c few ok back.0 (counts_back c few) (offset_back c few) back.1, back.1)

-- a file that passes the checks is the file of the pattern that it holds
pub written_of_read : (s : List ℕ) → ((k : ℕ) → get_or s k 0 < 256) → file_faults s ≡ [] → file_bytes (file_content s) ≡ s
written_of_read s bytes ok = file_right s bytes ok

-- storage holds the pattern that it was made from
pub content_of_stored : (c : Content) → content (stored c) ≡ c
content_of_stored c = λ i. record {
  points = take-append_seam c.points (replicate (2048 - length c.points) 0) i;
  edges = take-append_seam c.edges (replicate (1024 - length c.edges) zero_edge) i;
  uses = take-append_seam c.uses (replicate (4096 - length c.uses) 0) i;
  wires = take-append_seam c.wires (replicate (1024 - length c.wires) 0) i;
  faces = take-append_seam c.faces (replicate (256 - length c.faces) zero_face) i;
  shells = take-append_seam c.shells (replicate (16 - length c.shells) 0) i;
  listings = take-append_seam c.listings (replicate (512 - length c.listings) 0) i;
}
