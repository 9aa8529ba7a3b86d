-- Writing what was read from a file that passes the checks: each part is the run of bytes that it was read from.
use Prim.Native.Nat.{◌*◌, ◌+◌, ◌<◌, ◌≤◌, suc, ℕ}
use mathlib.Core.Bool.{◌&&◌, not, true}
use mathlib.Core.List.{List, [], ◌++◌, ◌∷◌, map}
use mathlib.Core.Path.{◌∙◌, ◌≡◌, ap, refl, sym}
use native.Mathlib.Nat.{zero-add}
use native.Mathlib.Omega.{arith}
use lib.Dec.{eqb, ltb}
use lib.ListN.{drop, get_or, length, take}
use lib.Seq.{take-add, take_all}
use borrow.Author.Tests.{eqb-true}
use Rattle.edge.specs.Edges.{back_number, front_number, is_span}
use Rattle.edge.specs.declared.Edge.{Edge}
use Rattle.errors.specs.Faults.{each}
use Rattle.errors.specs.declared.Refusal.TheVariants.{Layout, SameVertex, Span, Unnamed}
use Rattle.lists.proofs.Flat.{flat_runs, get_d_tabulate}
use Rattle.lists.proofs.Laws.{length_tabulate}
use Rattle.lists.specs.Lists.{flat, tabulate, unless}
use Rattle.pattern.proofs.Passed.{content_passed, records_passed}
use Rattle.pattern.specs.Checks.{content_faults, count_faults, edge_faults}
use Rattle.pattern.specs.Contents.{Content, counts_of, layout, zero_edge}
use Rattle.errors.proofs.Laws.{each_record, none_left, none_right, unless_passes}
use Rattle.pattern_file.proofs.Places.{offset_fault, start_first, start_le, start_next}
use Rattle.pattern_file.proofs.Records.{body_bytes, edge_bytes_lem, entry_bytes_lem, face_bytes_lem}
use Rattle.pattern_file.specs.File.{count_at, edge_at, edge_bytes, face_at, face_bytes, file_bytes, file_content, file_counts, file_faults, length_faults, offset_at, offset_faults, records, start_of, table_bytes}
use Rattle.words.proofs.Laws.{Bytes, bytes16_of, bytes32_of}
use Rattle.words.specs.Words.{bytes16, bytes32, le16, le32}

-- a run of bytes after the first bytes
run_next : (s : List ℕ) (at next size n : ℕ) (p q : List ℕ) → next ≡ at + size * n → p ≡ take at s → q ≡ take (size * n) (drop at s)
    → p ++ q ≡ take next s
run_next s at next size n p q e f g = rw (e, f, g, take-add at (size * n) s)

-- every edge of a pattern that passes has a span
pub span : (c : Content) → content_faults c ≡ [] → (k : ℕ) → k < length c.edges → is_span (get_or c.edges k zero_edge).curve ≡ true
span c ok k h =
    let e = get_or c.edges k zero_edge in
    let n = length c.points in
    let all = (records_passed c (content_passed c ok).records).edges in
    unless_passes (is_span e.curve) (Span (0 + k))
    (none_right
    (unless (ltb (front_number e) n && ltb (back_number e) n) (Unnamed 1 (0 + k)) ++ unless (not (eqb (front_number e) (back_number e))) (SameVertex (0 + k)))
    (unless (is_span e.curve) (Span (0 + k)))
    (each_record (edge_faults n) zero_edge 0 c.edges all k h))

-- ---- what the checks of a file say

module _ (s : List ℕ) (ok : file_faults s ≡ []) where
  offsets_pass : offset_faults s ≡ []
  offsets_pass = none_right (length_faults s ++ count_faults (file_counts s)) (offset_faults s) (none_left _ (content_faults (file_content s)) ok)

  file_end : length s ≡ start_of (file_counts s) 7
  file_end =
      let end = start_of (file_counts s) 7 in
      eqb-true (length s) end
      (unless_passes (eqb (length s) end) (Layout 6)
      (none_right (each (offset_fault (file_counts s)) 0 (tabulate 7 (offset_at s))) (unless (eqb (length s) end) (Layout 6)) offsets_pass))

  offset_right : (b : ℕ) → b < 7 → offset_at s b ≡ start_of (file_counts s) b
  offset_right b h =
      let fault = offset_fault (file_counts s) in
      let one : fault (0 + b) (get_or (tabulate 7 (offset_at s)) b 0) ≡ [] =
      each_record fault 0 0 (tabulate 7 (offset_at s)) (none_left _ _ offsets_pass) b (rw (length_tabulate 7 (offset_at s)) h) in
      eqb-true (offset_at s b) (start_of (file_counts s) b)
      (unless_passes (eqb (offset_at s b) (start_of (file_counts s) b)) (Layout b) (rw (zero-add b, get_d_tabulate 7 (offset_at s) b 0 h) at one))

  span_right : (k : ℕ) → k < count_at s 1 → is_span (edge_at s (start_of (file_counts s) 1 + 20 * k)).curve ≡ true
  span_right k h =
      let n = count_at s 1 in
      let f : ℕ → Edge = λ (k : ℕ). edge_at s (start_of (file_counts s) 1 + 20 * k) in
      let last = none_right (length_faults s ++ count_faults (file_counts s) ++ offset_faults s) (content_faults (file_content s)) ok in
      rw (get_d_tabulate n f k zero_edge h) at (span (file_content s) last k (rw (length_tabulate n f) h))

-- ---- the counts

length_records : {A : Type 0} (read : List ℕ → ℕ → A) (s : List ℕ) (b : ℕ) → length (records read s b) ≡ count_at s b
length_records read s b = length_tabulate (count_at s b) (λ (k : ℕ). read s (start_of (file_counts s) b + get_or layout.sizes b 0 * k))

counts_right : (s : List ℕ) → counts_of (file_content s) ≡ file_counts s
unfolding tabulate
counts_right s = λ i.
    length_records le32 s 0 i
    ∷ length_records edge_at s 1 i
    ∷ length_records le16 s 2 i
    ∷ length_records le16 s 3 i
    ∷ length_records face_at s 4 i
    ∷ length_records le16 s 5 i
    ∷ length_records le16 s 6 i
    ∷ []

-- ---- the file

module _ (s : List ℕ) (bytes : Bytes s) (ok : file_faults s ≡ []) where
  table_right : table_bytes (counts_of (file_content s)) ≡ take (start_of (file_counts s) 0) s
  table_right =
      let ns = file_counts s in
      let one : (b : ℕ) → b < 7 → bytes32 (start_of ns b) ++ bytes32 (get_or ns b 0) ≡ take 8 (drop (0 + 8 * b) s) = λ b h.
      (λ i. bytes32 (sym (offset_right s ok b h) i) ++ bytes32 (get_d_tabulate 7 (count_at s) b 0 h i))
      ∙ rw (zero-add (8 * b)) (entry_bytes_lem s (8 * b) bytes (omega (arith, file_end s ok, start_first ns, start_le ns 0 7 (omega arith)))) in
      ap table_bytes (counts_right s)
      ∙ flat_runs s 0 8 7 (λ (b : ℕ). bytes32 (start_of ns b) ++ bytes32 (get_or ns b 0)) one
      ∙ rw (start_first ns)

  -- body b is the run of bytes from where it begins to where the next one begins
  body_right : {A : Type 0} (write : A → List ℕ) (read : List ℕ → ℕ → A) (b : ℕ) → b < 7
      → ((k : ℕ) → k < count_at s b → (at : ℕ) → at ≡ start_of (file_counts s) b + get_or layout.sizes b 0 * k → at + get_or layout.sizes b 0 ≤ length s
      → write (read s at) ≡ take (get_or layout.sizes b 0) (drop at s))
      → (p : List ℕ) → p ≡ take (start_of (file_counts s) b) s → p ++ flat (map write (records read s b)) ≡ take (start_of (file_counts s) (suc b)) s
  body_right write read b h one p e =
      let start = start_of (file_counts s) in
      let size = get_or layout.sizes b 0 in
      let n = count_at s b in
      let end : start (suc b) ≡ start b + size * n =
      start_next (file_counts s) b ∙ ap (λ (m : ℕ). start b + size * m) (get_d_tabulate 7 (count_at s) b 0 h) in
      let within : start b + size * n ≤ length s = omega (arith, end, start_le (file_counts s) (suc b) 7 h, file_end s ok) in
      run_next s (start b) (start (suc b)) size n p (flat (map write (records read s b))) end e
      (body_bytes write read size s (start b) n (λ k l m. one k l (start b + size * k) refl m) within)

  pub file_right : file_bytes (file_content s) ≡ s
  file_right =
      let p1 = body_right bytes32 le32 0 (omega arith) (λ k h at e l. bytes32_of s at bytes l) _ table_right in
      let p2 = body_right edge_bytes edge_at 1 (omega arith) (λ k h at e l. edge_bytes_lem s at bytes l (rw e (span_right s ok k h))) _ p1 in
      let p3 = body_right bytes16 le16 2 (omega arith) (λ k h at e l. bytes16_of s at bytes l) _ p2 in
      let p4 = body_right bytes16 le16 3 (omega arith) (λ k h at e l. bytes16_of s at bytes l) _ p3 in
      let p5 = body_right face_bytes face_at 4 (omega arith) (λ k h at e l. face_bytes_lem s at bytes l) _ p4 in
      let p6 = body_right bytes16 le16 5 (omega arith) (λ k h at e l. bytes16_of s at bytes l) _ p5 in
      let p7 = body_right bytes16 le16 6 (omega arith) (λ k h at e l. bytes16_of s at bytes l) _ p6 in
      p7 ∙ take_all (start_of (file_counts s) 7) s (omega (arith, file_end s ok))
