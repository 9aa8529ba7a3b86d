-- Reading what was written: the bodies of a file, one after another.
use Prim.Native.Nat.{◌*◌, ◌+◌, ◌<◌, suc, ℕ}
use mathlib.Core.List.{List, [], ◌++◌, append_assoc, append-nil, map}
use mathlib.Core.Path.{◌∙◌, ◌≡◌, ap, refl, sym}
use native.Mathlib.Nat.{zero-add}
use native.Mathlib.Omega.{arith}
use lib.ListN.{drop, get_or, length, length-append}
use lib.Seq.{drop_at}
use Rattle.lists.proofs.Flat.{after, get_d_tabulate, length_flat, record_at, tabulate_of}
use Rattle.lists.proofs.Laws.{length_tabulate, map_tabulate}
use Rattle.lists.specs.Lists.{flat, tabulate}
use Rattle.pattern.specs.Checks.{count_faults}
use Rattle.pattern.specs.Contents.{Content, counts_of, layout, zero_edge, zero_face}
use Rattle.pattern_file.proofs.Fits.{Fits}
use Rattle.pattern_file.proofs.Places.{count_small, start_first, start_next, start_small}
use Rattle.pattern_file.proofs.Records.{body_of, edge_of, entry_of, entry_at, entry_bytes, face_of_lem}
use Rattle.pattern_file.specs.File.{count_at, edge_at, edge_bytes, face_at, face_bytes, file_bytes, file_content, file_counts, offset_at, records, start_of, table_bytes}
use Rattle.words.proofs.Laws.{le16_of, le32_of}
use Rattle.words.specs.Words.{bytes16, bytes32, le16, le32}

-- ---- the contents table

table_length : (ns : List ℕ) → length (table_bytes ns) ≡ 56
unfolding flat tabulate
table_length ns = refl

entry_back : (s ns rest : List ℕ) → s ≡ table_bytes ns ++ rest → (b : ℕ) → b < 7 → start_of ns b < 4294967296 → get_or ns b 0 < 4294967296
    → entry_at s (8 * b) ≡ (start_of ns b, get_or ns b 0)
entry_back s ns rest e b h starts counts =
    let entry : ℕ → ℕ × ℕ = λ (k : ℕ). (start_of ns k, get_or ns k 0) in
    let p : drop 0 s ≡ flat (map entry_bytes (tabulate 7 entry)) ++ rest =
    e ∙ ap (λ (es : List (List ℕ)). flat es ++ rest) (sym (map_tabulate entry_bytes 7 entry)) in
    let place = record_at entry_bytes 8 (λ x. refl) s 0 (tabulate 7 entry) rest (0, 0) p b (rw (length_tabulate 7 entry) h) in
    entry_of s (8 * b) (entry b) (flat (map entry_bytes (drop (suc b) (tabulate 7 entry))) ++ rest) starts counts
    (rw (zero-add (8 * b), get_d_tabulate 7 entry b (0, 0) h) at place)

-- ---- the bodies

module _ (s ns : List ℕ) where
  -- r is the file from body b on
  record Left (b : ℕ) (r : List ℕ) : Type 0 where
    from : drop (start_of ns b) s ≡ r
    all : start_of ns b + length r ≡ length s

  module _ {A : Type 0} (write : A → List ℕ) (b : ℕ) (sized : (x : A) → length (write x) ≡ get_or layout.sizes b 0) (xs : List A)
      (count : get_or ns b 0 ≡ length xs) (r : List ℕ) (left : Left b (flat (map write xs) ++ r)) where
    left_next : Left (suc b) r
    left_next =
        let size = get_or layout.sizes b 0 in
        let part = flat (map write xs) in
        let l : size * get_or ns b 0 ≡ length part = rw count (sym (length_flat write size sized xs)) in
        record {
          from = rw (start_next ns b, l) (after s (start_of ns b) part r left.from);
          all = omega (arith, start_next ns b, l, left.all, length-append part r);
        }

    body_back : (read : List ℕ → ℕ → A) (d : A) → file_counts s ≡ ns → count_at s b ≡ get_or ns b 0
        → ((k : ℕ) → k < length xs → (at : ℕ) (more : List ℕ) → drop at s ≡ write (get_or xs k d) ++ more → read s at ≡ get_or xs k d)
        → records read s b ≡ xs
    body_back read d counts n one =
        body_of write read (get_or layout.sizes b 0) sized s (start_of (file_counts s) b) (count_at s b) xs r d one (n ∙ count) (rw counts left.from)

-- the bodies, grouped to the right
abbrev bodies : Content → List ℕ
bodies c =
    flat (map bytes32 c.points)
    ++ (flat (map edge_bytes c.edges)
    ++ (flat (map bytes16 c.uses)
    ++ (flat (map bytes16 c.wires)
    ++ (flat (map face_bytes c.faces) ++ (flat (map bytes16 c.shells) ++ (flat (map bytes16 c.listings) ++ []))))))

whole : (c : Content) → file_bytes c ≡ table_bytes (counts_of c) ++ bodies c
whole c = simp (append_assoc, append-nil)

module _ (c : Content) (few : count_faults (counts_of c) ≡ []) where
  entry : (b : ℕ) → b < 7 → entry_at (file_bytes c) (8 * b) ≡ (start_of (counts_of c) b, get_or (counts_of c) b 0)
  entry b h =
      entry_back (file_bytes c) (counts_of c) (bodies c) (whole c) b h (start_small (counts_of c) few refl b h) (count_small (counts_of c) few b h)

  pub offset_back : (b : ℕ) → b < 7 → offset_at (file_bytes c) b ≡ start_of (counts_of c) b
  offset_back b h = ap (λ (e : ℕ × ℕ). e.0) (entry b h)

  count_back : (b : ℕ) → b < 7 → count_at (file_bytes c) b ≡ get_or (counts_of c) b 0
  count_back b h = ap (λ (e : ℕ × ℕ). e.1) (entry b h)

  pub counts_back : file_counts (file_bytes c) ≡ counts_of c
  counts_back = tabulate_of (counts_of c) 0 (count_at (file_bytes c)) count_back

  left_first : Left (file_bytes c) (counts_of c) 0 (bodies c)
  left_first =
      let ns = counts_of c in
      let l = table_length ns in
      record {
        from = rw (start_first ns, whole c) (drop_at (table_bytes ns) (bodies c) 56 l);
        all = rw (whole c) (omega (arith, start_first ns, length-append (table_bytes ns) (bodies c), l));
      }

  -- the file ends where the last body ends, and its content is the pattern's
  pub content_back : Fits c → (length (file_bytes c) ≡ start_of (counts_of c) 7) × (file_content (file_bytes c) ≡ c)
  content_back fit =
      let s = file_bytes c in
      let ns = counts_of c in
      let l0 = left_first in
      let l1 = left_next s ns bytes32 0 (λ x. refl) c.points refl _ l0 in
      let l2 = left_next s ns edge_bytes 1 (λ x. refl) c.edges refl _ l1 in
      let l3 = left_next s ns bytes16 2 (λ x. refl) c.uses refl _ l2 in
      let l4 = left_next s ns bytes16 3 (λ x. refl) c.wires refl _ l3 in
      let l5 = left_next s ns face_bytes 4 (λ x. refl) c.faces refl _ l4 in
      let l6 = left_next s ns bytes16 5 (λ x. refl) c.shells refl _ l5 in
      let l7 = left_next s ns bytes16 6 (λ x. refl) c.listings refl _ l6 in
      let points = body_back s ns bytes32 0 (λ x. refl) c.points refl _ l0 le32 0 counts_back (count_back 0 (omega arith))
      (λ k h at more e. le32_of s at (get_or c.points k 0) more (fit.points k h) e) in
      let edges = body_back s ns edge_bytes 1 (λ x. refl) c.edges refl _ l1 edge_at zero_edge counts_back (count_back 1 (omega arith))
      (λ k h at more e. edge_of s at (get_or c.edges k zero_edge) more (fit.edges k h) e) in
      let uses = body_back s ns bytes16 2 (λ x. refl) c.uses refl _ l2 le16 0 counts_back (count_back 2 (omega arith))
      (λ k h at more e. le16_of s at (get_or c.uses k 0) more (fit.uses k h) e) in
      let wires = body_back s ns bytes16 3 (λ x. refl) c.wires refl _ l3 le16 0 counts_back (count_back 3 (omega arith))
      (λ k h at more e. le16_of s at (get_or c.wires k 0) more (fit.wires k h) e) in
      let faces = body_back s ns face_bytes 4 (λ x. refl) c.faces refl _ l4 face_at zero_face counts_back (count_back 4 (omega arith))
      (λ k h at more e. face_of_lem s at (get_or c.faces k zero_face) more (fit.faces k h) e) in
      let shells = body_back s ns bytes16 5 (λ x. refl) c.shells refl _ l5 le16 0 counts_back (count_back 5 (omega arith))
      (λ k h at more e. le16_of s at (get_or c.shells k 0) more (fit.shells k h) e) in
      let listings = body_back s ns bytes16 6 (λ x. refl) c.listings refl _ l6 le16 0 counts_back (count_back 6 (omega arith))
      (λ k h at more e. le16_of s at (get_or c.listings k 0) more (fit.listings k h) e) in (
        omega (arith, l7.all),
        λ i. record { points = points i; edges = edges i; uses = uses i; wires = wires i; faces = faces i; shells = shells i; listings = listings i },
      )
