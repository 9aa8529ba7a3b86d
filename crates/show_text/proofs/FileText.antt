-- Every number of a file's content fits its record.
use Prim.Native.Nat.{◌*◌, ◌+◌, ◌<◌, ℕ}
use mathlib.Core.List.{List}
use mathlib.Core.Path.{◌≡◌}
use lib.Ieee.{binary64}
use lib.Ieee.Bits.{of_bits-fits}
use lib.ListN.{get_or, length}
use Rattle.lists.proofs.Flat.{get_d_tabulate}
use Rattle.lists.proofs.Laws.{length_tabulate}
use Rattle.pattern.specs.Contents.{Content, layout, zero_edge, zero_face}
use Rattle.pattern_file.proofs.Fits.{EdgeFits, FaceFits, Fits}
use Rattle.pattern_file.specs.File.{count_at, edge_at, face_at, file_content, file_counts, records, start_of}
use Rattle.words.proofs.Laws.{Bytes, le16_lt, le32_lt}
use Rattle.words.specs.Words.{le16, le32, le64}

-- where record k of a body with records of this many bytes begins in file s
abbrev pub place : List ℕ → ℕ → ℕ → ℕ → ℕ
place s b size k = start_of (file_counts s) b + size * k

-- record k of body b as it is read
record_read : {A : Type 0} (read : List ℕ → ℕ → A) (d : A) (s : List ℕ) (b k : ℕ) → k < count_at s b → get_or (records read s b) k d ≡ read s (place s b (get_or layout.sizes b 0) k)
record_read read d s b k h = get_d_tabulate (count_at s b) (λ (j : ℕ). read s (place s b (get_or layout.sizes b 0) j)) k d h

records_long : {A : Type 0} (read : List ℕ → ℕ → A) (s : List ℕ) (b : ℕ) → length (records read s b) ≡ count_at s b
records_long read s b = length_tabulate (count_at s b) (λ (j : ℕ). read s (place s b (get_or layout.sizes b 0) j))

-- what holds of every record that is read holds of each in the list
each_read : {A : Type 0} (P : A → Type 0) (read : List ℕ → ℕ → A) (d : A) (s : List ℕ) (b : ℕ) → ((at : ℕ) → P (read s at)) → (k : ℕ) → k < length (records read s b) → P (get_or (records read s b) k d)
each_read P read d s b all k h = rw (record_read read d s b k (rw (records_long read s b) at h)) (all (place s b (get_or layout.sizes b 0) k))

module _ (s : List ℕ) (bytes : Bytes s) where
  abbrev c : Content
  c = file_content s

  pub file_fits : Fits c
  file_fits = record {
    points = each_read (λ (n : ℕ). n < 4294967296) le32 0 s 0 (λ at. le32_lt s at bytes);
    edges =
        each_read EdgeFits edge_at zero_edge s 1
        (λ at. record { front = le16_lt s at bytes; back = le16_lt s (at + 2) bytes; t0 = of_bits-fits binary64 (le64 s (at + 4)); t1 = of_bits-fits binary64 (le64 s (at + 12)) });
    uses = short 2;
    wires = short 3;
    faces = each_read FaceFits face_at zero_face s 4 (λ at. record { wires = le16_lt s at bytes; surface = le16_lt s (at + 2) bytes });
    shells = short 5;
    listings = short 6;
  }
    where
      short : (b k : ℕ) → k < length (records le16 s b) → get_or (records le16 s b) k 0 < 65536
      short b = each_read (λ (n : ℕ). n < 65536) le16 0 s b (λ at. le16_lt s at bytes)
