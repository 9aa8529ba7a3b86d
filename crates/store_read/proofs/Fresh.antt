-- A file read into a store of zeros.
use Rattle.std.specs.Prelude.{Err, Ok}
use Prim.Native.Nat.{ℕ, zero, suc, ◌+◌, ◌*◌, ◌<◌, ◌≤◌}
use mathlib.Core.List.{List, [], ◌∷◌, ◌++◌}
use mathlib.Core.Path.{◌≡◌, ◌∙◌, ap, refl, sym}
use native.Mathlib.Omega.{arith}
use lib.Ieee.{Float, binary64, nan, of_bits}
use lib.ListN.{get_or, get_or-replicate, length, length-replicate, replicate}
use lib.Seq.{sets, sets-eq}
use Rattle.edge.specs.Edges.{edge}
use Rattle.errors.proofs.Laws.{accepted_none, refused_first}
use Rattle.errors.specs.Faults.{first}
use Rattle.errors.specs.declared.Refusal.{Refusal}
use Rattle.pattern_table.proofs.Laws.{counts_of_content, table_counts}
use Rattle.lists.proofs.Flat.{tabulate_ext}
use Rattle.lists.proofs.Laws.{drop_replicate}
use Rattle.lists.specs.Lists.{padded, tabulate}
use Rattle.pattern.proofs.Counts.{Limited, limited}
use Rattle.pattern.specs.Checks.{content_faults, count_faults, pattern_faults}
use Rattle.pattern.specs.Contents.{Content, Pattern, counts_of, stored, stored_in, zero_edge, zero_face}
use Rattle.pattern_file.specs.File.{file_content, file_faults, table_faults}
use Rattle.store.proofs.Parts.{part_tabulated}
use Rattle.store.proofs.View.{held_full}
use Rattle.store.specs.Store.{edge_in, face_in, held, label_in, part}
use Rattle.store_read.proofs.Laws.{loaded_all, loaded_faults}
use Rattle.store_read.specs.Loading.{check_of, loaded, pattern_of}

tabulate_same {ℓ} : {A : Type ℓ} (n : ℕ) (d : A) → tabulate n (λ (k : ℕ). d) ≡ replicate n d
unfolding tabulate
tabulate_same zero d = refl
tabulate_same {A = A} (suc n) d = ap (λ (r : List A). d ∷ r) (tabulate_same n d)

sets_padded {ℓ} : {A : Type ℓ} (m : ℕ) (d : A) (l xs : List A) → l ≡ replicate m d → length xs ≤ m → sets l 0 xs ≡ padded m d xs
sets_padded {A = A} m d l xs e h =
    let z : 0 + length xs ≡ length xs = omega arith in
    rw e (sets-eq xs (replicate m d) 0 (omega (arith, length-replicate m d)) ∙ rw z (ap (λ (r : List A). xs ++ r) (drop_replicate (length xs) m d)))

abbrev T₀ : List ℕ
T₀ = replicate 12312 0

abbrev S₀ : List Float
S₀ = replicate 2048 (of_bits binary64 0)

-- the pattern of a store of zeros
abbrev pub blank : Pattern
blank = held T₀ S₀

zero_at : (i : ℕ) → i < 12312 → get_or T₀ i 0 ≡ 0
zero_at i h = get_or-replicate {A = ℕ} 12312 i 0 0 h

zero_span : (i : ℕ) → i < 2048 → get_or S₀ i nan ≡ of_bits binary64 0
zero_span i h = get_or-replicate {A = Float} 2048 i (of_bits binary64 0) nan h

zero_part : (a n : ℕ) → a + n ≤ 12312 → part a n T₀ ≡ replicate n 0
zero_part a n h =
    sym (part_tabulated T₀ a n (omega (arith, length-replicate {A = ℕ} 12312 0)))
    ∙ tabulate_ext n (λ (k : ℕ). get_or T₀ (a + k) 0) (λ (k : ℕ). 0) (λ k l. zero_at (a + k) (omega arith)) ∙ tabulate_same n 0

zero_labels : tabulate 2048 (label_in T₀) ≡ replicate 2048 0
zero_labels =
    tabulate_ext 2048 (label_in T₀) (λ (k : ℕ). 0)
    (λ k h. let low = zero_at (8216 + 2 * k) (omega arith) in let high = zero_at (8217 + 2 * k) (omega arith) in rw (low, high))
    ∙ tabulate_same 2048 0

zero_edges : tabulate 1024 (edge_in T₀ S₀) ≡ replicate 1024 zero_edge
zero_edges =
    tabulate_ext 1024 (edge_in T₀ S₀) (λ (k : ℕ). zero_edge)
    (λ k h. let f = zero_at (8 + k) (omega arith) in let b = zero_at (1032 + k) (omega arith) in let a = zero_span (2 * k) (omega arith) in let z = zero_span (2 * k + 1) (omega arith) in λ i. edge (record { 0 = f i }) (record { 0 = b i }) (record { t0 = a i; t1 = z i }))
    ∙ tabulate_same 1024 zero_edge

zero_faces : tabulate 256 (face_in T₀) ≡ replicate 256 zero_face
zero_faces =
    tabulate_ext 256 (face_in T₀) (λ (k : ℕ). zero_face)
    (λ k h. let w = zero_at (7176 + k) (omega arith) in let s = zero_at (7432 + k) (omega arith) in λ i. record { wires = w i; surface = s i })
    ∙ tabulate_same 256 zero_face

stored_blank : (c : Content) → Limited (counts_of c) → stored_in blank c ≡ stored c
stored_blank c l = λ i. record {
  counts = counts_of c;
  points = sets_padded 2048 0 (tabulate 2048 (label_in T₀)) c.points zero_labels l.points i;
  edges = sets_padded 1024 zero_edge (tabulate 1024 (edge_in T₀ S₀)) c.edges zero_edges l.edges i;
  uses = sets_padded 4096 0 (part 2056 4096 T₀) c.uses (zero_part 2056 4096 (omega arith)) l.uses i;
  wires = sets_padded 1024 0 (part 6152 1024 T₀) c.wires (zero_part 6152 1024 (omega arith)) l.wires i;
  faces = sets_padded 256 zero_face (tabulate 256 (face_in T₀)) c.faces zero_faces l.faces i;
  shells = sets_padded 16 0 (part 7688 16 T₀) c.shells (zero_part 7688 16 (omega arith)) l.shells i;
  listings = sets_padded 512 0 (part 7704 512 T₀) c.listings (zero_part 7704 512 (omega arith)) l.listings i;
}

-- a file whose table is wrong is refused
pub table_refused : (s : List ℕ) (f : Refusal) → first (table_faults s) ≡ Err f → check_of s ≡ Err f
table_refused s f h = refused_first (table_faults s) (content_faults (file_content s)) f h

-- after a file whose table is right, the store of zeros holds its pattern, whose checks are those of the file
module _ (s : List ℕ) (q : Pattern) (done : q ≡ loaded blank s) (right : first (table_faults s) ≡ Ok tt) where
  none : table_faults s ≡ []
  none = accepted_none (table_faults s) right

  few : count_faults (counts_of (file_content s)) ≡ []
  few = ap count_faults (sym (counts_of_content s)) ∙ table_counts s none

  pub fresh_pattern : q ≡ pattern_of s
  fresh_pattern = done ∙ sym (loaded_all (table_faults s) blank (file_content s) none) ∙ stored_blank (file_content s) (limited (counts_of (file_content s)) refl few)

  pub fresh_faults : pattern_faults (pattern_of s) ≡ file_faults s
  fresh_faults = ap pattern_faults (sym fresh_pattern) ∙ loaded_faults s blank q (held_full T₀ S₀ (length-replicate {A = ℕ} 12312 0)) done right
