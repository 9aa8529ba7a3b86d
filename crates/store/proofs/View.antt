-- The store seen as the pattern that it holds: its tables as columns, and what a store changes.
use Prim.Native.Nat.{ℕ, ◌+◌, ◌*◌, ◌/◌, ◌%◌, ◌<◌, ◌≤◌}
use mathlib.Core.Bool.{true, false}
use mathlib.Core.List.{List, [], ◌∷◌, map}
use mathlib.Core.Logic.{◌≢◌, ⊎_elim}
use mathlib.Core.Path.{◌≡◌, ◌∙◌, ap, refl, sym}
use native.Mathlib.Omega.{arith}
use lib.Dec.{eqb}
use lib.Ieee.{Float, nan}
use lib.ListN.{get_or, length, length-set, set}
use lib.Seq.{ext_get_or, get_or-set_other, get_or-set_same, sets, take-set-lt}
use borrow.Author.Tests.{eqb-false, eqb-true}
use Rattle.edge.proofs.Laws.{no_edge}
use Rattle.edge.specs.Edges.{back_number, front_number}
use Rattle.edge.specs.declared.Edge.{Edge}
use Rattle.face.specs.Faces.{wire_count}
use Rattle.face.specs.declared.Face.{Face}
use Rattle.lists.proofs.Flat.{get_d_tabulate, tabulate_ext}
use Rattle.lists.proofs.Laws.{cases, length_tabulate, map_tabulate}
use Rattle.lists.specs.Lists.{tabulate}
use Rattle.pattern.proofs.Counts.{Full}
use Rattle.store.proofs.Parts.{Apart, apart_then, number_kept, numbers_apart, outside, part_kept, part_long, part_own, part_tabulated}
use Rattle.store.specs.Store.{count_table, edge_in, face_in, held, label_in}
use Rattle.pattern.specs.Contents.{Pattern}
use Rattle.store.specs.Columns.{back_table, face_table, front_table, with_counts, with_edges, with_faces, with_listings, with_points, with_shells, with_uses, with_wires}

-- one element of a tabulated list changed
pub tabulate_set {ℓ} : {A : Type ℓ} (d : A) (n : ℕ) (f g : ℕ → A) (k : ℕ) (x : A) → k < n → g k ≡ x → ((i : ℕ) → i < n → i ≢ k → g i ≡ f i)
    → tabulate n g ≡ set (tabulate n f) k x
tabulate_set d n f g k x h own other =
    let l = length_tabulate n g in
    let m = length_tabulate n f in
    let o = length-set (tabulate n f) k x in
    ext_get_or d (tabulate n g) (set (tabulate n f) k x) (l ∙ sym (o ∙ m))
    (λ i b.
    get_d_tabulate n g i d (omega (arith, l))
    ∙ ⊎_elim
    (λ (e : eqb i k ≡ true).
    let same = eqb-true i k e in
    rw same (own ∙ sym (get_or-set_same (tabulate n f) k x d (omega (arith, m)))))
    (λ (e : eqb i k ≡ false).
    let ne : i ≢ k = eqb-false i k e in
    other i (omega (arith, l)) ne ∙ sym (get_d_tabulate n f i d (omega (arith, l))) ∙ sym (get_or-set_other (tabulate n f) k i x d ne))
    (cases (eqb i k)))

-- ---- what stays where other places change

module _ {lo hi : ℕ} {t t' : List ℕ} (s : Apart lo hi t t') where
  labels_kept : outside lo hi 8216 4096 ≡ true → tabulate 2048 (label_in t') ≡ tabulate 2048 (label_in t)
  labels_kept h = tabulate_ext 2048 (label_in t') (label_in t)
      (λ k b.
      let low = number_kept s 8216 4096 (2 * k) h (omega arith) in
      let e : 8216 + (1 + 2 * k) ≡ 8217 + 2 * k = omega arith in
      let high = rw e at (number_kept s 8216 4096 (1 + 2 * k) h (omega arith)) in
      rw (low, high))

  edges_kept : (spans : List Float) → outside lo hi 8 2048 ≡ true → tabulate 1024 (edge_in t' spans) ≡ tabulate 1024 (edge_in t spans)
  edges_kept spans h = tabulate_ext 1024 (edge_in t' spans) (edge_in t spans)
      (λ k b.
      let front = number_kept s 8 2048 k h (omega arith) in
      let e : 8 + (1024 + k) ≡ 1032 + k = omega arith in
      let back = rw e at (number_kept s 8 2048 (1024 + k) h (omega arith)) in
      rw (front, back))

  faces_kept : outside lo hi 7176 512 ≡ true → tabulate 256 (face_in t') ≡ tabulate 256 (face_in t)
  faces_kept h = tabulate_ext 256 (face_in t') (face_in t)
      (λ k b.
      let wires = number_kept s 7176 512 k h (omega arith) in
      let e : 7176 + (256 + k) ≡ 7432 + k = omega arith in
      let surface = rw e at (number_kept s 7176 512 (256 + k) h (omega arith)) in
      rw (wires, surface))

module _ (t : List ℕ) (spans : List Float) (long : length t ≡ 12312) where
  abbrev P : Pattern
  P = held t spans

  -- ---- the columns

  pub held_fronts : front_table t ≡ map front_number P.edges
  held_fronts = sym (map_tabulate front_number 1024 (edge_in t spans) ∙ part_tabulated t 8 1024 (omega arith))

  pub held_backs : back_table t ≡ map back_number P.edges
  held_backs = sym (map_tabulate back_number 1024 (edge_in t spans) ∙ part_tabulated t 1032 1024 (omega arith))

  pub held_wire_counts : face_table t ≡ map wire_count P.faces
  held_wire_counts = sym (map_tabulate wire_count 256 (face_in t) ∙ part_tabulated t 7176 256 (omega arith))

  pub held_seven : length P.counts ≡ 7
  held_seven = part_long t 0 7 (omega arith)

  pub held_full : Full P
  held_full = record {
    points = length_tabulate 2048 (label_in t);
    edges = length_tabulate 1024 (edge_in t spans);
    uses = part_long t 2056 4096 (omega arith);
    wires = part_long t 6152 1024 (omega arith);
    faces = length_tabulate 256 (face_in t);
    shells = part_long t 7688 16 (omega arith);
    listings = part_long t 7704 512 (omega arith);
  }

  -- ---- numbers stored in one table

  pub held_count : (b n : ℕ) → b < 7 → held (set t b n) spans ≡ with_counts P (set P.counts b n)
  held_count b n h =
      let s = numbers_apart 0 8 b t (n ∷ []) long (omega arith) (omega arith) in
      λ i. record {
        counts = take-set-lt 7 t b n h i;
        points = labels_kept s refl i;
        edges = edges_kept s spans refl i;
        uses = part_kept s 2056 4096 refl refl i;
        wires = part_kept s 6152 1024 refl refl i;
        faces = faces_kept s refl i;
        shells = part_kept s 7688 16 refl refl i;
        listings = part_kept s 7704 512 refl refl i;
      }

  module _ (k : ℕ) (xs : List ℕ) where
    pub held_uses : k + length xs ≤ 4096 → held (sets t (2056 + k) xs) spans ≡ with_uses P (sets P.uses k xs)
    held_uses few =
        let s = numbers_apart 2056 6152 (2056 + k) t xs long (omega arith) (omega arith) in
        λ i. record {
          counts = part_kept s 0 7 refl refl i;
          points = labels_kept s refl i;
          edges = edges_kept s spans refl i;
          uses = part_own t xs 2056 4096 k (omega arith) few i;
          wires = part_kept s 6152 1024 refl refl i;
          faces = faces_kept s refl i;
          shells = part_kept s 7688 16 refl refl i;
          listings = part_kept s 7704 512 refl refl i;
        }

    pub held_wires : k + length xs ≤ 1024 → held (sets t (6152 + k) xs) spans ≡ with_wires P (sets P.wires k xs)
    held_wires few =
        let s = numbers_apart 6152 7176 (6152 + k) t xs long (omega arith) (omega arith) in
        λ i. record {
          counts = part_kept s 0 7 refl refl i;
          points = labels_kept s refl i;
          edges = edges_kept s spans refl i;
          uses = part_kept s 2056 4096 refl refl i;
          wires = part_own t xs 6152 1024 k (omega arith) few i;
          faces = faces_kept s refl i;
          shells = part_kept s 7688 16 refl refl i;
          listings = part_kept s 7704 512 refl refl i;
        }

    pub held_shells : k + length xs ≤ 16 → held (sets t (7688 + k) xs) spans ≡ with_shells P (sets P.shells k xs)
    held_shells few =
        let s = numbers_apart 7688 7704 (7688 + k) t xs long (omega arith) (omega arith) in
        λ i. record {
          counts = part_kept s 0 7 refl refl i;
          points = labels_kept s refl i;
          edges = edges_kept s spans refl i;
          uses = part_kept s 2056 4096 refl refl i;
          wires = part_kept s 6152 1024 refl refl i;
          faces = faces_kept s refl i;
          shells = part_own t xs 7688 16 k (omega arith) few i;
          listings = part_kept s 7704 512 refl refl i;
        }

    pub held_listings : k + length xs ≤ 512 → held (sets t (7704 + k) xs) spans ≡ with_listings P (sets P.listings k xs)
    held_listings few =
        let s = numbers_apart 7704 8216 (7704 + k) t xs long (omega arith) (omega arith) in
        λ i. record {
          counts = part_kept s 0 7 refl refl i;
          points = labels_kept s refl i;
          edges = edges_kept s spans refl i;
          uses = part_kept s 2056 4096 refl refl i;
          wires = part_kept s 6152 1024 refl refl i;
          faces = faces_kept s refl i;
          shells = part_kept s 7688 16 refl refl i;
          listings = part_own t xs 7704 512 k (omega arith) few i;
        }

-- the same of the list that a loop has left
module _ (t t' : List ℕ) (spans : List Float) (long : length t ≡ 12312) (k : ℕ) (xs : List ℕ) where
  pub stored_uses : t' ≡ sets t (2056 + k) xs → k + length xs ≤ 4096 → held t' spans ≡ with_uses (held t spans) (sets (held t spans).uses k xs)
  stored_uses e few = ap (λ (l : List ℕ). held l spans) e ∙ held_uses t spans long k xs few

  pub stored_wires : t' ≡ sets t (6152 + k) xs → k + length xs ≤ 1024 → held t' spans ≡ with_wires (held t spans) (sets (held t spans).wires k xs)
  stored_wires e few = ap (λ (l : List ℕ). held l spans) e ∙ held_wires t spans long k xs few

  pub stored_shells : t' ≡ sets t (7688 + k) xs → k + length xs ≤ 16 → held t' spans ≡ with_shells (held t spans) (sets (held t spans).shells k xs)
  stored_shells e few = ap (λ (l : List ℕ). held l spans) e ∙ held_shells t spans long k xs few

  pub stored_listings : t' ≡ sets t (7704 + k) xs → k + length xs ≤ 512 → held t' spans ≡ with_listings (held t spans) (sets (held t spans).listings k xs)
  stored_listings e few = ap (λ (l : List ℕ). held l spans) e ∙ held_listings t spans long k xs few

-- ---- a record stored in two places of the tables: a at i, b at j

module _ (t : List ℕ) (long : length t ≡ 12312) (i j a b : ℕ) (different : i ≢ j) (here : i < 12312) (there : j < 12312) where
  abbrev first : List ℕ
  first = set t i a

  abbrev both : List ℕ
  both = set first j b

  pub both_first : get_or both i 0 ≡ a
  both_first = get_or-set_other first j i b 0 different ∙ get_or-set_same t i a 0 (omega arith)

  pub both_second : get_or both j 0 ≡ b
  both_second = get_or-set_same first j b 0 (omega (arith, length-set t i a))

  pub both_other : (m : ℕ) → m ≢ i → m ≢ j → get_or both m 0 ≡ get_or t m 0
  both_other m x y = get_or-set_other first j m b 0 y ∙ get_or-set_other t i m a 0 x

  pub both_apart : (lo hi : ℕ) → lo ≤ i → i < hi → lo ≤ j → j < hi → Apart lo hi t both
  both_apart lo hi p q r s =
      apart_then lo hi t first both (numbers_apart lo hi i t (a ∷ []) long p (omega arith))
      (numbers_apart lo hi j first (b ∷ []) (length-set t i a ∙ long) r (omega arith))

-- a label
module _ (t : List ℕ) (spans : List Float) (long : length t ≡ 12312) (k : ℕ) (here : k < 2048) (label : ℕ) where
  abbrev labelled : List ℕ
  labelled = set (set t (8216 + 2 * k) (label % 65536)) (8217 + 2 * k) (label / 65536)

  apart_ends : 8216 + 2 * k ≢ 8217 + 2 * k
  apart_ends e = omega (arith, e)

  label_own : label_in labelled k ≡ label
  label_own =
      let low = both_first t long (8216 + 2 * k) (8217 + 2 * k) (label % 65536) (label / 65536) apart_ends (omega arith) (omega arith) in
      let high = both_second t long (8216 + 2 * k) (8217 + 2 * k) (label % 65536) (label / 65536) apart_ends (omega arith) (omega arith) in
      rw (low, high) (omega arith)

  label_kept : (m : ℕ) → m ≢ 8216 + 2 * k → m ≢ 8217 + 2 * k → get_or labelled m 0 ≡ get_or t m 0
  label_kept = both_other t long (8216 + 2 * k) (8217 + 2 * k) (label % 65536) (label / 65536) apart_ends (omega arith) (omega arith)

  label_other : (i : ℕ) → i < 2048 → i ≢ k → label_in labelled i ≡ label_in t i
  label_other i h ne =
      let low = label_kept (8216 + 2 * i) (λ e. ne (omega (arith, e))) (λ e. omega (arith, e)) in
      let high = label_kept (8217 + 2 * i) (λ e. omega (arith, e)) (λ e. ne (omega (arith, e))) in
      rw (low, high)

  pub held_label : held labelled spans ≡ with_points (held t spans) (set (held t spans).points k label)
  held_label =
      let s = both_apart t long (8216 + 2 * k) (8217 + 2 * k) (label % 65536) (label / 65536) apart_ends (omega arith) (omega arith) 8216 12312 (omega arith) (omega arith) (omega arith) (omega arith) in
      λ i. record {
        counts = part_kept s 0 7 refl refl i;
        points = tabulate_set 0 2048 (label_in t) (label_in labelled) k label here label_own label_other i;
        edges = edges_kept s spans refl i;
        uses = part_kept s 2056 4096 refl refl i;
        wires = part_kept s 6152 1024 refl refl i;
        faces = faces_kept s refl i;
        shells = part_kept s 7688 16 refl refl i;
        listings = part_kept s 7704 512 refl refl i;
      }

-- an edge
module _ (t : List ℕ) (spans : List Float) (long : length t ≡ 12312) (room : length spans ≡ 2048) (k : ℕ) (here : k < 1024) (d : Edge) where
  abbrev ended : List ℕ
  ended = set (set t (8 + k) d.front.0) (1032 + k) d.back.0

  abbrev begun : List Float
  begun = set spans (2 * k) d.curve.t0

  abbrev spanned : List Float
  spanned = set begun (2 * k + 1) d.curve.t1

  edge_ends : 8 + k ≢ 1032 + k
  edge_ends e = omega (arith, e)

  edge_own : edge_in ended spanned k ≡ d
  edge_own =
      let f = both_first t long (8 + k) (1032 + k) d.front.0 d.back.0 edge_ends (omega arith) (omega arith) in
      let b = both_second t long (8 + k) (1032 + k) d.front.0 d.back.0 edge_ends (omega arith) (omega arith) in
      let a : get_or spanned (2 * k) nan ≡ d.curve.t0 = get_or-set_other begun (2 * k + 1) (2 * k) d.curve.t1 nan (λ e. omega (arith, e)) ∙ get_or-set_same spans (2 * k) d.curve.t0 nan (omega arith) in
      let z : get_or spanned (2 * k + 1) nan ≡ d.curve.t1 = get_or-set_same begun (2 * k + 1) d.curve.t1 nan (omega (arith, length-set spans (2 * k) d.curve.t0)) in
      rw (f, b, a, z)

  edge_kept : (m : ℕ) → m ≢ 8 + k → m ≢ 1032 + k → get_or ended m 0 ≡ get_or t m 0
  edge_kept = both_other t long (8 + k) (1032 + k) d.front.0 d.back.0 edge_ends (omega arith) (omega arith)

  edge_other : (i : ℕ) → i < 1024 → i ≢ k → edge_in ended spanned i ≡ edge_in t spans i
  edge_other i h ne =
      let f = edge_kept (8 + i) (λ e. ne (omega (arith, e))) (λ e. omega (arith, e)) in
      let b = edge_kept (1032 + i) (λ e. omega (arith, e)) (λ e. ne (omega (arith, e))) in
      let a : get_or spanned (2 * i) nan ≡ get_or spans (2 * i) nan = get_or-set_other begun (2 * k + 1) (2 * i) d.curve.t1 nan (λ e. omega (arith, e)) ∙ get_or-set_other spans (2 * k) (2 * i) d.curve.t0 nan (λ e. ne (omega (arith, e))) in
      let z : get_or spanned (2 * i + 1) nan ≡ get_or spans (2 * i + 1) nan = get_or-set_other begun (2 * k + 1) (2 * i + 1) d.curve.t1 nan (λ e. ne (omega (arith, e))) ∙ get_or-set_other spans (2 * k) (2 * i + 1) d.curve.t0 nan (λ e. omega (arith, e)) in
      rw (f, b, a, z)

  pub held_edge : held ended spanned ≡ with_edges (held t spans) (set (held t spans).edges k d)
  held_edge =
      let s = both_apart t long (8 + k) (1032 + k) d.front.0 d.back.0 edge_ends (omega arith) (omega arith) 8 2056 (omega arith) (omega arith) (omega arith) (omega arith) in
      λ i. record {
        counts = part_kept s 0 7 refl refl i;
        points = labels_kept s refl i;
        edges = tabulate_set no_edge 1024 (edge_in t spans) (edge_in ended spanned) k d here edge_own edge_other i;
        uses = part_kept s 2056 4096 refl refl i;
        wires = part_kept s 6152 1024 refl refl i;
        faces = faces_kept s refl i;
        shells = part_kept s 7688 16 refl refl i;
        listings = part_kept s 7704 512 refl refl i;
      }

-- a face
module _ (t : List ℕ) (spans : List Float) (long : length t ≡ 12312) (k : ℕ) (here : k < 256) (f : Face) where
  abbrev faced : List ℕ
  faced = set (set t (7176 + k) f.wires) (7432 + k) f.surface

  face_ends : 7176 + k ≢ 7432 + k
  face_ends e = omega (arith, e)

  face_own : face_in faced k ≡ f
  face_own =
      let w = both_first t long (7176 + k) (7432 + k) f.wires f.surface face_ends (omega arith) (omega arith) in
      let s = both_second t long (7176 + k) (7432 + k) f.wires f.surface face_ends (omega arith) (omega arith) in
      rw (w, s)

  face_kept : (m : ℕ) → m ≢ 7176 + k → m ≢ 7432 + k → get_or faced m 0 ≡ get_or t m 0
  face_kept = both_other t long (7176 + k) (7432 + k) f.wires f.surface face_ends (omega arith) (omega arith)

  face_other : (i : ℕ) → i < 256 → i ≢ k → face_in faced i ≡ face_in t i
  face_other i h ne =
      let w = face_kept (7176 + i) (λ e. ne (omega (arith, e))) (λ e. omega (arith, e)) in
      let s = face_kept (7432 + i) (λ e. omega (arith, e)) (λ e. ne (omega (arith, e))) in
      rw (w, s)

  pub held_face : held faced spans ≡ with_faces (held t spans) (set (held t spans).faces k f)
  held_face =
      let s = both_apart t long (7176 + k) (7432 + k) f.wires f.surface face_ends (omega arith) (omega arith) 7176 7688 (omega arith) (omega arith) (omega arith) (omega arith) in
      λ i. record {
        counts = part_kept s 0 7 refl refl i;
        points = labels_kept s refl i;
        edges = edges_kept s spans refl i;
        uses = part_kept s 2056 4096 refl refl i;
        wires = part_kept s 6152 1024 refl refl i;
        faces = tabulate_set (record { wires = 0; surface = 0 }) 256 (face_in t) (face_in faced) k f here face_own face_other i;
        shells = part_kept s 7688 16 refl refl i;
        listings = part_kept s 7704 512 refl refl i;
      }

pub counts_are : (t : List ℕ) → length t ≡ 12312
    → get_or t 0 0 ∷ get_or t 1 0 ∷ get_or t 2 0 ∷ get_or t 3 0 ∷ get_or t 4 0 ∷ get_or t 5 0 ∷ get_or t 6 0 ∷ [] ≡ count_table t
unfolding tabulate
counts_are t h = part_tabulated t 0 7 (omega arith)
