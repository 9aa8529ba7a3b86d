-- The records of a file: each is read as it was written, and written as it was read.
use Prim.Native.Nat.{◌*◌, ◌+◌, ◌<◌, ◌≤◌, suc, ℕ}
use mathlib.Core.Bool.{Bool, ◌&&◌, false, not, true, true≢false}
use mathlib.Core.List.{List, ◌++◌, map}
use mathlib.Core.Path.{◌∙◌, ◌≡◌, ap, sym}
use native.Mathlib.Nat.{mul-le-mul_left, mul-suc}
use native.Mathlib.Omega.{arith}
use lib.Dec.{T}
use lib.Ieee.{Float, binary64, fin, fits, inf, is_nan, lt, nan, of_bits, to_bits}
use lib.Ieee.Bits.{of_bits-to_bits, to_bits-lt, to_bits-of_bits}
use lib.ListN.{drop, get_or, length, take}
use Rattle.edge.specs.Edges.{edge, in_range, is_span}
use Rattle.edge.specs.declared.Curve.{Curve}
use Rattle.edge.specs.declared.Edge.{Edge}
use Rattle.face.specs.declared.Face.{Face}
use Rattle.lists.proofs.Flat.{after, flat_runs, record_at, tabulate_of, take_two}
use Rattle.lists.proofs.Laws.{map_tabulate}
use Rattle.lists.specs.Lists.{flat, tabulate}
use Rattle.pattern_file.proofs.Fits.{EdgeFits, FaceFits}
use Rattle.pattern_file.specs.File.{edge_at, edge_bytes, face_at, face_bytes}
use Rattle.words.proofs.Laws.{Bytes, bytes16_of, bytes32_of, bytes64_of, le16_of, le32_of, le64_lt, le64_of}
use Rattle.words.specs.Words.{bytes16, bytes32, bytes64, le32, le64}

-- ---- ends of a span are no NaN

second : (a b : Bool) → (a && b) ≡ true → b ≡ true
second true b e = e
second false b e = cc

no_nan : (x y : Float) → lt x y ≡ true → T (not (is_nan x)) × T (not (is_nan y))
unfolding lt is_nan
no_nan nan y e = absurd (true≢false (sym e))
no_nan (inf s) nan e = absurd (true≢false (sym e))
no_nan (inf s) (inf t) e = (tt, tt)
no_nan (inf s) (fin t n d) e = (tt, tt)
no_nan (fin s m e) nan p = absurd (true≢false (sym p))
no_nan (fin s m e) (inf t) p = (tt, tt)
no_nan (fin s m e) (fin t n d) p = (tt, tt)

pub span_no_nan : (k : Curve) → is_span k ≡ true → T (not (is_nan k.t0)) × T (not (is_nan k.t1))
unfolding is_span
span_no_nan k e = no_nan k.t0 k.t1 (second (in_range k.t0 && in_range k.t1) (lt k.t0 k.t1) e)

-- ---- a float

abbrev float_bytes : Float → List ℕ
float_bytes t = bytes64 (to_bits binary64 t)

float_of : (s : List ℕ) (at : ℕ) (t : Float) (rest : List ℕ) → T (fits binary64 t) → drop at s ≡ float_bytes t ++ rest → of_bits binary64 (le64 s at) ≡ t
float_of s at t rest h e = ap (of_bits binary64) (le64_of s at (to_bits binary64 t) rest (to_bits-lt binary64 t h) e) ∙ of_bits-to_bits binary64 t h

float_bytes_lem : (s : List ℕ) (at : ℕ) → Bytes s → at + 8 ≤ length s → T (not (is_nan (of_bits binary64 (le64 s at))))
    → float_bytes (of_bits binary64 (le64 s at)) ≡ take 8 (drop at s)
float_bytes_lem s at b h k = ap bytes64 (to_bits-of_bits binary64 (le64 s at) (le64_lt s at b) k) ∙ bytes64_of s at b h

-- ---- an edge

pub edge_of : (s : List ℕ) (at : ℕ) (e : Edge) (rest : List ℕ) → EdgeFits e → drop at s ≡ edge_bytes e ++ rest → edge_at s at ≡ e
edge_of s at e rest f p =
    let v = bytes16 e.front.0 in
    let w = bytes16 e.back.0 in
    let x = float_bytes e.curve.t0 in
    let y = float_bytes e.curve.t1 in
    let front = le16_of s at e.front.0 (w ++ (x ++ (y ++ rest))) f.front p in
    let back = le16_of s (at + 2) e.back.0 (x ++ (y ++ rest)) f.back (after s at v (w ++ (x ++ (y ++ rest))) p) in
    let t0 = float_of s (at + 4) e.curve.t0 (y ++ rest) f.t0 (after s at (v ++ w) (x ++ (y ++ rest)) p) in
    let t1 = float_of s (at + 12) e.curve.t1 rest f.t1 (after s at (v ++ w ++ x) (y ++ rest) p) in
    λ i. edge (record { 0 = front i }) (record { 0 = back i }) (record { t0 = t0 i; t1 = t1 i })

pub edge_bytes_lem : (s : List ℕ) (at : ℕ) → Bytes s → at + 20 ≤ length s → is_span (edge_at s at).curve ≡ true
    → edge_bytes (edge_at s at) ≡ take 20 (drop at s)
edge_bytes_lem s at b h e =
    let k = span_no_nan (edge_at s at).curve e in
    let front = bytes16_of s at b (omega arith) in
    let back = bytes16_of s (at + 2) b (omega arith) in
    let t0 = float_bytes_lem s (at + 4) b (omega arith) k.0 in
    let t1 = float_bytes_lem s (at + 12) b (omega arith) k.1 in
    (λ i. front i ++ back i ++ t0 i ++ t1 i) ∙ rw (take_two s at 2 2, take_two s at 4 8) (take_two s at 12 8)

-- ---- a face

pub face_of_lem : (s : List ℕ) (at : ℕ) (f : Face) (rest : List ℕ) → FaceFits f → drop at s ≡ face_bytes f ++ rest → face_at s at ≡ f
face_of_lem s at f rest h e =
    let wires = le16_of s at f.wires (bytes16 f.surface ++ rest) h.wires e in
    let surface = le16_of s (at + 2) f.surface rest h.surface (after s at (bytes16 f.wires) (bytes16 f.surface ++ rest) e) in
    λ i. record { wires = wires i; surface = surface i }

pub face_bytes_lem : (s : List ℕ) (at : ℕ) → Bytes s → at + 4 ≤ length s → face_bytes (face_at s at) ≡ take 4 (drop at s)
face_bytes_lem s at b h = (λ i. bytes16_of s at b (omega arith) i ++ bytes16_of s (at + 2) b (omega arith) i) ∙ take_two s at 2 2

-- ---- an entry of the contents table

abbrev pub entry_bytes : ℕ × ℕ → List ℕ
entry_bytes e = bytes32 e.0 ++ bytes32 e.1

abbrev pub entry_at : List ℕ → ℕ → ℕ × ℕ
entry_at s at = (le32 s at, le32 s (at + 4))

pub entry_of : (s : List ℕ) (at : ℕ) (e : ℕ × ℕ) (rest : List ℕ) → e.0 < 4294967296 → e.1 < 4294967296 → drop at s ≡ entry_bytes e ++ rest
    → entry_at s at ≡ e
entry_of s at e rest h k p =
    let offset = le32_of s at e.0 (bytes32 e.1 ++ rest) h p in
    let count = le32_of s (at + 4) e.1 rest k (after s at (bytes32 e.0) (bytes32 e.1 ++ rest) p) in
    λ i. (offset i, count i)

pub entry_bytes_lem : (s : List ℕ) (at : ℕ) → Bytes s → at + 8 ≤ length s → entry_bytes (entry_at s at) ≡ take 8 (drop at s)
entry_bytes_lem s at b h = (λ i. bytes32_of s at b (omega arith) i ++ bytes32_of s (at + 4) b (omega arith) i) ∙ take_two s at 4 4

-- ---- a body

-- n records of one size, read from one place on, as they were written
pub body_of : {A : Type 0} (write : A → List ℕ) (read : List ℕ → ℕ → A) (size : ℕ) → ((x : A) → length (write x) ≡ size)
    → (s : List ℕ) (at n : ℕ) (xs : List A) (rest : List ℕ) (d : A)
    → ((k : ℕ) → k < length xs → (place : ℕ) (more : List ℕ) → drop place s ≡ write (get_or xs k d) ++ more → read s place ≡ get_or xs k d)
    → n ≡ length xs → drop at s ≡ flat (map write xs) ++ rest
    → tabulate n (λ (k : ℕ). read s (at + size * k)) ≡ xs
body_of write read size sized s at n xs rest d one e p =
    rw e
    (tabulate_of xs d (λ (k : ℕ). read s (at + size * k))
    (λ k h. one k h (at + size * k) (flat (map write (drop (suc k) xs)) ++ rest) (record_at write size sized s at xs rest d p k h)))

-- n records of one size, written as they were read
pub body_bytes : {A : Type 0} (write : A → List ℕ) (read : List ℕ → ℕ → A) (size : ℕ) (s : List ℕ) (at n : ℕ)
    → ((k : ℕ) → k < n → at + size * k + size ≤ length s → write (read s (at + size * k)) ≡ take size (drop (at + size * k) s))
    → at + size * n ≤ length s
    → flat (map write (tabulate n (λ (k : ℕ). read s (at + size * k)))) ≡ take (size * n) (drop at s)
body_bytes write read size s at n one h =
    let inside : (k : ℕ) → k < n → at + size * k + size ≤ length s = λ k l. omega (arith, mul-suc size k, mul-le-mul_left size l) in
    ap flat (map_tabulate write n (λ (k : ℕ). read s (at + size * k)))
    ∙ flat_runs s at size n (λ (k : ℕ). write (read s (at + size * k))) (λ k l. one k l (inside k l))
