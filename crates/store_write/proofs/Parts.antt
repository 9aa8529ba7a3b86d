-- The parts of a file, written one after the other from where each begins.
use Prim.Native.Nat.{◌*◌, ◌+◌, ◌<◌, ◌≤◌, suc, zero, ℕ}
use mathlib.Core.Bool.{true}
use mathlib.Core.List.{List, [], ◌++◌, ◌∷◌, map}
use mathlib.Core.Path.{◌∙◌, ◌≡◌, ap, refl, sym}
use native.Mathlib.Nat.{zero-add}
use native.Mathlib.Omega.{arith}
use lib.Ieee.{Float}
use lib.ListN.{get_or-map, drop, get_or, length, length-append}
use lib.Seq.{get_or-take, length-sets, sets, sets-eq}
use Rattle.edge.specs.Edges.{is_span}
use Rattle.lists.proofs.Flat.{get_d_tabulate, length_flat}
use Rattle.lists.proofs.Laws.{tabulate_get_d}
use Rattle.lists.proofs.Sets.{sets_then}
use Rattle.lists.specs.Lists.{flat, tabulate}
use Rattle.pattern.proofs.Counts.{Full, Limited, edges_counted, faces_counted, limited, listings_counted, points_counted, shells_counted, uses_counted, wires_counted}
use Rattle.pattern.specs.Checks.{content_faults, count_faults}
use Rattle.pattern.specs.Contents.{Content, Pattern, content, counts_of, layout, zero_edge}
use Rattle.pattern_file.proofs.Places.{get_d_lengths, start_first, start_le, start_next}
use Rattle.pattern_file.proofs.WriteBack.{span}
use Rattle.pattern_file.specs.File.{body_lengths, edge_bytes, face_bytes, file_bytes, start_of, table_bytes}
use Rattle.edge.specs.declared.Edge.{Edge}
use Rattle.store.specs.Store.{edge_in, held}
use Rattle.words.specs.Words.{bytes16, bytes32}

-- the bodies
abbrev pub parts : Content → List (List ℕ)
parts c =
    flat (map bytes32 c.points)
    ∷ flat (map edge_bytes c.edges)
    ∷ flat (map bytes16 c.uses)
    ∷ flat (map bytes16 c.wires)
    ∷ flat (map face_bytes c.faces)
    ∷ flat (map bytes16 c.shells)
    ∷ flat (map bytes16 c.listings)
    ∷ []

-- the file up to body b
abbrev pub upto : Content → ℕ → List ℕ
upto c zero = table_bytes (counts_of c)
upto c (suc b) = upto c b ++ get_or (parts c) b []

part_lengths : (c : Content) → map length (parts c) ≡ body_lengths layout.sizes (counts_of c)
unfolding body_lengths
part_lengths c = λ i.
    length_flat bytes32 4 (λ x. refl) c.points i
    ∷ length_flat edge_bytes 20 (λ x. refl) c.edges i
    ∷ length_flat bytes16 2 (λ x. refl) c.uses i
    ∷ length_flat bytes16 2 (λ x. refl) c.wires i
    ∷ length_flat face_bytes 4 (λ x. refl) c.faces i
    ∷ length_flat bytes16 2 (λ x. refl) c.shells i
    ∷ length_flat bytes16 2 (λ x. refl) c.listings i
    ∷ []

pub table_length : (ns : List ℕ) → length (table_bytes ns) ≡ 56
unfolding flat tabulate
table_length ns = refl

pub upto_length : (c : Content) (b : ℕ) → start_of (counts_of c) b ≡ length (upto c b)
upto_length c zero = start_first (counts_of c) ∙ sym (table_length (counts_of c))
upto_length c (suc b) =
    let part : length (get_or (parts c) b []) ≡ get_or layout.sizes b 0 * get_or (counts_of c) b 0 =
    sym (get_or-map length (parts c) b [])
    ∙ ap (λ (ns : List ℕ). get_or ns b 0) (part_lengths c)
    ∙ get_d_lengths layout.sizes (counts_of c) b in
    omega (arith, start_next (counts_of c) b, upto_length c b, length-append (upto c b) (get_or (parts c) b []), part)

-- ---- a pattern in storage

seven_list : (ns : List ℕ) → length ns ≡ 7 → tabulate 7 (λ (b : ℕ). get_or ns b 0) ≡ ns
seven_list ns e = rw e at (tabulate_get_d ns 0)

-- the content of a pattern within the limits has just its counts
pub counts_same : (p : Pattern) → Full p → length p.counts ≡ 7 → count_faults p.counts ≡ [] → counts_of (content p) ≡ p.counts
unfolding tabulate
counts_same p full seven few =
    let s = limited p.counts seven few in
    (λ i.
    points_counted p s full i
    ∷ edges_counted p s full i
    ∷ uses_counted p s full i
    ∷ wires_counted p s full i
    ∷ faces_counted p s full i
    ∷ shells_counted p s full i
    ∷ listings_counted p s full i
    ∷ [])
    ∙ seven_list p.counts seven

-- where the file ends
pub file_length : (p : Pattern) → Full p → length p.counts ≡ 7 → count_faults p.counts ≡ [] → (starts : List ℕ)
    → starts ≡ tabulate 8 (start_of p.counts) → get_or starts 7 0 ≡ length (file_bytes (content p))
file_length p full seven few starts e =
    ap (λ (ns : List ℕ). get_or ns 7 0) e
    ∙ get_d_tabulate 8 (start_of p.counts) 7 0 (omega arith)
    ∙ ap (λ (ns : List ℕ). start_of ns 7) (sym (counts_same p full seven few))
    ∙ upto_length (content p) 7

-- what is known before the first part is written
pub record Ready (p : Pattern) (starts l : List ℕ) : Type 0 where
  pub full : Full p
  pub seven : length p.counts ≡ 7
  pub few : count_faults p.counts ≡ []
  pub good : content_faults (content p) ≡ []
  pub places : starts ≡ tabulate 8 (start_of p.counts)
  pub room : get_or starts 7 0 ≤ length l

-- the file is written up to body b
pub record Stage (p : Pattern) (starts l : List ℕ) (b : ℕ) (out : List ℕ) : Type 0 where
  pub ready : Ready p starts l
  pub so_far : out ≡ sets l 0 (upto (content p) b)

module _ (p : Pattern) (starts l : List ℕ) where
  place : Ready p starts l → (b : ℕ) → b < 8 → get_or starts b 0 ≡ start_of p.counts b
  place r b h = ap (λ (ns : List ℕ). get_or ns b 0) r.places ∙ get_d_tabulate 8 (start_of p.counts) b 0 h

  pub ready_limits : Ready p starts l → Limited p.counts
  ready_limits r = limited p.counts r.seven r.few

  -- every edge has a span
  pub ready_spans : Ready p starts l → (k : ℕ) → k < get_or p.counts 1 0 → is_span (get_or p.edges k zero_edge).curve ≡ true
  ready_spans r k h =
      rw (get_or-take (get_or p.counts 1 0) p.edges k zero_edge h)
      at (span (content p) r.good k (omega (arith, edges_counted p (ready_limits r) r.full)))

  pub ready_table : Ready p starts l → 56 ≤ length l
  ready_table r = omega (arith, r.room, place r 7 (omega arith), start_first p.counts, start_le p.counts 0 7 (omega arith))

  pub stage_first : (out : List ℕ) → Ready p starts l → out ≡ sets l 0 (table_bytes p.counts) → Stage p starts l 0 out
  stage_first out r e = record { ready = r; so_far = e ∙ ap (λ (ns : List ℕ). sets l 0 (table_bytes ns)) (sym (counts_same p r.full r.seven r.few)) }

  module _ (b : ℕ) (out : List ℕ) (s : Stage p starts l b out) where
    pub stage_long : length out ≡ length l
    stage_long = ap length s.so_far ∙ length-sets l 0 (upto (content p) b)

    pub stage_room : b < 7 → get_or starts b 0 + get_or layout.sizes b 0 * get_or p.counts b 0 ≤ length out
    stage_room h =
        let r = s.ready in
        omega (arith, stage_long, r.room, place r 7 (omega arith), place r b (omega arith), start_next p.counts b, start_le p.counts (suc b) 7 h)

    pub stage_next : (out' : List ℕ) → b < 7 → out' ≡ sets out (get_or starts b 0) (get_or (parts (content p)) b []) → Stage p starts l (suc b) out'
    stage_next out' h e =
        let r = s.ready in
        let at : get_or starts b 0 ≡ 0 + length (upto (content p) b) =
        place r b (omega arith)
        ∙ ap (λ (ns : List ℕ). start_of ns b) (sym (counts_same p r.full r.seven r.few))
        ∙ upto_length (content p) b
        ∙ sym (zero-add (length (upto (content p) b))) in
        record { ready = r; so_far = sets_then l 0 (upto (content p) b) (get_or (parts (content p)) b []) (get_or starts b 0) at s.so_far e }

  pub stage_all : (out : List ℕ) → Stage p starts l 7 out → out ≡ file_bytes (content p) ++ drop (length (file_bytes (content p))) l
  stage_all out s =
      let r = s.ready in
      let file = file_bytes (content p) in
      let end : length file ≤ length l = omega (arith, r.room, file_length p r.full r.seven r.few starts r.places) in
      s.so_far ∙ sets-eq file l 0 (rw (zero-add (length file)) end) ∙ rw (zero-add (length file))

-- every edge of a store has a span
pub span_in : (t : List ℕ) (spans : List Float) (starts l : List ℕ) → Ready (held t spans) starts l → (k : ℕ) → k < get_or (held t spans).counts 1 0 → is_span (edge_in t spans k).curve ≡ true
span_in t spans starts l r k h =
    let few = (ready_limits (held t spans) starts l r).edges in
    ap (λ (d : Edge). is_span d.curve) (sym (get_d_tabulate 1024 (edge_in t spans) k zero_edge (omega arith)))
    ∙ ready_spans (held t spans) starts l r k h
