-- What the reading checks say of the tables; the storage after a removal.
use Rattle.std.specs.Prelude.{Err, Ok, Result}
use native.Mathlib.Omega.{arith}
use Prim.Native.Nat.{◌+◌, ◌<◌, suc, ℕ, ◌≤◌}
use lib.Dec.{eqb, ltb}
use lib.ListN.{get_or, length, length-map, length-replicate, replicate, set, take}
use lib.Seq.{length-sets, sets}
use mathlib.Core.Bool.{false, true≢false, ◌||◌}
use mathlib.Core.List.{◌++◌, [], List, map, ◌∷◌}
use mathlib.Core.Path.{ap, sym, ◌∙◌, ◌≡◌}
use Rattle.concat.proofs.Judged.{joined_is, joins_are, room_there}
use Rattle.concat.specs.Joins.{appended}
use Rattle.remove_vertex_corners.proofs.Places.{part_long}
use Rattle.remove_vertex_corners.specs.Corners.{fit, removed_wire}
use Rattle.remove_vertex_corners.specs.Endings.{ending_of, ends_at}
use Rattle.remove_vertex_corners.specs.Tables.{TwoUses, WireTables}
use Rattle.remove_vertex_corners.specs.declared.Corner.{Corner}
use Rattle.remove_vertex_corners.specs.declared.Ending.{Ending}
use Rattle.edge.specs.Edges.{back_number, front_number}
use Rattle.edge.specs.Uses.{back_of, front_of}
use Rattle.edge.specs.declared.Edge.{Edge}
use Rattle.edit_answers.specs.declared.EditError.{EditError}
use Rattle.edit_answers.specs.declared.EditError.TheVariants.{Unmatched}
use Rattle.errors.proofs.Laws.{none_left, none_right}
use Rattle.errors.specs.Faults.{each}
use Rattle.face.proofs.Laws.{none_mapped}
use Rattle.face.specs.Faces.{face_faults, face_rule, outline_faults, shared_faults, wire_count}
use Rattle.lists.proofs.Count.{All, all_each, all_split}
use Rattle.lists.proofs.Laws.{eqb_sym, length_split}
use Rattle.lists.proofs.Parts.{all_flat, all_place, flat_split}
use Rattle.lists.proofs.Sets.{take_sets}
use Rattle.lists.specs.Lists.{flat, only, split, unless}
use Rattle.pattern.proofs.Counts.{wires_counted}
use Rattle.pattern.proofs.Named.{ends_apart, faces_summed, use_named, wires_summed}
use Rattle.pattern.proofs.Passed.{content_passed, pattern_passed}
use Rattle.pattern.specs.Checks.{content_faults, outlines, record_faults}
use Rattle.pattern.specs.Contents.{Content, Pattern, content}
use Rattle.pattern.specs.declared.Lists.{Lists}
use Rattle.shell.specs.Shells.{listings_of}
use Rattle.shell_edits.proofs.Storage.{seven_are}
use Rattle.shell_edits.proofs.Wires.{each_long}
use Rattle.shell_edits.specs.Edits.{each_wire, edge_of, end_faults, ending_wires, end_use, joined_edge, join_faults, last_wire, listed_wires, matched, near_faults, next_use, remove_faults, wires_in, wires_of}
use Rattle.shell_edits.specs.NewEdges.{joined_ends}
use Rattle.shell_wires.proofs.Facts.{Fine, stored_edited}
use Rattle.shell_wires.proofs.Made.{edges_few, uses_few, wires_few, wires_summed_lem}
use Rattle.shell_wires.specs.Lent.{Lent}
use Rattle.wire.proofs.Laws.{faultless_sound}
use Rattle.wire.specs.Wires.{closed, runs, wire_faults}
use Rattle.remove_vertex.proofs.Removals.{ending_inside, pairing_found, pairing_not}
use Rattle.remove_vertex.specs.Removals.{corner_in, corner_lent, pair_edge, pairing, pair_stored, pair_wires, removal}
use Rattle.store.specs.Columns.{with_counts, with_uses, with_wires}

-- ---- every wire has two uses or more
module _ (fronts backs : List ℕ) where
  abbrev Faultless : List ℕ → Type 0
  Faultless us = wire_faults fronts backs us ≡ []

  each_faultless : (w : ℕ) (wires : List (List ℕ)) → each (outline_faults fronts backs) w wires ≡ [] → All Faultless wires
  unfolding each
  each_faultless w [] e = tt
  each_faultless w (us ∷ wires) e =
      let here = outline_faults fronts backs w us in
      let rest = each (outline_faults fronts backs) (suc w) wires in
      (none_mapped w (wire_faults fronts backs us) (none_left here rest e), each_faultless (suc w) wires (none_right here rest e))

  rule_faultless : (w : ℕ) (faces : List (List (List ℕ))) → face_rule fronts backs w faces ≡ [] → All (All Faultless) faces
  unfolding face_rule
  rule_faultless w [] e = tt
  rule_faultless w (wires ∷ faces) e =
      let here = face_faults fronts backs w wires in
      let rest = face_rule fronts backs (w + length wires) faces in (
        each_faultless w wires (none_left (each (outline_faults fronts backs) w wires) (shared_faults fronts backs [] w wires) (none_left here rest e)),
        rule_faultless (w + length wires) faces (none_right here rest e),
      )

  abbrev Apart : ℕ → Type 0
  Apart u = eqb (front_of fronts backs u) (back_of fronts backs u) ≡ false

  -- a closed wire of one use would begin where it ends
  two_uses : (us : List ℕ) → Faultless us → All Apart us → 2 ≤ length us
  unfolding closed runs
  two_uses [] e h = absurd (omega (arith, (faultless_sound fronts backs [] e).used))
  two_uses (u ∷ []) e h = absurd (true≢false (sym (faultless_sound fronts backs (u ∷ []) e).loops ∙ eqb_sym (back_of fronts backs u) (front_of fronts backs u) ∙ h.0))
  two_uses (u ∷ v ∷ us) e h = omega arith

module _ (c : Content) (ok : content_faults c ≡ []) where
  abbrev fs : List ℕ
  fs = map front_number c.edges

  abbrev bs : List ℕ
  bs = map back_number c.edges

  records : record_faults c ≡ []
  records = (content_passed c ok).records

  wires_paired : TwoUses c.wires
  wires_paired w h =
      let xs = split c.wires c.uses in
      let counts = map wire_count c.faces in
      let long : length xs ≡ length c.wires = length_split c.wires c.uses in
      let inside : w < length xs = omega arith in
      let rule = all_flat (Faultless fs bs) (outlines c) (rule_faultless fs bs 0 (outlines c) (content_passed c ok).rule) in
      let faultless : All (Faultless fs bs) xs = rw (flat_split counts xs (faces_summed c records ∙ sym long)) at rule in
      let apart : All (Apart fs bs) c.uses = all_each (Apart fs bs) 0 c.uses (λ k l. ends_apart c records (get_or c.uses k 0) (use_named c records k l)) in
      let two = two_uses fs bs (get_or xs w []) (all_place (Faultless fs bs) [] xs faultless w inside) (all_place (All (Apart fs bs)) [] xs (all_split (Apart fs bs) c.wires c.uses apart) w inside) in
      omega (arith, two, part_long c.wires c.uses w (wires_summed c records) h)

-- refused before the edges are joined
pub pair_refused : (c : Content) (n v : ℕ) {x : EditError} → Err x ≡ pairing (near_faults c n v) (ending_of (ending_wires c n v)) (corner_in c v (last_wire (ending_wires c n v)))
    → Err x ≡ removal (remove_faults c n v) (pair_edge c v (ending_of (ending_wires c n v))) (ending_of (ending_wires c n v))
pair_refused c n v h =
    let g = ending_of (ending_wires c n v) in
    pairing_not (near_faults c n v) (join_faults c (end_use c v g.last) (next_use c v g.last)) g (corner_in c v g.last) (pair_edge c v g) h

-- ---- the lists of a pattern without fault
module _ (p : Pattern) {lists : Lists} (l : Lent p lists) where
  content_fine : content_faults (content p) ≡ []
  content_fine = (pattern_passed p l.listed.ok).content

  pub tables : WireTables lists.uses.now lists.wires.now
  tables = record {
    few_uses = uses_few p l;
    few_wires = wires_few p l;
    summed = wires_summed_lem p l;
    paired = rw l.wires_are (wires_paired (content p) content_fine);
  }

  pub shells_are : length (content p).shells ≡ length lists.shells.now
  shells_are = sym (ap length l.listed.shells_are)

  -- the wires that the code finds are those of the definition
  pub endings_are : (n v : ℕ) {e : Ending} {ls : List ℕ} → ls ≡ listings_of (content p) n
      → e ≡ ending_of (only (λ (w : ℕ). ends_at lists.ends.fronts.now lists.ends.backs.now v (get_or (split lists.wires.now lists.uses.now) w [])) (listed_wires lists.faces.now (length lists.wires.now) ls))
      → e ≡ ending_of (ending_wires (content p) n v)
  endings_are n v el is = is ∙ rw (l.fronts_are, l.backs_are, l.wires_are, l.uses_are, l.listed.faces_are, el)

  -- so are the wires that it writes
  pub pairs_are : (v : ℕ) (e : Ending)
      → each_wire (removed_wire lists.ends.fronts.now lists.ends.backs.now v e (length lists.ends.fronts.now)) 0 (split lists.wires.now lists.uses.now) ≡ pair_wires (content p) v e
  pairs_are v e = rw ((edges_few p l).0, l.fronts_are, l.backs_are, l.wires_are, l.uses_are)

  -- and the corners
  corner_is : (v w : ℕ) → corner_lent lists v w ≡ corner_in (content p) v w
  corner_is v w = rw (l.fronts_are, l.backs_are, l.wires_are, l.uses_are)

  pub pair_matched : (n v : ℕ) (e : Ending) (r : Result (Ending × Corner) EditError) → e ≡ ending_of (ending_wires (content p) n v)
      → unless (ltb e.number 2 || matched (content p) v e.first e.last) Unmatched ≡ near_faults (content p) n v
      → r ≡ pairing (unless (fit e (corner_lent lists v e.first) (corner_lent lists v e.last)) Unmatched) e (corner_lent lists v e.last)
      → r ≡ pairing (near_faults (content p) n v) (ending_of (ending_wires (content p) n v)) (corner_in (content p) v (last_wire (ending_wires (content p) n v)))
  pair_matched n v e r is near j =
      let last = corner_lent lists v e.last in
      let read : r ≡ pairing (unless (ltb e.number 2 || matched (content p) v e.first e.last) Unmatched) e (corner_in (content p) v e.last) =
      j ∙ ap (λ (k : Corner). pairing (unless (fit e k last) Unmatched) e last) (corner_is v e.first)
      ∙ ap (λ (k : Corner). pairing (unless (fit e (corner_in (content p) v e.first) k) Unmatched) e k) (corner_is v e.last) in
      read ∙ ap (λ (es : List EditError). pairing es e (corner_in (content p) v e.last)) near
      ∙ ap (λ (g : Ending). pairing (near_faults (content p) n v) g (corner_in (content p) v g.last)) is

  -- the first and the last wire with a use that ends at the point are wires
  pub endings_inside : (n v : ℕ) {e : Ending} → e ≡ ending_of (ending_wires (content p) n v) → 0 < e.number
      → (e.first < length lists.wires.now) × (e.last < length lists.wires.now)
  endings_inside n v is some =
      let c = content p in
      let xss = split c.wires c.uses in
      let long : length xss ≡ length lists.wires.now = length_split c.wires c.uses ∙ sym (ap length l.wires_are) in
      let both = ending_inside (map front_number c.edges) (map back_number c.edges) v xss (wires_of c n) is some in
      (omega (arith, long, both.0), omega (arith, long, both.1))

-- the edges of the pair, joined
pub pair_removed : (c : Content) (n v m : ℕ) (e : Ending) (k : Corner) → length c.edges ≡ m
    → Ok (e, k) ≡ pairing (near_faults c n v) (ending_of (ending_wires c n v)) (corner_in c v (last_wire (ending_wires c n v)))
    → {a b : Edge} → a ≡ edge_of c k.ending → b ≡ edge_of c k.next → {r : Result (Edge × Ending) EditError}
    → r ≡ removal (end_faults a k.ending b k.next m) (joined_ends a k.ending b k.next) e
    → r ≡ removal (remove_faults c n v) (pair_edge c v (ending_of (ending_wires c n v))) (ending_of (ending_wires c n v))
pair_removed c n v m e k edges h {a} {b} ea eb {r} is =
    let g = ending_of (ending_wires c n v) in
    let parts = pairing_found (near_faults c n v) g (corner_in c v g.last) h in
    let read : r ≡ removal (join_faults c k.ending k.next) (joined_edge c k.ending k.next) e =
    is ∙ rw (joins_are c k.ending k.next m ea eb edges, joined_is c k.ending k.next m ea eb edges) in
    read ∙ ap (λ (x : Ending). removal (join_faults c k.ending k.next) (joined_edge c k.ending k.next) x) parts.1
    ∙ ap (λ (x : Corner). removal (join_faults c x.ending x.next) (joined_edge c x.ending x.next) g) parts.2
    ∙ ap (λ (es : List EditError). removal (es ++ join_faults c (end_use c v g.last) (next_use c v g.last)) (pair_edge c v g) g) (sym parts.0)

-- zeros that were written to are as many as before
pub zeros_long : (n : ℕ) (xs : List ℕ) {out : List ℕ} → out ≡ sets (replicate n 0) 0 xs → length out ≡ n
zeros_long n xs h = ap length h ∙ length-sets {A = ℕ} (replicate n 0) 0 xs ∙ length-replicate {A = ℕ} n 0

module _ (p : Pattern) (s : Fine p) (v : ℕ) (e : Ending) where
  abbrev made : List (List ℕ)
  made = pair_wires (content p) v e

  pairs_long : length (map length made) ≡ get_or p.counts 3 0
  pairs_long =
      length-map made length
      ∙ each_long (removed_wire (map front_number (content p).edges) (map back_number (content p).edges) v e (length (content p).edges)) 0 (wires_in (content p))
      ∙ length_split (content p).wires (content p).uses ∙ wires_counted p s.limits s.full

  -- the storage
  stored_pair : (d : Edge) (used : ℕ) (us ws : List ℕ) (p₁ p₂ p₃ p₄ : Pattern) → used ≡ length (flat made) → us ≡ flat made → ws ≡ map length made
      → p₁ ≡ appended p d → p₂ ≡ with_uses p₁ (sets p₁.uses 0 us) → p₃ ≡ with_wires p₂ (sets p₂.wires 0 ws) → p₄ ≡ with_counts p₃ (set p₃.counts 2 used)
      → p₄ ≡ pair_stored p v e d
  stored_pair d used us ws p₁ p₂ p₃ p₄ eu eo el x₁ x₂ x₃ x₄ =
      let counts = p.counts in
      let same : set (set counts 1 (get_or counts 1 0 + 1)) 2 used ≡ set (set (set counts 1 (get_or counts 1 0 + 1)) 2 (length (flat made))) 3 (length (map length made)) =
      rw (pairs_long, ← eu) (third counts (get_or counts 1 0 + 1) used s.seven) in
      x₄ ∙ rw (x₃, x₂, x₁, eo, el, same) (sym (stored_edited p s (d ∷ []) (flat made) (map length made)))
    where
      third : (ns : List ℕ) (a b : ℕ) → length ns ≡ 7 → set (set ns 1 a) 2 b ≡ set (set (set ns 1 a) 2 b) 3 (get_or ns 3 0)
      third ns a b l =
          ap (λ (ms : List ℕ). set (set ms 1 a) 2 b) (sym (seven_are ns l)) ∙ ap (λ (ms : List ℕ). set (set (set ms 1 a) 2 b) 3 (get_or ns 3 0)) (seven_are ns l)

  -- the same, where the uses and the wires are the first of two arrays of zeros that were written to
  pub stored_written : (xss : List (List ℕ)) → xss ≡ made → (d : Edge) (used wired : ℕ) (uses wires : List ℕ) (p₁ p₂ p₃ p₄ : Pattern)
      → used ≡ length (flat xss) → used ≤ 4096 → wired ≡ get_or p.counts 3 0 → uses ≡ sets (replicate 4096 0) 0 (flat xss) → wires ≡ sets (replicate 1024 0) 0 (map length xss)
      → p₁ ≡ appended p d → p₂ ≡ with_uses p₁ (sets p₁.uses 0 (take used uses)) → p₃ ≡ with_wires p₂ (sets p₂.wires 0 (take wired wires)) → p₄ ≡ with_counts p₃ (set p₃.counts 2 used)
      → p₄ ≡ pair_stored p v e d
  stored_written xss ex d used wired uses wires p₁ p₂ p₃ p₄ fu few fw fo fl x₁ x₂ x₃ x₄ =
      let eu : used ≡ length (flat made) = rw ex at fu in
      let eo : uses ≡ sets (replicate 4096 0) 0 (flat made) = rw ex at fo in
      let el : wires ≡ sets (replicate 1024 0) 0 (map length made) = rw ex at fl in
      let us : take used uses ≡ flat made = rw eo (take_sets (replicate 4096 0) (flat made) used (sym eu) (omega (arith, length-replicate {A = ℕ} 4096 0))) in
      let ws : take wired wires ≡ map length made = rw el (take_sets (replicate 1024 0) (map length made) wired (pairs_long ∙ sym fw) (omega (arith, s.limits.wires, length-replicate {A = ℕ} 1024 0))) in
      stored_pair d used _ _ p₁ p₂ p₃ p₄ eu us ws x₁ x₂ x₃ x₄

-- where nothing is refused, there is room
pub removal_room : (c : Content) (n v : ℕ) → remove_faults c n v ≡ [] → length c.edges < 1024
removal_room c n v h =
    let last = last_wire (ending_wires c n v) in
    let u = end_use c v last in
    let w = next_use c v last in
    room_there c u w (none_right (near_faults c n v) (join_faults c u w) h)
