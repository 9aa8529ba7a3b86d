-- What an edit of a shell leaves of the others: everything. 27 keeps their faces apart.
use Prim.Native.Nat.{◌+◌, ◌-◌, ◌<◌, suc, zero, ℕ}
use mathlib.Core.Bool.{Bool, ◌||◌, false, not, or-true, true, true≢false}
use mathlib.Core.List.{List, [], ◌++◌, ◌∷◌, map, map-append, reverse}
use mathlib.Core.Logic.{⊎_elim}
use mathlib.Core.Path.{◌∙◌, ◌≡◌, ap, refl, sym}
use native.Mathlib.Omega.{arith}
use lib.Dec.{eqb, leb, ltb}
use lib.ListN.{drop, get_or, length, length-append, set, take}
use lib.Seq.{get_or-set_other}
use borrow.Author.Tests.{eq-eqb, eqb-true, leb-true, not-false, not-true}
use Rattle.curve.specs.Curves.{cut_curve}
use Rattle.curve.specs.declared.Parameter.{Parameter}
use Rattle.edge.specs.Uses.{edge_number, turned}
use Rattle.edge.specs.declared.Edge.{Edge}
use Rattle.edit_answers.specs.Answers.{judged}
use Rattle.edit_answers.specs.declared.EditError.{EditError}
use Rattle.errors.specs.declared.Refusal.{Refusal}
use Rattle.face.specs.Faces.{wire_count}
use Rattle.lists.proofs.Count.{All, all_at, all_each, all_map, all_only, all_reverse, all_split, all_weaker}
use Rattle.lists.proofs.Laws.{cases, has_append, left_true, length_split, right_true}
use Rattle.lists.proofs.Parts.{all_flat, all_place, map_same, only_same, split_flat}
use Rattle.lists.specs.Lists.{disjoint, flat, has, numbers, once, only, pick, split}
use Rattle.pattern.proofs.Counts.{Full}
use Rattle.pattern.proofs.Named.{use_named}
use Rattle.pattern.proofs.Passed.{pattern_passed}
use Rattle.pattern.proofs.Stored.{stored_content}
use Rattle.pattern.specs.Checks.{content_faults, count_faults, outlines, pattern_faults}
use Rattle.pattern.specs.Contents.{Content, Pattern, content, counts_of, stored_in}
use Rattle.shell.proofs.SameEnds.{Same, backs_same, connected_same, fronts_same, walk_same}
use Rattle.shell.specs.Components.{components, components_of, has_wires, shell_pairs}
use Rattle.shell.specs.Conditions.{condition}
use Rattle.shell.specs.Connected.{connected_of}
use Rattle.shell.specs.Openings.{Walk, back_in, front_in, shell_walk, walk_of}
use Rattle.shell.specs.ShellKept.{ShellKept}
use Rattle.shell.specs.Shells.{face_number, listings_of, shell_faces, shell_uses, shell_wires, shown_wire, shown_wires}
use Rattle.shell.specs.Singular.{singular_of}
use Rattle.shell_edits.proofs.Accepted.{old_back, old_front, records_fine}
use Rattle.shell_edits.proofs.ConcatTheorem.{concat_allowed, concat_few}
use Rattle.shell_edits.proofs.Cut.{change, change_none}
use Rattle.shell_edits.proofs.CutMade.{edge_inside, own_faces}
use Rattle.shell_edits.proofs.CutTheorem.{cut_few}
use Rattle.shell_edits.proofs.Removal.{end_use_named, first_changed, last_ends, last_changed, remove_allowed, wires_changed, wires_many}
use Rattle.shell_edits.proofs.RemoveTheorem.{remove_few}
use Rattle.shell_edits.proofs.VertexTheorem.{vertex_few, vertex_kept}
use Rattle.shell_edits.proofs.Wires.{all_has, each_at, each_long, face_same, unlisted}
use Rattle.shell_edits.specs.Answers.{pattern_after}
use Rattle.shell_edits.specs.Edits.{concat_content, concat_faults, cut_content, cut_faults, cut_wires, edge_at, edited, end_use, ending_wires, first_wire, joined_edge, last_wire, next_use, other_listings, outline, remove_content, remove_faults, remove_wires, shares_face, vertex_content, vertex_faults, wires_in, wires_of}
use Rattle.shell_edits.specs.NewEdges.{half_edges}
use Rattle.shell_edits.specs.Sequences.{Edit, Elsewhere, concat, cut, do_edit, remove, vertex}
use Rattle.singular.proofs.Theorem.{singular_more}

-- ---- lists

once_all : (P : ℕ → Type 0) (xs : List ℕ) → All P xs → All P (once xs)
unfolding once
once_all P [] h = tt
once_all P (x ∷ xs) h = (h.0, all_only P (λ (y : ℕ). not (eqb x y)) (once xs) (once_all P xs h.1))

mapped_has : (g : ℕ → ℕ) (xs : List ℕ) → All (λ (x : ℕ). has (g x) (map g xs) ≡ true) xs
unfolding has
mapped_has g [] = tt
mapped_has g (x ∷ xs) = (
  rw (eq-eqb (g x) (g x) refl),
  all_weaker (λ (y : ℕ). has (g y) (map g xs) ≡ true) (λ (y : ℕ). (eqb (g y) (g x) || has (g y) (map g xs)) ≡ true) (λ y h. rw h (or-true (eqb (g y) (g x)))) xs (mapped_has g xs),
)

disjoint_out : (xs ys : List ℕ) → disjoint xs ys ≡ true → (x : ℕ) → has x ys ≡ true → has x xs ≡ false
unfolding disjoint has
disjoint_out [] ys d x h = refl
disjoint_out (y ∷ xs) ys d x h =
    ⊎_elim
    (λ (e : eqb x y ≡ true).
    let out = not-true (has y ys) (left_true (not (has y ys)) (disjoint xs ys) d) in
    absurd (true≢false (sym h ∙ rw (eqb-true x y e) out)))
    (λ (e : eqb x y ≡ false). rw e (disjoint_out xs ys (right_true (not (has y ys)) (disjoint xs ys) d) x h))
    (cases (eqb x y))

-- what stands in one of the lists stands in all together
in_flat : (g : ℕ → ℕ) (x : ℕ) (xss : List (List ℕ)) (k : ℕ) → has x (map g (get_or xss k [])) ≡ true → has x (map g (flat xss)) ≡ true
unfolding flat has
in_flat g x [] k h = h
in_flat g x (xs ∷ xss) zero h = rw (map-append g xs (flat xss), has_append x (map g xs) (map g (flat xss)), h)
in_flat g x (xs ∷ xss) (suc k) h = rw (map-append g xs (flat xss), has_append x (map g xs) (map g (flat xss)), in_flat g x xss k h) (or-true (has x (map g xs)))

-- what stands in list m stands in those other than list n
in_others : (g : ℕ → ℕ) (x : ℕ) (xss : List (List ℕ)) (n m : ℕ) → (m ≡ n → ⊥) → has x (map g (get_or xss m [])) ≡ true
    → has x (map g (flat (take n xss ++ drop (suc n) xss))) ≡ true
unfolding flat has
in_others g x [] n m other h = absurd (true≢false (sym h))
in_others g x (xs ∷ xss) zero zero other h = absurd (other refl)
in_others g x (xs ∷ xss) zero (suc m) other h = in_flat g x xss m h
in_others g x (xs ∷ xss) (suc n) zero other h =
    let rest = flat (take n xss ++ drop (suc n) xss) in
    rw (map-append g xs rest, has_append x (map g xs) (map g rest), h)
in_others g x (xs ∷ xss) (suc n) (suc m) other h =
    let rest = flat (take n xss ++ drop (suc n) xss) in
    rw (map-append g xs rest, has_append x (map g xs) (map g rest), in_others g x xss n m (λ e. other (ap suc e)) h) (or-true (has x (map g xs)))

-- ---- a use turned is of the same edge
turned_named : (m u : ℕ) → edge_number u < m → edge_number (turned u) < m
turned_named m u h =
    ⊎_elim
    (λ (r : leb 32768 u ≡ true). rw r (omega (arith, leb-true 32768 u r)))
    (λ (r : leb 32768 u ≡ false). rw r (omega arith))
    (cases (leb 32768 u))

-- ---- shell m of an accepted pattern, and with more edges and other wires
module _ (c : Content) (ok : content_faults c ≡ []) (m : ℕ) where
  abbrev Named : ℕ → Type 0
  Named u = edge_number u < length c.edges

  shown_named : (l : ℕ) (us : List ℕ) → All Named us → All Named (shown_wire l us)
  shown_named l us h = go (leb 32768 l)
    where
      go : (b : Bool) → All Named (pick b (map turned (reverse us)) us)
      go true = all_map Named Named turned (turned_named (length c.edges)) (reverse us) (all_reverse Named us h)
      go false = h

  faces_named : All (All (All Named)) (shell_faces c m)
  faces_named =
      let uses : All Named c.uses = all_each Named 0 c.uses (use_named c (records_fine c ok)) in
      let faces : All (All (All Named)) (outlines c) = all_split (All Named) (map wire_count c.faces) (wires_in c) (all_split Named c.wires c.uses uses) in
      all_map (λ (l : ℕ). Unit {0}) (All (All Named)) (shown_wires (outlines c))
      (λ l _. all_map (All Named) (All Named) (shown_wire l) (shown_named l) (get_or (outlines c) (face_number l) []) (all_at (All (All Named)) [] tt (outlines c) faces (face_number l)))
      (listings_of c m) (all_each (λ (l : ℕ). Unit {0}) 0 (listings_of c m) (λ k h. tt))

  module _ (new : List Edge) (uses wires : List ℕ) (some : 0 < length c.edges) where
    abbrev d : Content
    d = edited c new uses wires

    -- the face of a listing has its wires
    abbrev FaceKept : ℕ → Type 0
    FaceKept l = get_or (outlines d) (face_number l) [] ≡ get_or (outlines c) (face_number l) []

    abbrev SameUse : ℕ → Type 0
    SameUse = Same (front_in c) (back_in c) (front_in d) (back_in d)

    same_use : (u : ℕ) → Named u → SameUse u
    same_use u h = (old_front c new u h, old_back c new u h)

    faces_same_ends : All (All (All SameUse)) (shell_faces c m)
    faces_same_ends =
        all_weaker (All (All Named)) (All (All SameUse)) (λ wires. all_weaker (All Named) (All SameUse) (λ us. all_weaker Named SameUse same_use us) wires) (shell_faces c m) faces_named

    uses_same_ends : All SameUse (shell_uses c m)
    unfolding shell_wires
    uses_same_ends = all_flat SameUse (flat (shell_faces c m)) (all_flat (All SameUse) (shell_faces c m) faces_same_ends)

    uses_named : All Named (shell_uses c m)
    unfolding shell_wires
    uses_named = all_flat Named (flat (shell_faces c m)) (all_flat (All Named) (shell_faces c m) faces_named)

    module _ (kept : All FaceKept (listings_of c m)) where
      shown_same : (l : ℕ) → FaceKept l → shown_wires (outlines d) l ≡ shown_wires (outlines c) l
      shown_same l h = ap (map (shown_wire l)) h

      faces_same : shell_faces d m ≡ shell_faces c m
      faces_same =
          map_same (shown_wires (outlines d)) (shown_wires (outlines c)) (listings_of c m)
          (all_weaker FaceKept (λ (l : ℕ). shown_wires (outlines d) l ≡ shown_wires (outlines c) l) shown_same (listings_of c m) kept)

      wires_same : shell_wires d m ≡ shell_wires c m
      unfolding shell_wires
      wires_same = ap flat faces_same

      uses_same : shell_uses d m ≡ shell_uses c m
      uses_same = ap flat wires_same

      pairs_same : shell_pairs d m ≡ shell_pairs c m
      pairs_same =
          ap once (only_same (has_wires (outlines d)) (has_wires (outlines c)) (listings_of c m)
          (all_weaker FaceKept (λ (l : ℕ). has_wires (outlines d) l ≡ has_wires (outlines c) l) (λ l h. ap (λ (ws : List (List ℕ)). ltb 0 (length ws)) h) (listings_of c m) kept))

      parts_same : components d m ≡ components c m
      parts_same =
          let part : Content → ℕ → List ℕ = λ (x : Content) (l : ℕ). flat (shown_wires (outlines x) l) in
          let pairs = shell_pairs c m in
          let all : All FaceKept pairs = once_all FaceKept (only (has_wires (outlines c)) (listings_of c m)) (all_only FaceKept (has_wires (outlines c)) (listings_of c m) kept) in
          ap (λ (ps : List ℕ). components_of ps (map (part d) ps)) pairs_same
          ∙ ap (components_of pairs) (map_same (part d) (part c) pairs (all_weaker FaceKept (λ (l : ℕ). part d l ≡ part c l) (λ l h. ap flat (shown_same l h)) pairs all))

      walks_same : shell_walk d m ≡ shell_walk c m
      walks_same =
          ap (walk_of (front_in d) (back_in d) (length c.points)) uses_same
          ∙ walk_same (front_in c) (back_in c) (front_in d) (back_in d) (length c.points) (shell_uses c m) uses_same_ends

      pub shell_kept : ShellKept c d m
      shell_kept = record {
        listings_kept = refl;
        faces_kept = faces_same;
        uses_kept = uses_same;
        fronts_kept = ap (map (front_in d)) uses_same ∙ fronts_same (front_in c) (back_in c) (front_in d) (back_in d) (shell_uses c m) uses_same_ends;
        backs_kept = ap (map (back_in d)) uses_same ∙ backs_same (front_in c) (back_in c) (front_in d) (back_in d) (shell_uses c m) uses_same_ends;
        condition_kept = ap condition uses_same;
        connected_kept = ap (connected_of (front_in d) (back_in d) (length c.points)) faces_same
            ∙ connected_same (front_in c) (back_in c) (front_in d) (back_in d) (same_use 0 some) (length c.points) (shell_faces c m) faces_same_ends;
        openings_kept = ap (λ (w : Walk). w.openings) walks_same;
        lookups_kept = ap (λ (w : Walk). w.lookups) walks_same;
        components_kept = parts_same;
        singular_kept = ap (singular_of (front_in d) (back_in d) (length (c.edges ++ new)) (length c.points)) wires_same
            ∙ singular_more (front_in c) (back_in c) (front_in d) (back_in d) (length c.edges) (length (c.edges ++ new)) (length c.points) (shell_wires c m)
            (omega (arith, length-append c.edges new)) uses_named uses_same_ends;
      }

-- ---- wires of which only those of shell n are changed
module _ (c : Content) (n : ℕ) (own : shares_face c n ≡ false) (m : ℕ) (other : m ≡ n → ⊥) where
  -- no face of shell m is one of shell n
  faces_apart : All (λ (l : ℕ). has (face_number l) (map face_number (listings_of c n)) ≡ false) (listings_of c m)
  faces_apart =
      let here = map face_number (listings_of c n) in
      let there = map face_number (other_listings c n) in
      all_weaker (λ (l : ℕ). has (face_number l) (map face_number (listings_of c m)) ≡ true) (λ (l : ℕ). has (face_number l) here ≡ false)
      (λ l h. disjoint_out here there (not-false (disjoint here there) own) (face_number l) (in_others face_number (face_number l) (split c.shells c.listings) n m other h))
      (listings_of c m) (mapped_has face_number (listings_of c m))

  module _ (ws : List (List ℕ)) (long : length ws ≡ length (wires_in c)) (same : (w : ℕ) → has w (wires_of c n) ≡ false → get_or ws w [] ≡ outline c w) where
    pub other_faces : All (λ (l : ℕ). get_or (split (map wire_count c.faces) (split (map length ws) (flat ws))) (face_number l) [] ≡ get_or (outlines c) (face_number l) []) (listings_of c m)
    other_faces =
        let counts = map wire_count c.faces in
        let number : length (wires_in c) ≡ length c.wires = length_split c.wires c.uses in
        let block : ℕ → List ℕ = λ (l : ℕ). get_or (split counts (numbers (length (wires_in c)))) (face_number l) [] in
        rw (split_flat ws)
        (all_weaker (λ (l : ℕ). has (face_number l) (map face_number (listings_of c n)) ≡ false) (λ (l : ℕ). get_or (split counts ws) (face_number l) [] ≡ get_or (outlines c) (face_number l) [])
        (λ l out. face_same counts (wires_in c) ws (face_number l) long
        (all_weaker (λ (w : ℕ). has w (block l) ≡ true) (λ (w : ℕ). get_or ws w [] ≡ outline c w)
        (λ w h. same w (rw number at (unlisted counts (length (wires_in c)) (face_number l) (listings_of c n) out w h))) (block l) (all_has (block l))))
        (listings_of c m) faces_apart)

-- ---- the edits of an accepted content
module _ (c : Content) (ok : content_faults c ≡ []) (m : ℕ) where
  -- a cut of another shell
  pub cut_others : (n e p : ℕ) (at : Parameter) → cut_faults c n e p at ≡ [] → (m ≡ n → ⊥) → ShellKept c (cut_content c n e p at) m
  cut_others n e p at none other =
      let ws = cut_wires c n e in
      let s : ℕ → Bool = λ (w : ℕ). has w (wires_of c n) in
      let a = length c.edges in
      let same : (w : ℕ) → s w ≡ false → get_or ws w [] ≡ outline c w = λ w h.
      let z : 0 + w ≡ w = omega arith in
      each_at (change e a s) (change_none e a s) 0 (wires_in c) w ∙ rw (z, h) in
      shell_kept c ok m (half_edges (edge_at c e) p (cut_curve (edge_at c e).curve at)) (flat ws) (map length ws) (omega (arith, edge_inside c ok n e p at none))
      (other_faces c n (own_faces c ok n e p at none) m other ws (each_long (change e a s) 0 (wires_in c)) same)

  -- a removal in another shell
  pub remove_others : (n p : ℕ) → remove_faults c n p ≡ [] → (m ≡ n → ⊥) → ShellKept c (remove_content c n p) m
  remove_others n p h other =
      let W = remove_wires c n p in
      let ws = ending_wires c n p in
      let a = first_wire ws in
      let b = last_wire ws in
      let allowed = remove_allowed c n p h in
      let listed : All (λ (w : ℕ). has w (wires_of c n) ≡ true) ws =
      all_only (λ (w : ℕ). has w (wires_of c n) ≡ true) (λ (w : ℕ). has p (map (back_in c) (outline c w))) (wires_of c n) (all_has (wires_of c n)) in
      let first : has a (wires_of c n) ≡ true = all_place (λ (w : ℕ). has w (wires_of c n) ≡ true) 0 ws listed 0 allowed.some in
      let last : has b (wires_of c n) ≡ true = all_place (λ (w : ℕ). has w (wires_of c n) ≡ true) 0 ws listed (length ws - 1) (omega (arith, allowed.some)) in
      let differs : (w v : ℕ) → has w (wires_of c n) ≡ false → has v (wires_of c n) ≡ true → w ≡ v → ⊥ = λ w v f t e. true≢false (sym t ∙ ap (λ (x : ℕ). has x (wires_of c n)) (sym e) ∙ f) in
      let x = first_changed c ok n p h in
      let y = last_changed c ok n p h in
      let same : (w : ℕ) → has w (wires_of c n) ≡ false → get_or W w [] ≡ outline c w = λ w f.
      ap (λ (r : List (List ℕ)). get_or r w []) (wires_changed c ok n p h)
      ∙ get_or-set_other (set (wires_in c) a x) b w y [] (differs w b f last) ∙ get_or-set_other (wires_in c) a w x [] (differs w a f first) in
      shell_kept c ok m (joined_edge c (end_use c p b) (next_use c p b) ∷ []) (flat W) (map length W)
      (omega (arith, end_use_named c ok p b (last_ends c ok n p h)))
      (other_faces c n allowed.own m other W (wires_many c ok n p h ∙ sym (length_split c.wires c.uses)) same)

  -- a concat, of every shell
  pub concat_others : (u v : ℕ) → concat_faults c u v ≡ [] → ShellKept c (concat_content c u v) m
  concat_others u v h =
      shell_kept c ok m (joined_edge c u v ∷ []) c.uses c.wires (omega (arith, (concat_allowed c u v h).one))
      (all_each (λ (l : ℕ). get_or (outlines c) (face_number l) [] ≡ get_or (outlines c) (face_number l) []) 0 (listings_of c m) (λ k l. refl))

-- ---- the theorem: of a pattern in storage, an edit refused or not, and a shell that it is no edit of
pub same_shell : (c : Content) (m : ℕ) → ShellKept c c m
same_shell c m = record {
  listings_kept = refl;
  faces_kept = refl;
  uses_kept = refl;
  fronts_kept = refl;
  backs_kept = refl;
  condition_kept = refl;
  connected_kept = refl;
  openings_kept = refl;
  lookups_kept = refl;
  components_kept = refl;
  singular_kept = refl;
}

module _ (p : Pattern) (full : Full p) (m : ℕ) where
  after_kept : (es : List EditError) (d : Content) → (pattern_faults p ≡ [] → es ≡ [] → count_faults (counts_of d) ≡ []) → (pattern_faults p ≡ [] → es ≡ [] → ShellKept (content p) d m)
      → ShellKept (content p) (content (pattern_after p es d)) m
  after_kept es d few kept = go (pattern_faults p) es few kept
    where
      go : (fs : List Refusal) (es : List EditError) → (fs ≡ [] → es ≡ [] → count_faults (counts_of d) ≡ []) → (fs ≡ [] → es ≡ [] → ShellKept (content p) d m)
          → ShellKept (content p) (content (judged fs es (λ (f : Refusal). p) (λ (e : EditError). p) (stored_in p d))) m
      go (f ∷ fs) es few kept = same_shell (content p) m
      go [] (e ∷ es) few kept = same_shell (content p) m
      go [] [] few kept = rw (stored_content p full d (few refl refl)) (kept refl refl)

  pub others_kept : (x : Edit) → Elsewhere x m → ShellKept (content p) (content (do_edit p x)) m
  others_kept (cut n e v at) other =
      let c = content p in
      after_kept (cut_faults c n e v at) (cut_content c n e v at) (λ ok none. cut_few p n e v at ok full none)
      (λ ok none. cut_others c (pattern_passed p ok).content m n e v at none other)
  others_kept (remove n v) other =
      let c = content p in
      after_kept (remove_faults c n v) (remove_content c n v) (remove_few p full n v) (λ ok none. remove_others c (pattern_passed p ok).content m n v none other)
  others_kept (concat u v) other =
      let c = content p in
      after_kept (concat_faults c u v) (concat_content c u v) (λ ok none. concat_few p full u v none) (λ ok none. concat_others c (pattern_passed p ok).content m u v none)
  others_kept (vertex label) other =
      let c = content p in
      after_kept (vertex_faults c label) (vertex_content c label) (λ ok none. vertex_few p full label none) (λ ok none. vertex_kept c (pattern_passed p ok).content label m)
