-- An edit of a pattern in storage, refused or not; the answers of edits that make one edge.
use Rattle.errors.specs.declared.CallError.TheVariants.{Refused}
use Rattle.std.specs.Prelude.{Err, Ok}
use Prim.Native.Nat.{◌+◌, ◌≤◌, ℕ}
use mathlib.Core.Bool.{Bool, false, not, true, true≢false}
use mathlib.Core.List.{List, [], ◌++◌, ◌∷◌, append_assoc, append-nil}
use mathlib.Core.Path.{◌∙◌, ◌≡◌, ap, refl, sym}
use native.Mathlib.Omega.{arith}
use lib.Dec.{eqb}
use lib.ListN.{get_or, length, length-take, take}
use borrow.Author.Tests.{le-leb, leb-false, lt-leb}
use Rattle.curve.specs.Curves.{join_curves}
use Rattle.edge.specs.declared.Edge.{Edge}
use Rattle.edge.specs.declared.EdgeID.{EdgeID}
use Rattle.edit_answers.specs.Answers.{answer_of, edit_number}
use Rattle.edit_answers.specs.declared.EditError.{EditError}
use Rattle.edit_answers.specs.declared.EditError.TheVariants.{NoSpace, SameEnds, SpanRefused}
use Rattle.errors.specs.Faults.{each}
use Rattle.errors.specs.declared.Refusal.{Refusal}
use Rattle.lists.proofs.Count.{All, all_append}
use Rattle.lists.proofs.Parts.{only_append}
use Rattle.lists.specs.Lists.{only, unless}
use Rattle.pattern.proofs.Counts.{Full}
use Rattle.pattern.specs.Checks.{content_faults, count_faults, pattern_faults}
use Rattle.pattern.specs.Contents.{Content, Pattern, content, counts_of}
use Rattle.shell_edits.specs.Answers.{join_answer, next_edge, pattern_after}
use Rattle.shell_edits.specs.Edits.{edge_of, edited, join_faults, room_for_edges, vertex_content}
use Rattle.shell_edits.specs.NewEdges.{is_joined, use_back, use_front}
use Rattle.shell_edits.specs.Theorems.{Given, OnlyFull, others}
use Rattle.pattern.proofs.Stored.{stored_accepted, stored_content}

-- counts within the limits
seven : (a b c d e f g : ℕ) → a ≤ 2048 → b ≤ 1024 → c ≤ 4096 → d ≤ 1024 → e ≤ 256 → f ≤ 16 → g ≤ 512 → count_faults (a ∷ b ∷ c ∷ d ∷ e ∷ f ∷ g ∷ []) ≡ []
unfolding each
seven a b c d e f g ha hb hc hd he hf hg =
    rw (le-leb a 2048 ha, le-leb b 1024 hb, le-leb c 4096 hc, le-leb d 1024 hd, le-leb e 256 he, le-leb f 16 hf, le-leb g 512 hg)

part_few {ℓ} : {A : Type ℓ} (n m : ℕ) (xs : List A) → length xs ≡ m → length (take n xs) ≤ m
part_few n m xs h = omega (arith, length-take n xs)

module _ (p : Pattern) (full : Full p) where
  pub edges_few : length (content p).edges ≤ 1024
  edges_few = part_few (get_or p.counts 1 0) 1024 p.edges full.edges

  pub wires_few : length (content p).wires ≤ 1024
  wires_few = part_few (get_or p.counts 3 0) 1024 p.wires full.wires

  pub uses_few : length (content p).uses ≤ 4096
  uses_few = part_few (get_or p.counts 2 0) 4096 p.uses full.uses

  pub points_few : length (content p).points ≤ 2048
  points_few = part_few (get_or p.counts 0 0) 2048 p.points full.points

  faces_few : length (content p).faces ≤ 256
  faces_few = part_few (get_or p.counts 4 0) 256 p.faces full.faces

  shells_few : length (content p).shells ≤ 16
  shells_few = part_few (get_or p.counts 5 0) 16 p.shells full.shells

  listings_few : length (content p).listings ≤ 512
  listings_few = part_few (get_or p.counts 6 0) 512 p.listings full.listings

  -- an edit changes edges, uses and wires alone
  pub edited_few : (es : List Edge) (uses wires : List ℕ) → length ((content p).edges ++ es) ≤ 1024 → length uses ≤ 4096 → length wires ≤ 1024
      → count_faults (counts_of (edited (content p) es uses wires)) ≡ []
  edited_few es uses wires e u w =
      seven (length (content p).points) (length ((content p).edges ++ es)) (length uses) (length wires) (length (content p).faces) (length (content p).shells) (length (content p).listings)
      points_few e u w faces_few shells_few listings_few

  -- a point that is added changes the points alone
  pub vertex_counts : (label : ℕ) → length ((content p).points ++ (label ∷ [])) ≤ 2048 → count_faults (counts_of (vertex_content (content p) label)) ≡ []
  vertex_counts label h =
      seven (length ((content p).points ++ (label ∷ []))) (length (content p).edges) (length (content p).uses) (length (content p).wires) (length (content p).faces) (length (content p).shells) (length (content p).listings)
      h edges_few uses_few wires_few faces_few shells_few listings_few

  -- refused or not, an accepted pattern stays so
  module _ (ok : pattern_faults p ≡ []) (c : Content) where
    pub after_accepted : (es : List EditError) → (es ≡ [] → (count_faults (counts_of c) ≡ []) × (content_faults c ≡ [])) → pattern_faults (pattern_after p es c) ≡ []
    after_accepted [] h = rw ok (stored_accepted p full c (h refl).0 (h refl).1)
    after_accepted (e ∷ es) h = rw ok ok

joined_only : (fs : List Refusal) (es : List EditError) (a b : EdgeID) → answer_of fs es a ≡ Ok b → (fs ≡ []) × (es ≡ []) × (a ≡ b)
joined_only [] [] a b h = (refl, refl, cc)
joined_only [] (e ∷ es) a b h = (refl, cc, cc)
joined_only (f ∷ fs) es a b h = (cc, cc, cc)

-- the number that is given
pub given : (p : Pattern) → Full p → (es : List EditError) (e : Edge) (uses wires : List ℕ) (a : EdgeID)
    → (pattern_faults p ≡ [] → es ≡ [] → count_faults (counts_of (edited (content p) (e ∷ []) uses wires)) ≡ []) → join_answer p es ≡ Ok a
    → Given p (pattern_after p es (edited (content p) (e ∷ []) uses wires)) a e
given p full es e uses wires a few h =
    let c = edited (content p) (e ∷ []) uses wires in
    let t = joined_only (pattern_faults p) es (next_edge p 0) a h in (
      ap (λ (b : EdgeID). b.0) (sym t.2) ∙ omega arith,
      rw (t.0, t.1) (ap (λ (d : Content). d.edges) (stored_content p full c (few t.0 t.1))),
    )

-- ---- 17

-- a refusal other than 17
abbrev pub NotFull : EditError → Type 0
NotFull e = not (eqb (edit_number e) 17) ≡ true

pub unless_not_full : (b : Bool) (e : EditError) → NotFull e → All NotFull (unless b e)
unless_not_full true e h = tt
unless_not_full false e h = (h, tt)

others_all : (es : List EditError) → All NotFull es → others es ≡ es
unfolding only
others_all [] h = refl
others_all (e ∷ es) h = rw (h.0, others_all es h.1)

no_others : (b : Bool) → others (unless b NoSpace) ≡ []
unfolding only
no_others true = refl
no_others false = refl

not_only : (fs : List Refusal) (es : List EditError) (a : EdgeID) → answer_of fs es a ≡ Err (Refused NoSpace) → (fs ≡ []) × (take 1 es ≡ NoSpace ∷ [])
not_only [] [] a h = (refl, cc)
not_only [] (e ∷ es) a h = let z : e ≡ NoSpace = cc in (refl, ap (λ (d : EditError). d ∷ []) z)
not_only (f ∷ fs) es a h = (cc, cc)

pub first_full : (es : List EditError) (b : Bool) → All NotFull es → take 1 (es ++ unless b NoSpace) ≡ NoSpace ∷ [] → (es ≡ []) × (b ≡ false)
first_full [] true h t = (refl, cc)
first_full [] false h t = (refl, refl)
first_full (e ∷ es) b h t =
    let z : e ≡ NoSpace = cc in
    let f : false ≡ true = rw z at h.0 in
    absurd (true≢false (sym f))

pub more_not_full : (es : List EditError) (b : Bool) (e : EditError) → All NotFull es → NotFull e → All NotFull (es ++ unless b e)
more_not_full es b e h n = all_append NotFull es (unless b e) h (unless_not_full b e n)

module _ (p : Pattern) (full : Full p) (es : List EditError) (h : All NotFull es) where
  abbrev room : Bool
  room = room_for_edges (length (content p).edges + 1)

  abbrev all : List EditError
  all = es ++ unless room NoSpace

  apart : others all ≡ es
  apart = only_append (λ (e : EditError). not (eqb (edit_number e) 17)) es (unless room NoSpace) ∙ rw (others_all es h, no_others room) (append-nil es)

  -- 17 is answered only if nothing else is wrong and the edges are full
  no_space : join_answer p all ≡ (Err (Refused NoSpace)) → OnlyFull p all
  no_space a =
      let t = not_only (pattern_faults p) all (next_edge p 0) a in
      let s = first_full es room h t.1 in
      let many : length (content p).edges ≡ 1024 = omega (arith, leb-false (length (content p).edges + 1) 1024 s.1, edges_few p full) in
      (t.0, apart ∙ s.0, many)

  -- and then it is
  full_answered : OnlyFull p all → join_answer p all ≡ (Err (Refused NoSpace))
  full_answered t =
      let none : es ≡ [] = sym apart ∙ t.1 in
      let many : length (content p).edges ≡ 1024 = t.2 in
      let closed : room ≡ false = lt-leb (length (content p).edges + 1) 1024 (omega (arith, many)) in
      rw (t.0, none, closed)

-- other refusals, then those of a join
module _ (p : Pattern) (full : Full p) (es : List EditError) (h : All NotFull es) (u v : ℕ) where
  abbrev c : Content
  c = content p

  abbrev ends : List EditError
  ends =
      unless (not (eqb (use_front (edge_of c u) u).0 (use_back (edge_of c v) v).0)) SameEnds
      ++ unless (is_joined (join_curves (edge_of c u).curve (edge_of c v).curve)) SpanRefused

  ends_not_full : All NotFull ends
  ends_not_full =
      let same = eqb (use_front (edge_of c u) u).0 (use_back (edge_of c v) v).0 in
      more_not_full (unless (not same) SameEnds) (is_joined (join_curves (edge_of c u).curve (edge_of c v).curve)) SpanRefused (unless_not_full (not same) SameEnds refl) refl

  pub join_no_space : (join_answer p (es ++ join_faults c u v) ≡ (Err (Refused NoSpace)) → OnlyFull p (es ++ join_faults c u v)) × (OnlyFull p (es ++ join_faults c u v) → join_answer p (es ++ join_faults c u v) ≡ (Err (Refused NoSpace)))
  join_no_space =
      let both = all_append NotFull es ends h ends_not_full in
      rw (← append_assoc es ends (unless (room_for_edges (length c.edges + 1)) NoSpace)) (no_space p full (es ++ ends) both, full_answered p full (es ++ ends) both)
