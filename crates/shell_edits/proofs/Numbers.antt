-- Edge numbers are never given twice: the theorem of the numbers, over any sequence of edits.
use Prim.Native.Nat.{◌+◌, ◌<◌, suc, zero, ℕ}
use mathlib.Core.Bool.{false, true}
use mathlib.Core.List.{List, [], ◌++◌, ◌∷◌, append_assoc, append-nil}
use mathlib.Core.Path.{◌∙◌, ◌≡◌, ap, refl, sym}
use native.Mathlib.Omega.{arith}
use lib.ListN.{length, length-append}
use borrow.Author.Tests.{ne_eqb}
use Rattle.curve.specs.Curves.{cut_curve}
use Rattle.edge.specs.declared.Edge.{Edge}
use Rattle.edge.specs.declared.EdgeID.{EdgeID}
use Rattle.edit_answers.specs.Answers.{answer_of, judged}
use Rattle.edit_answers.specs.declared.EditError.{EditError}
use Rattle.errors.specs.declared.Refusal.{Refusal}
use Rattle.lists.specs.Lists.{has, no_dup}
use Rattle.pattern.proofs.Counts.{Full}
use Rattle.pattern.proofs.Passed.{pattern_passed}
use Rattle.pattern.proofs.Stored.{stored_content, stored_full}
use Rattle.pattern.specs.Checks.{content_faults, count_faults, pattern_faults}
use Rattle.pattern.specs.Contents.{Content, Pattern, content, counts_of, stored_in}
use Rattle.shell_edits.proofs.ConcatTheorem.{concat_few}
use Rattle.shell_edits.proofs.CutMade.{two_more}
use Rattle.shell_edits.proofs.CutTheorem.{cut_few}
use Rattle.shell_edits.proofs.RemoveTheorem.{remove_few}
use Rattle.shell_edits.proofs.VertexTheorem.{vertex_few}
use Rattle.shell_edits.specs.Answers.{next_edge, pattern_after}
use Rattle.shell_edits.specs.Edits.{concat_content, concat_faults, cut_content, cut_faults, edge_at, end_use, ending_wires, joined_edge, last_wire, next_use, remove_content, remove_faults, vertex_content, vertex_faults}
use Rattle.shell_edits.specs.NewEdges.{half_edges}
use Rattle.shell_edits.specs.Sequences.{Edit, Numbered, concat, cut, cut_gives, do_edit, do_edits, gives, join_gives, numbers_from, numbers_given, remove, vertex}

-- ---- consecutive numbers

from_append : (a m n : ℕ) → numbers_from a m ++ numbers_from (a + m) n ≡ numbers_from a (m + n)
unfolding numbers_from
from_append a zero n = let z : a + 0 ≡ a = omega arith in let y : 0 + n ≡ n = omega arith in rw (z, y)
from_append a (suc m) n =
    let z : a + suc m ≡ suc a + m = omega arith in
    let y : suc m + n ≡ suc (m + n) = omega arith in
    rw (z, y) (ap (λ (r : List ℕ). a ∷ r) (from_append (suc a) m n))

from_above : (x a n : ℕ) → x < a → has x (numbers_from a n) ≡ false
unfolding numbers_from has
from_above x a zero h = refl
from_above x a (suc n) h = rw (ne_eqb x a (λ e. omega (arith, e))) (from_above x (suc a) n (omega arith))

from_once : (a n : ℕ) → no_dup (numbers_from a n) ≡ true
unfolding numbers_from no_dup
from_once a zero = refl
from_once a (suc n) = rw (from_above a (suc a) n (omega arith)) (from_once (suc a) n)

-- ---- one edit

-- nothing new
same : (p : Pattern) → Numbered p p []
unfolding numbers_from
same p = record { new = []; edges = sym (append-nil (content p).edges); numbers = refl }

-- an edit with these refusals, if any, to content c, that makes the edges `new`
module _ (p : Pattern) (full : Full p) (c : Content) (new : List Edge) (more : c.edges ≡ (content p).edges ++ new) (ns : List ℕ) where
  abbrev Done : Pattern → List ℕ → Type 0
  Done q given = Full q × Numbered p q given

  one_edit : (es : List EditError) → (pattern_faults p ≡ [] → es ≡ [] → count_faults (counts_of c) ≡ [])
      → (pattern_faults p ≡ [] → es ≡ [] → ns ≡ numbers_from (length (content p).edges) (length new))
      → Done (pattern_after p es c) (judged (pattern_faults p) es (λ (f : Refusal). []) (λ (e : EditError). []) ns)
  one_edit es few given = go (pattern_faults p) es refl few given
    where
      as_before : Done p []
      as_before = (full, same p)

      go : (fs : List Refusal) (es : List EditError) → pattern_faults p ≡ fs → (fs ≡ [] → es ≡ [] → count_faults (counts_of c) ≡ [])
          → (fs ≡ [] → es ≡ [] → ns ≡ numbers_from (length (content p).edges) (length new))
          → Done (judged fs es (λ (f : Refusal). p) (λ (e : EditError). p) (stored_in p c)) (judged fs es (λ (f : Refusal). []) (λ (e : EditError). []) ns)
      go (f ∷ fs) es is few given = as_before
      go [] (e ∷ es) is few given = as_before
      go [] [] is few given = (
        stored_full p full c (few refl refl),
        record { new = new; edges = ap (λ (d : Content). d.edges) (stored_content p full c (few refl refl)) ∙ more; numbers = given refl refl },
      )

-- what an answer gives
cut_gives_lem : (fs : List Refusal) (es : List EditError) (a b : EdgeID)
    → cut_gives (answer_of fs es (a, b)) ≡ judged fs es (λ (f : Refusal). []) (λ (e : EditError). []) (a.0 ∷ b.0 ∷ [])
cut_gives_lem (f ∷ fs) es a b = refl
cut_gives_lem [] (e ∷ es) a b = refl
cut_gives_lem [] [] a b = refl

join_gives_lem : (fs : List Refusal) (es : List EditError) (a : EdgeID)
    → join_gives (answer_of fs es a) ≡ judged fs es (λ (f : Refusal). []) (λ (e : EditError). []) (a.0 ∷ [])
join_gives_lem (f ∷ fs) es a = refl
join_gives_lem [] (e ∷ es) a = refl
join_gives_lem [] [] a = refl

none_given : (fs : List Refusal) (es : List EditError) → judged {A = List ℕ} fs es (λ (f : Refusal). []) (λ (e : EditError). []) [] ≡ []
none_given (f ∷ fs) es = refl
none_given [] (e ∷ es) = refl
none_given [] [] = refl

next_none : (a : ℕ) → [] ≡ numbers_from a 0
unfolding numbers_from
next_none a = refl

next_one : (a : ℕ) → (a + 0) ∷ [] ≡ numbers_from a 1
unfolding numbers_from
next_one a = let z : a + 0 ≡ a = omega arith in rw z

next_two : (a n : ℕ) → n ≡ 2 → (a + 0) ∷ (a + 1) ∷ [] ≡ numbers_from a n
unfolding numbers_from
next_two a n e = let z : a + 0 ≡ a = omega arith in let y : a + 1 ≡ suc a = omega arith in rw (e, z, y)

pub edit_done : (p : Pattern) → Full p → (x : Edit) → Full (do_edit p x) × Numbered p (do_edit p x) (gives p x)
edit_done p full (cut n e v at) =
    let c = content p in
    let es = cut_faults c n e v at in
    let new = half_edges (edge_at c e) v (cut_curve (edge_at c e).curve at) in
    let fine : pattern_faults p ≡ [] → content_faults c ≡ [] = λ ok. (pattern_passed p ok).content in
    rw (cut_gives_lem (pattern_faults p) es (next_edge p 0) (next_edge p 1))
    (one_edit p full (cut_content c n e v at) new refl ((length c.edges + 0) ∷ (length c.edges + 1) ∷ []) es
    (λ ok none. cut_few p n e v at ok full none)
    (λ ok none. next_two (length c.edges) (length new) (omega (arith, two_more c (fine ok) n e v at none, length-append c.edges new))))
edit_done p full (remove n v) =
    let c = content p in
    let es = remove_faults c n v in
    let w = last_wire (ending_wires c n v) in
    let new = joined_edge c (end_use c v w) (next_use c v w) ∷ [] in
    rw (join_gives_lem (pattern_faults p) es (next_edge p 0))
    (one_edit p full (remove_content c n v) new refl ((length c.edges + 0) ∷ []) es (remove_few p full n v) (λ ok none. next_one (length c.edges)))
edit_done p full (concat u v) =
    let c = content p in
    let es = concat_faults c u v in
    rw (join_gives_lem (pattern_faults p) es (next_edge p 0))
    (one_edit p full (concat_content c u v) (joined_edge c u v ∷ []) refl ((length c.edges + 0) ∷ []) es (λ ok none. concat_few p full u v none) (λ ok none. next_one (length c.edges)))
edit_done p full (vertex label) =
    let c = content p in
    let es = vertex_faults c label in
    rw (none_given (pattern_faults p) es) at
    (one_edit p full (vertex_content c label) [] (sym (append-nil c.edges)) [] es (λ ok none. vertex_few p full label none) (λ ok none. next_none (length c.edges)))

-- ---- one after the other

then : (p q r : Pattern) (ns ms : List ℕ) → Numbered p q ns → Numbered q r ms → Numbered p r (ns ++ ms)
then p q r ns ms f g =
    let a = length (content p).edges in
    let m = length f.new in
    let n = length g.new in
    let z : length (content q).edges ≡ a + m = ap length f.edges ∙ length-append (content p).edges f.new in
    let later : ms ≡ numbers_from (a + m) n = g.numbers ∙ ap (λ (b : ℕ). numbers_from b n) z in
    record {
      new = f.new ++ g.new;
      edges = g.edges ∙ ap (λ (es : List Edge). es ++ g.new) f.edges ∙ append_assoc (content p).edges f.new g.new;
      numbers = rw (f.numbers, later, length-append f.new g.new) (from_append a m n);
    }

edits_done : (p : Pattern) → Full p → (xs : List Edit) → Numbered p (do_edits p xs) (numbers_given p xs)
unfolding do_edits numbers_given
edits_done p full [] = same p
edits_done p full (x ∷ xs) =
    let d = edit_done p full x in
    then p (do_edit p x) (do_edits (do_edit p x) xs) (gives p x) (numbers_given (do_edit p x) xs) d.1 (edits_done (do_edit p x) d.0 xs)

-- ---- the theorem
module _ (p : Pattern) (full : Full p) (xs : List Edit) where
  -- the edges afterwards are those before and then the new ones; the numbers given are theirs, in sequence
  pub edits_numbered : Numbered p (do_edits p xs) (numbers_given p xs)
  edits_numbered = edits_done p full xs

  -- so no number is given twice
  pub never_twice : no_dup (numbers_given p xs) ≡ true
  never_twice = ap no_dup edits_numbered.numbers ∙ from_once (length (content p).edges) (length edits_numbered.new)
