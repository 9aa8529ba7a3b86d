-- Laws of the marks: with a stamp above all marks, the stamped points are those of the list `seen`.
use Prim.Native.Nat.{◌+◌, ◌<◌, ◌≤◌, suc, zero, ℕ}
use mathlib.Core.Bool.{Bool, ◌&&◌, ◌||◌, and-true, false, not, or_assoc, or-false, or-true, true}
use mathlib.Core.List.{List, [], ◌++◌, ◌∷◌, append_assoc, append-nil}
use mathlib.Core.Logic.{⊎_elim}
use mathlib.Core.Path.{◌∙◌, ◌≡◌, refl, sym}
use native.Mathlib.Numerals.{add-one}
use native.Mathlib.Omega.{arith}
use lib.Dec.{eqb, ltb}
use lib.ListN.{drop, drop_of_length-le, get_or, length, length-set, replicate, set}
use lib.Seq.{drop-cons, get_or-set_other, get_or-set_same, set_out}
use borrow.Author.Tests.{eq-eqb, eqb-false, eqb-true, ltb-false, ltb-true, ne_eqb}
use Rattle.lists.proofs.Laws.{cases, eqb_sym, has_append}
use Rattle.lists.specs.Lists.{disjoint, has, no_dup}
use Rattle.lists.specs.Marks.{Below, met, stamped}

-- the marks have the stamp at the points of `seen`, and at no other of the n points
pub record Holds (n s : ℕ) (marks seen : List ℕ) : Type 0 where
  pub long : length marks ≡ n
  pub same : (k : ℕ) → k < n → eqb (get_or marks k 0) s ≡ has k seen

-- every point of the list is below n
abbrev pub AllBelow : ℕ → List ℕ → Type 0
AllBelow n ps = (k : ℕ) → k < length ps → get_or ps k 0 < n

pub all_tail : (n p : ℕ) (ps : List ℕ) → AllBelow n (p ∷ ps) → AllBelow n ps
all_tail n p ps h k l = h (suc k) (omega arith)

pub holds_fresh : (n s : ℕ) (marks : List ℕ) → length marks ≡ n → Below s marks → Holds n s marks []
unfolding has
holds_fresh n s marks l b = record { long = l; same = λ k _. ne_eqb (get_or marks k 0) s (λ e. omega (arith, b k)) }

-- one more point is stamped
pub holds_set : (n s p : ℕ) (marks seen : List ℕ) → Holds n s marks seen → p < n → Holds n s (set marks p s) (seen ++ (p ∷ []))
unfolding has
holds_set n s p marks seen h l = record {
  long = length-set marks p s ∙ h.long;
  same = λ k b. rw (has_append k seen (p ∷ []))
      (⊎_elim
      (λ (e : eqb k p ≡ true).
      rw (e, eqb-true k p e, get_or-set_same marks p s 0 (omega (arith, h.long)), eq-eqb s s refl) (sym (or-true (has p seen))))
      (λ (e : eqb k p ≡ false).
      rw (e, get_or-set_other marks p k s 0 (eqb-false k p e), h.same k b) (sym (or-false (has k seen))))
      (cases (eqb k p)));
}

pub holds_stamped : (n s : ℕ) (ps marks seen : List ℕ) → Holds n s marks seen → AllBelow n ps → Holds n s (stamped s ps marks) (seen ++ ps)
unfolding stamped
holds_stamped n s [] marks seen h a = rw (append-nil seen) h
holds_stamped n s (p ∷ ps) marks seen h a =
    rw (append_assoc seen (p ∷ []) ps) at
    (holds_stamped n s ps (set marks p s) (seen ++ (p ∷ [])) (holds_set n s p marks seen h (a 0 (omega arith))) (all_tail n p ps a))

pub disjoint_nil : (ps : List ℕ) → disjoint ps [] ≡ true
unfolding disjoint has
disjoint_nil [] = refl
disjoint_nil (p ∷ ps) = disjoint_nil ps

split_not : (a b c d e : Bool) → c ≡ (d && e) → (not (a || b) && c) ≡ ((not a && d) && (not b && e))
split_not true b c d e p = refl
split_not false true c true e p = refl
split_not false true c false e p = refl
split_not false false c d e p = p

pub disjoint_append : (ps xs ys : List ℕ) → disjoint ps (xs ++ ys) ≡ (disjoint ps xs && disjoint ps ys)
unfolding disjoint
disjoint_append [] xs ys = refl
disjoint_append (p ∷ ps) xs ys =
    rw (has_append p xs ys) (split_not (has p xs) (has p ys) _ (disjoint ps xs) (disjoint ps ys) (disjoint_append ps xs ys))

not_or : (a b : Bool) → not (a || b) ≡ (not a && not b)
not_or true b = refl
not_or false b = refl

pub disjoint_one : (ps : List ℕ) (q : ℕ) → disjoint ps (q ∷ []) ≡ not (has q ps)
unfolding disjoint has
disjoint_one [] q = refl
disjoint_one (p ∷ ps) q = rw (disjoint_one ps q, eqb_sym p q, or-false (eqb q p), not_or (eqb q p) (has q ps))

met_step : (a d x n : Bool) → (a || not ((d && x) && n)) ≡ not ((not a && d) && (x && n))
met_step true d x n = refl
met_step false true x n = refl
met_step false false x n = refl

-- a point is met again if it was seen before, or stands twice among the points
pub met_says : (n s : ℕ) (ps marks seen : List ℕ) → Holds n s marks seen → AllBelow n ps
    → met s ps marks ≡ not (disjoint ps seen && no_dup ps)
unfolding met disjoint no_dup
met_says n s [] marks seen h a = refl
met_says n s (p ∷ ps) marks seen h a =
    rw (
      h.same p (a 0 (omega arith)),
      met_says n s ps (set marks p s) (seen ++ (p ∷ [])) (holds_set n s p marks seen h (a 0 (omega arith))) (all_tail n p ps a),
      disjoint_append ps seen (p ∷ []),
      disjoint_one ps p,
    )
    (met_step (has p seen) (disjoint ps seen) (not (has p ps)) (no_dup ps))

-- of one list of points alone, with nothing seen before
pub met_fresh : (n s : ℕ) (ps marks : List ℕ) → length marks ≡ n → Below s marks → AllBelow n ps → met s ps marks ≡ not (no_dup ps)
met_fresh n s ps marks l b a = met_says n s ps marks [] (holds_fresh n s marks l b) a ∙ rw (disjoint_nil ps)

-- of points that are all different
pub met_seen : (n s : ℕ) (ps marks seen : List ℕ) → Holds n s marks seen → AllBelow n ps → no_dup ps ≡ true
    → met s ps marks ≡ not (disjoint ps seen)
met_seen n s ps marks seen h a d = met_says n s ps marks seen h a ∙ rw (d, and-true (disjoint ps seen))

pub below_later : (s t : ℕ) (marks : List ℕ) → Below s marks → s ≤ t → Below t marks
below_later s t marks b l p = omega (arith, b p)

-- marks that are all 0
pub below_zeros : (n : ℕ) → Below 1 (replicate n 0)
below_zeros zero p = omega arith
below_zeros (suc n) zero = omega arith
below_zeros (suc n) (suc p) = below_zeros n p

pub below_set : (s t p : ℕ) (marks : List ℕ) → Below t marks → s < t → Below t (set marks p s)
below_set s t p marks b l q =
    ⊎_elim
    (λ (e : eqb q p ≡ true). ⊎_elim
    (λ (i : ltb p (length marks) ≡ true). rw (eqb-true q p e, get_or-set_same marks p s 0 (ltb-true p (length marks) i)) l)
    (λ (i : ltb p (length marks) ≡ false). rw (set_out marks p s (ltb-false p (length marks) i)) (b q))
    (cases (ltb p (length marks))))
    (λ (e : eqb q p ≡ false). rw (get_or-set_other marks p q s 0 (eqb-false q p e)) (b q))
    (cases (eqb q p))

pub below_stamped : (s t : ℕ) (ps marks : List ℕ) → Below t marks → s < t → Below t (stamped s ps marks)
unfolding stamped
below_stamped s t [] marks b l = b
below_stamped s t (p ∷ ps) marks b l = below_stamped s t ps (set marks p s) (below_set s t p marks b l) l

-- after the stamp s, the next stamp is above all marks
pub below_next : (s : ℕ) (ps marks : List ℕ) → Below s marks → Below (s + 1) (stamped s ps marks)
below_next s ps marks b = below_stamped s (s + 1) ps marks (below_later s (s + 1) marks b (omega arith)) (omega arith)

-- a loop that stamps point after point: what it has after i turns
pub record Stamping (s : ℕ) (ps marks₀ marks : List ℕ) (again : Bool) (i : ℕ) : Type 0 where
  pub low : i ≤ length ps
  pub long : length marks ≡ length marks₀
  pub answer : met s ps marks₀ ≡ (again || met s (drop i ps) marks)
  pub left : stamped s ps marks₀ ≡ stamped s (drop i ps) marks

pub stamping_start : (s : ℕ) (ps marks : List ℕ) → Stamping s ps marks marks false 0
stamping_start s ps marks = record { low = omega arith; long = refl; answer = refl; left = refl }

pub stamping_next : (s : ℕ) (ps marks₀ marks : List ℕ) (again : Bool) (i p : ℕ) → Stamping s ps marks₀ marks again i → i < length ps
    → p ≡ get_or ps i 0 → Stamping s ps marks₀ (set marks p s) (again || eqb (get_or marks p 0) s) (i + 1)
unfolding met stamped
stamping_next s ps marks₀ marks again i p h l e = record {
  low = omega arith;
  long = length-set marks p s ∙ h.long;
  answer = rw (h.answer, add-one, drop-cons {A = ℕ} ps i 0 l, ← e, or_assoc);
  left = rw (h.left, add-one, drop-cons {A = ℕ} ps i 0 l, ← e);
}

-- a turn that meets the stamp, and one that does not
pub stamping_again : (s : ℕ) (ps marks₀ marks : List ℕ) (again : Bool) (i p : ℕ) → Stamping s ps marks₀ marks again i → i < length ps
    → p ≡ get_or ps i 0 → get_or marks p 0 ≡ s → Stamping s ps marks₀ (set marks p s) true (i + 1)
stamping_again s ps marks₀ marks again i p h l e m =
    rw (eq-eqb (get_or marks p 0) s m, or-true again) at (stamping_next s ps marks₀ marks again i p h l e)

pub stamping_on : (s : ℕ) (ps marks₀ marks : List ℕ) (again : Bool) (i p : ℕ) → Stamping s ps marks₀ marks again i → i < length ps
    → p ≡ get_or ps i 0 → (get_or marks p 0 ≡ s → ⊥) → Stamping s ps marks₀ (set marks p s) again (i + 1)
stamping_on s ps marks₀ marks again i p h l e m =
    rw (ne_eqb (get_or marks p 0) s m, or-false again) at (stamping_next s ps marks₀ marks again i p h l e)

pub stamping_met : (s : ℕ) (ps marks₀ marks : List ℕ) (again : Bool) (i : ℕ) → Stamping s ps marks₀ marks again i → length ps ≤ i
    → again ≡ met s ps marks₀
unfolding met
stamping_met s ps marks₀ marks again i h l = sym (rw (h.answer, drop_of_length-le ps l, or-false again))

pub stamping_marks : (s : ℕ) (ps marks₀ marks : List ℕ) (again : Bool) (i : ℕ) → Stamping s ps marks₀ marks again i → length ps ≤ i
    → marks ≡ stamped s ps marks₀
unfolding stamped
stamping_marks s ps marks₀ marks again i h l = sym (rw (h.left, drop_of_length-le ps l))
