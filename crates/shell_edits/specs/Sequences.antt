-- Edits one after the other, each accepted or refused, and the edge numbers they give (FORMAT 4.1).
use Rattle.edge.specs.declared.EdgeID.{EdgeID}
use Rattle.edit_answers.specs.declared.EditError.{EditError}
use Rattle.errors.specs.declared.CallError.{CallError}
use Rattle.std.specs.Prelude.{ℕ, zero, suc, List, [], ◌∷◌, ◌++◌, ◌≡◌, length, Err, Ok, Result}
use Rattle.curve.specs.declared.Parameter.{Parameter}
use Rattle.edge.specs.declared.Edge.{Edge}
use Rattle.pattern.specs.Contents.{Pattern, content}
use Rattle.shell_edits.specs.Answers.{after_concat, after_cut, after_remove, after_vertex, concat_answer, cut_answer, remove_answer}

-- cut edge e of shell n at point v, where the search put it; remove point v of shell n; concat of uses u and v; add a point
pub data Edit : Type 0 where
  cut : (n e v : ℕ) (at : Parameter) → Edit
  remove : (n v : ℕ) → Edit
  concat : (u v : ℕ) → Edit
  vertex : (label : ℕ) → Edit

-- it is no edit of shell m
abbrev pub Elsewhere : Edit → ℕ → Type 0
Elsewhere (cut n e v at) m = m ≡ n → ⊥
Elsewhere (remove n v) m = m ≡ n → ⊥
Elsewhere (concat u v) m = Unit {0}
Elsewhere (vertex label) m = Unit {0}

-- the pattern afterwards
abbrev pub do_edit : Pattern → Edit → Pattern
do_edit p (cut n e v at) = after_cut p n e v at
do_edit p (remove n v) = after_remove p n v
do_edit p (concat u v) = after_concat p u v
do_edit p (vertex label) = after_vertex p label

unfoldable pub do_edits : Pattern → List Edit → Pattern
do_edits p [] = p
do_edits p (x ∷ xs) = do_edits (do_edit p x) xs

-- the edge numbers that an answer gives: none if it refuses
abbrev pub cut_gives : Result (EdgeID × EdgeID) (CallError EditError) → List ℕ
cut_gives (Ok (a, b)) = a.0 ∷ b.0 ∷ []
cut_gives (Err e) = []

abbrev pub join_gives : Result EdgeID (CallError EditError) → List ℕ
join_gives (Ok a) = a.0 ∷ []
join_gives (Err e) = []

abbrev pub gives : Pattern → Edit → List ℕ
gives p (cut n e v at) = cut_gives (cut_answer p n e v at)
gives p (remove n v) = join_gives (remove_answer p n v)
gives p (concat u v) = join_gives (concat_answer p u v)
gives p (vertex label) = []

-- all numbers given, in sequence
unfoldable pub numbers_given : Pattern → List Edit → List ℕ
numbers_given p [] = []
numbers_given p (x ∷ xs) = gives p x ++ numbers_given (do_edit p x) xs

-- a, a + 1, .., n of them
unfoldable pub numbers_from : ℕ → ℕ → List ℕ
numbers_from a zero = []
numbers_from a (suc n) = a ∷ numbers_from (suc a) n

-- the edges of q are those of p and then new ones, and the numbers are those of the new ones
pub record Numbered (p q : Pattern) (given : List ℕ) : Type 0 where
  pub new : List Edge
  pub edges : (content q).edges ≡ (content p).edges ++ new
  pub numbers : given ≡ numbers_from (length (content p).edges) (length new)
