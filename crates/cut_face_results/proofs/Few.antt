-- Uses of edges whose ends are among 2,048 points: they are named; a wire that meets no point twice has at most 2,048.
use Prim.Native.Nat.{◌<◌, ◌≤◌, ℕ}
use mathlib.Core.Bool.{Bool, false, true}
use mathlib.Core.List.{List, [], ◌++◌, ◌∷◌, map, reverse}
use mathlib.Core.Logic.{⊎_elim}
use mathlib.Core.Path.{◌≡◌, refl, sym}
use native.Mathlib.Omega.{arith}
use lib.Dec.{leb, ltb}
use lib.ListN.{drop, get_or, length, length-append, take}
use borrow.Author.Tests.{le-leb, lt-leb, ltb-false, ltb-true}
use Rattle.cut_face_results.specs.Results.{PointEnds, keeps}
use Rattle.edge.specs.Uses.{edge_number, front_of, turned}
use Rattle.errors.specs.Faults.{each}
use Rattle.errors.specs.declared.WireError.{WireError}
use Rattle.errors.specs.declared.Refusal.TheVariants.{Wire}
use Rattle.face.specs.Faces.{shared_faults}
use Rattle.face_edits.specs.FaceEdits.{first_of, keeps_rule, no_fault, second_of}
use Rattle.face_parts.proofs.Laws.{simple_short}
use Rattle.lists.proofs.Count.{All, all_append, all_drop, all_each, all_map, all_reverse, all_take}
use Rattle.lists.proofs.Laws.{cases}
use Rattle.lists.proofs.Marks.{disjoint_nil}
use Rattle.lists.proofs.Parts.{all_place}
use Rattle.lists.specs.Lists.{pick}
use Rattle.std.specs.Prelude.{Ok, is_ok}
use Rattle.wire.proofs.Laws.{simple_sound}
use Rattle.wire.specs.Named.{Named}
use Rattle.wire.specs.Wires.{points, wire_faults}
use Rattle.edge.specs.Below.{EdgesBelow}
use Rattle.errors.specs.Sequence.{first_of_wire}

-- ---- named uses
pick_below : (b : Bool) (x y n : ℕ) → x < n → y < n → pick b x y < n
pick_below true x y n h k = h
pick_below false x y n h k = k

pub flipped : (fronts backs : List ℕ) → PointEnds fronts backs → PointEnds backs fronts
flipped fronts backs s = record {
  alike = sym s.alike;
  front = λ e h. s.back e (omega (arith, s.alike));
  back = λ e h. s.front e (omega (arith, s.alike));
}

pub named_of : (fronts backs us : List ℕ) → PointEnds fronts backs → EdgesBelow (length fronts) us → Named fronts backs us
unfolding front_of
named_of fronts backs us s h = record {
  alike = s.alike;
  edge = h;
  point = λ k l. pick_below (leb 32768 (get_or us k 0)) _ _ 2048 (s.back (edge_number (get_or us k 0)) (h k l)) (s.front (edge_number (get_or us k 0)) (h k l));
}

pub named_flipped : (fronts backs us : List ℕ) → PointEnds fronts backs → EdgesBelow (length fronts) us → Named backs fronts us
named_flipped fronts backs us s h = named_of backs fronts us (flipped fronts backs s) (λ k l. omega (arith, h k l, s.alike))

abbrev Of : ℕ → ℕ → Type 0
Of n u = edge_number u < n

uses_all : (n : ℕ) (us : List ℕ) → EdgesBelow n us → All (Of n) us
uses_all n us h = all_each (Of n) 0 us h

all_uses : (n : ℕ) (us : List ℕ) → All (Of n) us → EdgesBelow n us
all_uses n us h = all_place (Of n) 0 us h

pub rotated_uses : (n : ℕ) (us : List ℕ) → EdgesBelow n us → (i : ℕ) → EdgesBelow n (drop i us ++ take i us)
rotated_uses n us h i =
    all_uses n (drop i us ++ take i us) (all_append (Of n) (drop i us) (take i us) (all_drop (Of n) i us (uses_all n us h)) (all_take (Of n) i us (uses_all n us h)))

turned_of : (n u : ℕ) → Of n u → Of n (turned u)
turned_of n u h =
    ⊎_elim
    (λ (b : ltb u 32768 ≡ true). let l = ltb-true u 32768 b in rw (lt-leb 32768 u l) (omega (arith, l)))
    (λ (b : ltb u 32768 ≡ false). let l = ltb-false u 32768 b in rw (le-leb 32768 u l) (omega (arith, l)))
    (cases (ltb u 32768))

module _ (n : ℕ) (along us : List ℕ) (h : EdgesBelow n along) (g : EdgesBelow n us) (k : ℕ) where
  first_all : All (Of n) (first_of along k us)
  unfolding first_of
  first_all = all_append (Of n) (take k along) us (all_take (Of n) k along (uses_all n along h)) (uses_all n us g)

  second_all : All (Of n) (second_of along k us)
  unfolding second_of
  second_all =
      all_append (Of n) (drop k along) (map turned (reverse us)) (all_drop (Of n) k along (uses_all n along h))
      (all_map (Of n) (Of n) turned (turned_of n) (reverse us) (all_reverse (Of n) us (uses_all n us g)))

  pub first_uses : EdgesBelow n (first_of along k us)
  first_uses = all_uses n (first_of along k us) first_all

  pub second_uses : EdgesBelow n (second_of along k us)
  second_uses = all_uses n (second_of along k us) second_all

-- ---- the face rule of one wire
module _ (fronts backs : List ℕ) where
  -- the judgement of a wire is the rule of it alone
  pub judged_rule : (us : List ℕ) → is_ok (first_of_wire (wire_faults fronts backs us)) ≡ keeps fronts backs us
  unfolding each shared_faults
  judged_rule us = rw (disjoint_nil (points fronts backs us)) (go (wire_faults fronts backs us))
    where
      go : (es : List WireError) → is_ok (first_of_wire es) ≡ no_fault (map (Wire 0) es ++ [] ++ ([] ++ []))
      go [] = refl
      go (e ∷ es) = refl

  none_simple : (es : List WireError) → no_fault (map (Wire 0) es ++ [] ++ ([] ++ [])) ≡ true → first_of_wire es ≡ Ok tt
  none_simple [] h = refl
  none_simple (e ∷ es) h = cc

  kept_simple : (us : List ℕ) → keeps_rule fronts backs (us ∷ []) ≡ true → first_of_wire (wire_faults fronts backs us) ≡ Ok tt
  unfolding each shared_faults
  kept_simple us h = none_simple (wire_faults fronts backs us) (rw (disjoint_nil (points fronts backs us)) at h)

  pub kept_few : (us : List ℕ) → Named fronts backs us → keeps_rule fronts backs (us ∷ []) ≡ true → length us ≤ 2048
  kept_few us n h = simple_short fronts backs us n (simple_sound fronts backs us (kept_simple us h)).once

  -- a wire of more than 2,048 uses
  pub long_breaks : (along us : List ℕ) (k : ℕ) → PointEnds fronts backs → EdgesBelow (length fronts) along → EdgesBelow (length fronts) us → 2048 < length us
      → keeps_rule fronts backs (first_of along k us ∷ []) ≡ false
  unfolding first_of
  long_breaks along us k s h g l =
      ⊎_elim
      (λ (b : keeps_rule fronts backs (first_of along k us ∷ []) ≡ true).
      absurd (omega (arith, l, length-append (take k along) us, kept_few (first_of along k us) (named_of fronts backs (first_of along k us) s (first_uses (length fronts) along us h g k)) b)))
      (λ (b : keeps_rule fronts backs (first_of along k us ∷ []) ≡ false). b)
      (cases (keeps_rule fronts backs (first_of along k us ∷ [])))
